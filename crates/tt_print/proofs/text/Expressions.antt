-- The words of an expression, level by level.
use Rattle.std.proofs.Common.{◌≡◌, ◌∷◌, ◌++◌, ap, ◌∙◌}
use Rattle.std.specs.Prelude.{codes}
use Rattle.std.specs.List.{flat_map}
use Rattle.tt_value.specs.declared.expression.Expr.{Expr, out-Expr, fold_out-Expr}
use Rattle.tt_value.specs.declared.expression.Term.{Term, fold_out-Term}
use Rattle.tt_print.specs.text.Words.{Words}
use Rattle.tt_print.specs.text.Expressions.{FactorWords, told_factor, expr_words, addend_words, term_words, factor_words, expr_level, addend_level, term_level, factor_level}
use Rattle.tt_print.proofs.text.Spacing.{flat_map-map}

pub expr_words-out : (e : Expr) → expr_words e ≡ term_words (out-Expr e).first ++ flat_map addend_words (out-Expr e).others
expr_words-out e = fold_out-Expr FactorWords Words Words Words factor_level addend_level expr_level term_level e ∙ ap (λ others. term_words (out-Expr e).first ++ others) (flat_map-map (λ addend. addend) addend_words (out-Expr e).others)

pub term_words-out : (t : Term) → term_words t ≡ factor_words t.first ++ flat_map (λ factor. codes "*" ∷ factor_words factor) t.others
term_words-out t = fold_out-Term FactorWords Words Words Words factor_level addend_level expr_level term_level t ∙ ap (λ others. factor_words t.first ++ others) (flat_map-map (λ factor. codes "*" ∷ factor.words) told_factor t.others)
