-- The words of expressions.
use Rattle.std.specs.Prelude.{ℕ, Bool, false, List, [], ◌∷◌, ◌++◌, codes, pos}
use Rattle.std.specs.List.{flat_map}
use Rattle.std.specs.Ordering.{int_eq}
use Rattle.tt_value.specs.declared.value.Value.{Value}
use Rattle.tt_value.specs.declared.value.Value.TheVariants.{Null, Int, Date, Text}
use Rattle.tt_value.specs.declared.expression.Sign.{Sign}
use Rattle.tt_value.specs.declared.expression.Sign.TheVariants.{Plus, Minus}
use Rattle.tt_value.specs.declared.expression.Expr.{Expr}
use Rattle.tt_value.specs.declared.expression.Addend.{Addend}
use Rattle.tt_value.specs.declared.expression.Term.{Term}
use Rattle.tt_value.specs.declared.expression.Factor.{Factor}
use Rattle.tt_value.specs.declared.expression.Factor.TheOpen.{Expr-F, Addend-F, Term-F, Factor-F}
use Rattle.tt_value.specs.declared.expression.Factor.TheFolds.{fold-Expr, fold-Addend, fold-Term, fold-Factor}
use Rattle.tt_print.specs.text.Words.{Words, word_if, literal_words, column_name_words}

abbrev pub sign_word : Sign → List ℕ
sign_word Plus = codes "+"
sign_word Minus = codes "-"

abbrev pub is_zero : Value → Bool
is_zero (Int n) = int_eq n (pos 0)
is_zero Null = false
is_zero (Date day) = false
is_zero (Text bytes) = false

-- the words of a factor, and whether it is the number 0
pub record FactorWords : Type 0 where
  pub words : Words
  pub zero : Bool

-- One level of a tree, with the words of each part in its place.
abbrev pub expr_level : Expr-F FactorWords Words Words Words → Words
expr_level expr = expr.first ++ flat_map (λ addend. addend) expr.others

abbrev pub addend_level : Addend-F FactorWords Words Words Words → Words
addend_level addend = sign_word addend.sign ∷ addend.term

abbrev pub term_level : Term-F FactorWords Words Words Words → Words
term_level term = term.first.words ++ flat_map (λ factor. codes "*" ∷ factor.words) term.others

-- A minus directly before a number belongs to the number. So a 0 behind a minus has one of its own: `- - 0`.
abbrev pub factor_level : Factor-F FactorWords Words Words Words → FactorWords
factor_level (Factor-F.Literal literal) = record { words = literal_words literal; zero = is_zero literal.value }
factor_level (Factor-F.Column column) = record { words = column_name_words column; zero = false }
factor_level (Factor-F.Bracket place expr) = record { words = codes "(" ∷ expr ++ codes ")" ∷ []; zero = false }
factor_level (Factor-F.Negated place factor) = record { words = codes "-" ∷ (word_if factor.zero (codes "-") ++ factor.words); zero = false }

abbrev pub expr_words : Expr → Words
expr_words expr = fold-Expr FactorWords Words Words Words factor_level addend_level expr_level term_level expr

abbrev pub addend_words : Addend → Words
addend_words addend = fold-Addend FactorWords Words Words Words factor_level addend_level expr_level term_level addend

abbrev pub term_words : Term → Words
term_words term = fold-Term FactorWords Words Words Words factor_level addend_level expr_level term_level term

abbrev pub told_factor : Factor → FactorWords
told_factor factor = fold-Factor FactorWords Words Words Words factor_level addend_level expr_level term_level factor

abbrev pub factor_words : Factor → Words
factor_words factor = (told_factor factor).words

abbrev pub is_zero_factor : Factor → Bool
is_zero_factor factor = (told_factor factor).zero
