-- Folds over expressions in which a further term keeps its sign, at one level.
use Rattle.std.proofs.Common.{◌≡◌, ℕ, List, [], ◌∷◌, map, refl, ap, sym, ◌∙◌}
use Rattle.std.specs.Prelude.{fold}
use Rattle.tt_value.specs.declared.name.Literal.{Literal}
use Rattle.tt_value.specs.declared.name.ColumnName.{ColumnName}
use Rattle.tt_value.specs.declared.expression.Sign.{Sign}
use Rattle.tt_value.specs.declared.expression.Expr.{Expr, out-Expr}
use Rattle.tt_value.specs.declared.expression.Addend.{Addend}
use Rattle.tt_value.specs.declared.expression.Term.{Term}
use Rattle.tt_value.specs.declared.expression.Factor.{Factor}
use Rattle.tt_value.specs.declared.expression.Factor.TheOpen.{Expr-F, Addend-F, Term-F, Factor-F}
use Rattle.tt_value.specs.declared.expression.Factor.TheFolds.{fold-Expr, fold-Term, fold-Factor, fold-Addend, fold_out-Expr, fold_out-Term, fold_out-Addend, fold-roll-Factor}
use Rattle.tt_value.specs.declared.expression.Factor.TheVariants as factor
use Rattle.tt_value.specs.declared.expression.Factor.TheVariants.{rolls-Literal, rolls-Column, rolls-Bracket, rolls-Negated}

pub fold_map : {A B R : Type 0} (step : R → B → R) (g : A → B) (start : R) (xs : List A) → fold step start (map g xs) ≡ fold (λ so_far x. step so_far (g x)) start xs
fold_map step g start [] = refl
fold_map step g start (x ∷ xs) = fold_map step g (step start (g x)) xs

module _ (R : Type 0) (factor_step : Factor-F R (Sign × R) R R → R) (add : Sign → R → R → R) (times : R → R → R) where
  abbrev pub signed : Addend-F R (Sign × R) R R → Sign × R
  signed a = (a.sign, a.term)

  abbrev pub sum : Expr-F R (Sign × R) R R → R
  sum e = fold (λ so_far a. add a.0 so_far a.1) e.first e.others

  abbrev pub product : Term-F R (Sign × R) R R → R
  product t = fold times t.first t.others

  abbrev pub of_expr : Expr → R
  of_expr = fold-Expr R (Sign × R) R R factor_step signed sum product

  abbrev pub of_term : Term → R
  of_term = fold-Term R (Sign × R) R R factor_step signed sum product

  abbrev pub of_factor : Factor → R
  of_factor = fold-Factor R (Sign × R) R R factor_step signed sum product

  addends : (xs : List Addend) → map (fold-Addend R (Sign × R) R R factor_step signed sum product) xs ≡ map (λ (a : Addend). (a.sign, of_term a.term)) xs
  addends [] = refl
  addends (x ∷ xs) = ap (λ y. y ∷ map (fold-Addend R (Sign × R) R R factor_step signed sum product) xs) (fold_out-Addend R (Sign × R) R R factor_step signed sum product x) ∙ ap (λ ys. (x.sign, of_term x.term) ∷ ys) (addends xs)

  pub of_expr_out : (e : Expr) → of_expr e ≡ fold (λ so_far (a : Addend). add a.sign so_far (of_term a.term)) (of_term (out-Expr e).first) (out-Expr e).others
  of_expr_out e =
      fold_out-Expr R (Sign × R) R R factor_step signed sum product e
      ∙ ap (fold (λ so_far a. add a.0 so_far a.1) (of_term (out-Expr e).first)) (addends (out-Expr e).others)
      ∙ fold_map (λ so_far (a : Sign × R). add a.0 so_far a.1) (λ (a : Addend). (a.sign, of_term a.term)) (of_term (out-Expr e).first) (out-Expr e).others

  pub of_term_out : (t : Term) → of_term t ≡ fold (λ so_far f. times so_far (of_factor f)) (of_factor t.first) t.others
  of_term_out t =
      fold_out-Term R (Sign × R) R R factor_step signed sum product t
      ∙ fold_map times of_factor (of_factor t.first) t.others

  pub of_literal : (l : Literal) → of_factor (factor.Literal l) ≡ factor_step (Factor-F.Literal l)
  of_literal l = ap of_factor (sym (rolls-Literal l)) ∙ fold-roll-Factor R (Sign × R) R R factor_step signed sum product (Factor-F.Literal l)

  pub of_column : (c : ColumnName) → of_factor (factor.Column c) ≡ factor_step (Factor-F.Column c)
  of_column c = ap of_factor (sym (rolls-Column c)) ∙ fold-roll-Factor R (Sign × R) R R factor_step signed sum product (Factor-F.Column c)

  pub of_bracket : (place : ℕ) (e : Expr) → of_factor (factor.Bracket place e) ≡ factor_step (Factor-F.Bracket place (of_expr e))
  of_bracket place e = ap of_factor (sym (rolls-Bracket place e)) ∙ fold-roll-Factor R (Sign × R) R R factor_step signed sum product (Factor-F.Bracket place e)

  pub of_negated : (place : ℕ) (f : Factor) → of_factor (factor.Negated place f) ≡ factor_step (Factor-F.Negated place (of_factor f))
  of_negated place f = ap of_factor (sym (rolls-Negated place f)) ∙ fold-roll-Factor R (Sign × R) R R factor_step signed sum product (Factor-F.Negated place f)
