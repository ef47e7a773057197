-- The value of an expression from the values of its parts.
use Rattle.std.proofs.Common.{◌≡◌, ℕ, ◌+◌, ◌<◌, ◌≤◌, List, ◌∷◌, drop, length, get_or, Option, Some, ap, sym, ◌∙◌}
use Rattle.std.proofs.lemmas.List.{drop_more, drop_all}
use Rattle.std.specs.Prelude.{fold, option_and_then, ◌*ℤ◌}
use Rattle.tt_value.specs.declared.value.Value.{Value}
use Rattle.tt_value.specs.declared.value.Row.{Row}
use Rattle.tt_value.specs.declared.name.Literal.{Literal}
use Rattle.tt_value.specs.declared.name.ColumnName.{ColumnName}
use Rattle.tt_value.specs.declared.expression.Expr.{Expr, out-Expr}
use Rattle.tt_value.specs.declared.expression.Addend.{Addend}
use Rattle.tt_value.specs.declared.expression.Term.{Term}
use Rattle.tt_value.specs.declared.expression.Factor.{Factor}
use Rattle.tt_value.specs.declared.expression.Factor.TheVariants as factor
use Rattle.tt_value.specs.declared.expression.Sign.{Sign}
use Rattle.tt_value.specs.trees.Scope.{Scope, column_value}
use Rattle.tt_value.specs.trees.Expressions.{value_of, factor_value, then_both, add_signed, on_numbers, negated}
use Rattle.tt_eval.specs.Parts.{term_value_of, factor_value_of}
use Rattle.tt_eval.proofs.ValueFolds.{of_expr_out, of_term_out, of_literal, of_column, of_bracket, of_negated}

abbrev add : Sign → Option Value → Option Value → Option Value
add sign a b = then_both (add_signed sign) a b

abbrev times : Option Value → Option Value → Option Value
times a b = then_both (on_numbers (λ x y. x *ℤ y)) a b

-- the sum so far with one more term, the product so far with one more factor
abbrev pub with_addend : Scope → Row → Option Value → Addend → Option Value
with_addend scope row so_far addend = then_both (add_signed addend.sign) so_far (term_value_of scope row addend.term)

abbrev pub with_factor : Scope → Row → Option Value → Factor → Option Value
with_factor scope row so_far f = then_both (on_numbers (λ x y. x *ℤ y)) so_far (factor_value_of scope row f)

pub expr_value : (scope : Scope) (row : Row) (e : Expr) → value_of scope row e ≡ fold (with_addend scope row) (term_value_of scope row (out-Expr e).first) (out-Expr e).others
unfolding value_of term_value_of
expr_value scope row e = of_expr_out (Option Value) (factor_value scope row) add times e

pub term_value : (scope : Scope) (row : Row) (t : Term) → term_value_of scope row t ≡ fold (with_factor scope row) (factor_value_of scope row t.first) t.others
unfolding term_value_of factor_value_of
term_value scope row t = of_term_out (Option Value) (factor_value scope row) add times t

pub literal_value : (scope : Scope) (row : Row) (l : Literal) → factor_value_of scope row (factor.Literal l) ≡ Some l.value
unfolding factor_value_of
literal_value scope row l = of_literal (Option Value) (factor_value scope row) add times l

pub name_value : (scope : Scope) (row : Row) (c : ColumnName) → factor_value_of scope row (factor.Column c) ≡ Some (column_value scope row c)
unfolding factor_value_of
name_value scope row c = of_column (Option Value) (factor_value scope row) add times c

pub bracket_value : (scope : Scope) (row : Row) (place : ℕ) (e : Expr) → factor_value_of scope row (factor.Bracket place e) ≡ value_of scope row e
unfolding factor_value_of value_of
bracket_value scope row place e = of_bracket (Option Value) (factor_value scope row) add times place e

pub negated_value : (scope : Scope) (row : Row) (place : ℕ) (f : Factor) → factor_value_of scope row (factor.Negated place f) ≡ option_and_then negated (factor_value_of scope row f)
unfolding factor_value_of
negated_value scope row place f = of_negated (Option Value) (factor_value scope row) add times place f

-- ---- one part more of those that are left

from_item : {X : Type 0} (xs : List X) (i : ℕ) (x : X) → i < length xs → x ≡ get_or xs i x → drop i xs ≡ x ∷ drop (i + 1) xs
from_item xs i x inside is = drop_more xs i x inside ∙ ap (λ y. y ∷ drop (i + 1) xs) (sym is)

pub goes_on : {X : Type 0} (step : Option Value → X → Option Value) (whole v : Option Value) (xs : List X) (i : ℕ) (x : X) → i < length xs → x ≡ get_or xs i x → fold step v (drop i xs) ≡ whole → fold step (step v x) (drop (i + 1) xs) ≡ whole
goes_on step whole v xs i x inside is h = sym (ap (fold step v) (from_item xs i x inside is)) ∙ h

pub ends : {X : Type 0} (step : Option Value → X → Option Value) (whole v : Option Value) (xs : List X) (i : ℕ) → length xs ≤ i → fold step v (drop i xs) ≡ whole → v ≡ whole
ends step whole v xs i past h = sym (ap (fold step v) (drop_all i xs past)) ∙ h
