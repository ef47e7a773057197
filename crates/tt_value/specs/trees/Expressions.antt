-- The value of an expression on a row. It has none where a number leaves 64 bits, also on the way.
use Rattle.std.specs.Prelude.{ℤ, pos, neg_ℤ, ◌+ℤ◌, ◌-ℤ◌, ◌*ℤ◌, ◌^◌, ◌&&◌, if◌then◌else◌, fold, Option, Some, None, option_and_then}
use Rattle.std.specs.Int.RustNames.{int_le, int_lt}
use Rattle.tt_value.specs.declared.value.Value.{Value}
use Rattle.tt_value.specs.declared.value.Value.TheVariants.{Null, Int}
use Rattle.tt_value.specs.declared.value.Row.{Row}
use Rattle.tt_value.specs.declared.expression.Sign.{Sign}
use Rattle.tt_value.specs.declared.expression.Sign.TheVariants.{Plus, Minus}
use Rattle.tt_value.specs.declared.expression.Expr.{Expr}
use Rattle.tt_value.specs.declared.expression.Factor.TheFolds.{fold-Expr}
use Rattle.tt_value.specs.declared.expression.Factor.TheOpen.{Expr-F, Addend-F, Term-F, Factor-F}
use Rattle.tt_value.specs.trees.Scope.{Scope, column_value}

-- a number of 64 bits
abbrev pub in_range : ℤ → Option Value
in_range n = if int_le (neg_ℤ (pos (2 ^ 63))) n && int_lt n (pos (2 ^ 63)) then Some (Int n) else None

-- Arithmetic with NULL is NULL. Values that are no numbers are refused before.
abbrev pub on_numbers : (ℤ → ℤ → ℤ) → Value → Value → Option Value
on_numbers f (Int a) (Int b) = in_range (f a b)
on_numbers f a b = Some Null

abbrev pub negated : Value → Option Value
negated (Int n) = in_range (neg_ℤ n)
negated v = Some Null

-- the next step on two values that are there
abbrev pub then_both : (Value → Value → Option Value) → Option Value → Option Value → Option Value
then_both f a b = option_and_then (λ x. option_and_then (f x) b) a

abbrev pub add_signed : Sign → Value → Value → Option Value
add_signed Plus a b = on_numbers (λ x y. x +ℤ y) a b
add_signed Minus a b = on_numbers (λ x y. x -ℤ y) a b

-- The steps of the fold over the four types of an expression: what each gives, given what its parts give.
module _ (scope : Scope) (row : Row) where
  abbrev pub Step : (Type 0 → Type 0 → Type 0 → Type 0 → Type 0) → Type 0 → Type 0
  Step Layer R = Layer (Option Value) (Sign × Option Value) (Option Value) (Option Value) → R

  abbrev pub factor_value : Step Factor-F (Option Value)
  factor_value (Factor-F.Literal l) = Some l.value
  factor_value (Factor-F.Column c) = Some (column_value scope row c)
  factor_value (Factor-F.Bracket place e) = e
  factor_value (Factor-F.Negated place f) = option_and_then negated f

  abbrev pub addend_value : Step Addend-F (Sign × Option Value)
  addend_value addend = (addend.sign, addend.term)

  -- from the left, so each partial sum counts
  abbrev pub sum_value : Step Expr-F (Option Value)
  sum_value e = fold (λ so_far addend. then_both (add_signed addend.0) so_far addend.1) e.first e.others

  abbrev pub product_value : Step Term-F (Option Value)
  product_value t = fold (λ so_far factor. then_both (on_numbers (λ x y. x *ℤ y)) so_far factor) t.first t.others

  -- the value of an expression; none where it is out of range
  unfoldable pub value_of : Expr → Option Value
  value_of = fold-Expr (Option Value) (Sign × Option Value) (Option Value) (Option Value) factor_value addend_value sum_value product_value
