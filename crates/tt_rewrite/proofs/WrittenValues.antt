-- The value of a written expression on a row whose dates can be written can be written.
use Rattle.std.proofs.Common.{◌≡◌, ◌∙◌, ℕ, zero, suc, Bool, true, false, cond, List, [], ◌∷◌, Option, Some, None, sym, subst, ap}
use Rattle.std.specs.Prelude.{ℤ, fold, IfSome, option_and_then, slice_get, ◌+ℤ◌, ◌-ℤ◌, ◌*ℤ◌, pos, neg_ℤ, ◌^◌, ◌&&◌}
use Rattle.std.specs.List.{AllByRecursion}
use Rattle.std.specs.Int.RustNames.{int_le, int_lt}
use Rattle.tt_value.specs.declared.expression.Addend.{Addend}
use Rattle.tt_value.specs.declared.expression.Expr.{Expr, out-Expr}
use Rattle.tt_value.specs.declared.expression.Factor.{Factor, out-Factor, out-roll-Factor}
use Rattle.tt_value.specs.declared.expression.Factor.TheOpen.{Factor-F}
use Rattle.tt_value.specs.declared.expression.Factor.TheVariants.{rolls-Bracket, rolls-Literal}
use Rattle.tt_value.specs.declared.expression.Factor.TheVariants as factor
use Rattle.tt_value.specs.declared.expression.Sign.{Sign}
use Rattle.tt_value.specs.declared.expression.Sign.TheVariants.{Plus, Minus}
use Rattle.tt_value.specs.declared.expression.Term.{Term}
use Rattle.tt_value.specs.declared.name.Literal.{Literal}
use Rattle.tt_value.specs.declared.value.Row.{Row}
use Rattle.tt_value.specs.declared.value.Value.{Value}
use Rattle.tt_value.specs.declared.value.Value.TheVariants.{Null, Int, Date, Text}
use Rattle.tt_value.specs.trees.Expressions.{add_signed, factor_value, in_range, negated, on_numbers, then_both, value_of}
use Rattle.tt_value.specs.trees.Scope.{Scope, value_or_null}
use Rattle.tt_value.specs.values.RowText.{IsPrintableValue}
use Rattle.tt_sql.proofs.machine.ExpressionTrees.{by_factor}
use Rattle.tt_sql.specs.trees.Expressions.{ExprHas, FactorHas, IsWrittenExpr, IsWrittenFactor, TermHas}
use Rattle.tt_sql.specs.trees.Leaves.{IsWrittenValue}
use Rattle.tt_typer.proofs.ValueFolds.{of_bracket, of_column, of_expr, of_expr_out, of_factor, of_literal, of_negated, of_term, of_term_out}

abbrev pub Can : Option Value → Type 0
Can o = IfSome o IsPrintableValue

can_if : (b : Bool) (n : ℤ) → Can (cond b (Some (Int n)) None)
can_if true n = tt
can_if false n = tt

in_range_can : (n : ℤ) → Can (in_range n)
in_range_can n = can_if (int_le (neg_ℤ (pos (2 ^ 63))) n && int_lt n (pos (2 ^ 63))) n

on_numbers_can : (f : ℤ → ℤ → ℤ) (a b : Value) → Can (on_numbers f a b)
on_numbers_can f Null b = tt
on_numbers_can f (Int a) Null = tt
on_numbers_can f (Int a) (Int b) = in_range_can (f a b)
on_numbers_can f (Int a) (Date b) = tt
on_numbers_can f (Int a) (Text b) = tt
on_numbers_can f (Date a) b = tt
on_numbers_can f (Text a) b = tt

can_both : (f : Value → Value → Option Value) → ((v w : Value) → Can (f v w)) → (a b : Option Value) → Can (then_both f a b)
can_both f each None b = tt
can_both f each (Some v) None = tt
can_both f each (Some v) (Some w) = each v w

sum_can : (sign : Sign) (a b : Option Value) → Can (then_both (add_signed sign) a b)
sum_can Plus a b = can_both (add_signed Plus) (on_numbers_can (λ x y. x +ℤ y)) a b
sum_can Minus a b = can_both (add_signed Minus) (on_numbers_can (λ x y. x -ℤ y)) a b

product_can : (a b : Option Value) → Can (then_both (on_numbers (λ x y. x *ℤ y)) a b)
product_can a b = can_both (on_numbers (λ x y. x *ℤ y)) (on_numbers_can (λ x y. x *ℤ y)) a b

negation_can : (a : Option Value) → Can (option_and_then negated a)
negation_can None = tt
negation_can (Some (Int n)) = in_range_can (neg_ℤ n)
negation_can (Some Null) = tt
negation_can (Some (Date day)) = tt
negation_can (Some (Text bytes)) = tt

fold_can : {X : Type 0} (step : Option Value → X → Option Value) → ((so_far : Option Value) (x : X) → Can (step so_far x)) → (xs : List X) (start : Option Value) → Can start → Can (fold step start xs)
fold_can step each [] start can = can
fold_can step each (x ∷ xs) start can = fold_can step each xs (step start x) (each start x)

literal_can : (v : Value) → IsWrittenValue v → IsPrintableValue v
literal_can Null is = tt
literal_can (Int n) is = tt
literal_can (Date day) is = is
literal_can (Text bytes) is = tt

there_can : (values : List Value) (k : ℕ) → AllByRecursion IsPrintableValue values → IsPrintableValue (value_or_null (slice_get values k))
there_can [] k all = tt
there_can (v ∷ values) zero all = all.0
there_can (v ∷ values) (suc k) all = there_can values k all.1

column_can : (values : List Value) (place : Option ℕ) → AllByRecursion IsPrintableValue values → IsPrintableValue (value_or_null (option_and_then (λ k. slice_get values k) place))
column_can values None all = tt
column_can values (Some k) all = there_can values k all

-- ---- a factor, layer by layer

out_literal : (l : Literal) → out-Factor (factor.Literal l) ≡ Factor-F.Literal l
out_literal l = ap out-Factor (sym (rolls-Literal l)) ∙ out-roll-Factor (Factor-F.Literal l)

out_bracket : (place : ℕ) (e : Expr) → out-Factor (factor.Bracket place e) ≡ Factor-F.Bracket place e
out_bracket place e = ap out-Factor (sym (rolls-Bracket place e)) ∙ out-roll-Factor (Factor-F.Bracket place e)

module _ (scope : Scope) (row : Row) (all : AllByRecursion IsPrintableValue row.values) where
  abbrev add : Sign → Option Value → Option Value → Option Value
  add sign a b = then_both (add_signed sign) a b

  abbrev times : Option Value → Option Value → Option Value
  times a b = then_both (on_numbers (λ x y. x *ℤ y)) a b

  abbrev value_expr : Expr → Option Value
  value_expr = of_expr (Option Value) (factor_value scope row) add times

  abbrev value_term : Term → Option Value
  value_term = of_term (Option Value) (factor_value scope row) add times

  abbrev value_factor : Factor → Option Value
  value_factor = of_factor (Option Value) (factor_value scope row) add times

  module _ (P : Factor → Type 0) (each : (f : Factor) → P f → Can (value_factor f)) where
    term_can : (t : Term) → TermHas P t → Can (value_term t)
    term_can t has =
        subst Can (sym (of_term_out (Option Value) (factor_value scope row) add times t))
        (fold_can (λ so_far (f : Factor). times so_far (value_factor f)) (λ so_far f. product_can so_far (value_factor f)) t.others (value_factor t.first) (each t.first has.0))

    expr_can : (e : Expr) → ExprHas P e → Can (value_expr e)
    expr_can e has =
        subst Can (sym (of_expr_out (Option Value) (factor_value scope row) add times e))
        (fold_can (λ so_far (a : Addend). add a.sign so_far (value_term a.term)) (λ so_far a. sum_can a.sign so_far (value_term a.term)) (out-Expr e).others (value_term (out-Expr e).first) (term_can (out-Expr e).first has.0))

    layer_can : (f : Factor) → FactorHas P (out-Factor f) → Can (value_factor f)
    layer_can = by_factor (λ f. FactorHas P (out-Factor f) → Can (value_factor f))
        (λ l has. subst Can (sym (of_literal (Option Value) (factor_value scope row) add times l)) (literal_can l.value (subst (FactorHas P) (out_literal l) has)))
        (λ c has. subst Can (sym (of_column (Option Value) (factor_value scope row) add times c)) (column_can row.values (scope.place_of c) all))
        (λ place e has. subst Can (sym (of_bracket (Option Value) (factor_value scope row) add times place e)) (expr_can e (subst (FactorHas P) (out_bracket place e) has)))
        (λ place f has. subst Can (sym (of_negated (Option Value) (factor_value scope row) add times place f)) (negation_can (value_factor f)))

  factor_can : (levels : ℕ) (f : Factor) → IsWrittenFactor levels f → Can (value_factor f)
  unfolding IsWrittenFactor
  factor_can zero f has = layer_can (λ g. ⊥) (λ g no. absurd no) f has
  factor_can (suc levels) f has = layer_can (IsWrittenFactor levels) (factor_can levels) f has

  pub written_can : (levels : ℕ) (e : Expr) → IsWrittenExpr levels e → Can (value_of scope row e)
  unfolding value_of
  written_can levels e has = expr_can (IsWrittenFactor levels) (factor_can levels) e has
