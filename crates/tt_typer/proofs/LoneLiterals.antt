-- An expression that is one written value has that value.
use Rattle.std.proofs.Common.{◌≡◌, Bool, true, false, cond, ◌&&◌, ◌==◌, List, [], ◌∷◌, length, Option, Some, None, refl, ap, ◌∙◌, arith}
use Rattle.std.specs.Prelude.{fold, ◌*ℤ◌}
use Rattle.std.proofs.lemmas.Bool.{and_parts, eqb-true}
use Rattle.std.proofs.lemmas.Option.{none-some, same_Some}
use Rattle.tt_value.specs.declared.value.Value.{Value}
use Rattle.tt_value.specs.declared.value.Row.{Row}
use Rattle.tt_value.specs.declared.name.Literal.{Literal}
use Rattle.tt_value.specs.declared.expression.Sign.{Sign}
use Rattle.tt_value.specs.declared.expression.Expr.{Expr, out-Expr}
use Rattle.tt_value.specs.declared.expression.Addend.{Addend}
use Rattle.tt_value.specs.declared.expression.Term.{Term, out-Term}
use Rattle.tt_value.specs.declared.expression.Factor.{Factor}
use Rattle.tt_value.specs.declared.expression.Factor.TheVariants as factor
use Rattle.tt_value.specs.trees.Scope.{Scope}
use Rattle.tt_value.specs.trees.Expressions.{on_numbers, then_both, add_signed, factor_value, value_of}
use Rattle.tt_sql.proofs.machine.ExpressionTrees.{by_factor}
use Rattle.tt_plain.specs.Expressions.{literal_of, lone_literal}
use Rattle.tt_typer.proofs.ValueFolds.{of_term, of_factor, of_expr_out, of_term_out, of_literal}

no_items : {A : Type 0} (xs : List A) → (length xs == 0) ≡ true → xs ≡ []
no_items [] is = refl
no_items (x ∷ xs) is = absurd (omega (arith, eqb-true (length (x ∷ xs)) 0 is))

literal_is : (f : Factor) (l : Literal) → literal_of f ≡ Some l → f ≡ factor.Literal l
literal_is f l = by_factor (λ f. literal_of f ≡ Some l → f ≡ factor.Literal l)
    (λ m is. ap factor.Literal (same_Some m l is))
    (λ c is. absurd (none-some l is))
    (λ place e is. absurd (none-some l is))
    (λ place g is. absurd (none-some l is))
    f

pub record IsLone (e : Expr) (l : Literal) : Type 0 where
  pub one_term : (out-Expr e).others ≡ []
  pub one_factor : (out-Term (out-Expr e).first).others ≡ []
  pub literal : (out-Term (out-Expr e).first).first ≡ factor.Literal l

some_if : (b : Bool) (o : Option Literal) (l : Literal) → cond b o None ≡ Some l → (b ≡ true) × (o ≡ Some l)
some_if true o l is = (refl, is)
some_if false o l is = absurd (none-some l is)

pub lone_is : (e : Expr) (l : Literal) → lone_literal e ≡ Some l → IsLone e l
lone_is e l is =
    let sum = out-Expr e in
    let product = out-Term sum.first in
    let both = some_if (length sum.others == 0 && length product.others == 0) (literal_of product.first) l is in
    let none = and_parts (length sum.others == 0) (length product.others == 0) both.0 in
    record { one_term = no_items sum.others none.0; one_factor = no_items product.others none.1; literal = literal_is product.first l both.1 }

module _ (scope : Scope) (row : Row) where
  abbrev add : Sign → Option Value → Option Value → Option Value
  add sign a b = then_both (add_signed sign) a b

  abbrev times : Option Value → Option Value → Option Value
  times a b = then_both (on_numbers (λ x y. x *ℤ y)) a b

  abbrev value_term : Term → Option Value
  value_term = of_term (Option Value) (factor_value scope row) add times

  abbrev value_factor : Factor → Option Value
  value_factor = of_factor (Option Value) (factor_value scope row) add times

  pub lone_value : (e : Expr) (l : Literal) → lone_literal e ≡ Some l → value_of scope row e ≡ Some l.value
  unfolding value_of
  lone_value e l is =
      let lone = lone_is e l is in
      of_expr_out (Option Value) (factor_value scope row) add times e
      ∙ ap (fold (λ so_far (a : Addend). add a.sign so_far (value_term a.term)) (value_term (out-Expr e).first)) lone.one_term
      ∙ of_term_out (Option Value) (factor_value scope row) add times (out-Expr e).first
      ∙ ap (fold (λ so_far f. times so_far (value_factor f)) (value_factor (out-Expr e).first.first)) lone.one_factor
      ∙ ap value_factor lone.literal
      ∙ of_literal (Option Value) (factor_value scope row) add times l
