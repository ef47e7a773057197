-- The meaning of expressions and predicates with no case but those that kinds allow. There is none where a name is no column, where one calculates with what is no number, compares values of two kinds, has a text that is no date beside a DATE, or asks how something begins that is no text. NULL is of every kind.
use Rattle.std.specs.Prelude.{ℕ, ◌*ℤ◌, Bool, true, ◌&&◌, if◌then◌else◌, List, fold, map, slice_get, Option, Some, None, option_and_then}
use Rattle.std.specs.Option.{option_map}
use Rattle.tt_value.specs.declared.value.Kind.{Kind}
use Rattle.tt_value.specs.declared.value.Kind.TheVariants as kinds
use Rattle.tt_value.specs.declared.value.Value.{Value}
use Rattle.tt_value.specs.declared.value.Value.TheVariants.{Date, Text}
use Rattle.tt_value.specs.declared.value.Row.{Row}
use Rattle.tt_value.specs.declared.name.ColumnName.{ColumnName}
use Rattle.tt_value.specs.declared.name.Literal.{Literal}
use Rattle.tt_value.specs.declared.expression.Sign.{Sign}
use Rattle.tt_value.specs.declared.expression.Expr.{Expr}
use Rattle.tt_value.specs.declared.expression.Factor.TheFolds.{fold-Expr}
use Rattle.tt_value.specs.declared.expression.Factor.TheOpen.{Expr-F, Addend-F, Term-F, Factor-F}
use Rattle.tt_value.specs.declared.predicate.Truth.{Truth}
use Rattle.tt_value.specs.declared.predicate.Truth.TheVariants.{False}
use Rattle.tt_value.specs.declared.predicate.Operand.{Operand}
use Rattle.tt_value.specs.declared.predicate.Operand.TheVariants as operand
use Rattle.tt_value.specs.declared.predicate.Comparison.{Comparison}
use Rattle.tt_value.specs.declared.predicate.Comparison.TheVariants.{Equal, LessOrEqual, GreaterOrEqual}
use Rattle.tt_value.specs.declared.predicate.Predicate.{Predicate}
use Rattle.tt_value.specs.declared.predicate.Unit.TheFolds.{fold-Predicate}
use Rattle.tt_value.specs.declared.predicate.Unit.TheOpen.{Predicate-F, Conjunction-F, Unit-F}
use Rattle.tt_value.specs.calendar.Reading.{day_of}
use Rattle.tt_value.specs.trees.Scope.{Scope, kind_of}
use Rattle.tt_value.specs.trees.Expressions.{on_numbers, negated, then_both, add_signed}
use Rattle.tt_value.specs.trees.Predicates.{compared, begins, is_null, operand_kind}
use Rattle.tt_value.specs.trees.Truths.{truth_of_bool, not_truth, and_truth, or_truth, not_if}
use Rattle.tt_plain.specs.Kinds.{fits}

-- given two that are there
abbrev pub for_both : {A B C : Type 0} → (A → B → Option C) → Option A → Option B → Option C
for_both f a b = option_and_then (λ x. option_and_then (f x) b) a

-- what the column that a name means holds
abbrev pub value_there : Scope → Row → ColumnName → Option Value
value_there scope row c = option_and_then (λ k. slice_get row.values k) (scope.place_of c)

-- ---- expressions: within, none where a number leaves 64 bits

-- What is out of range was a number.
abbrev pub is_number : Option Value → Bool
is_number None = true
is_number (Some v) = fits (Some kinds.Int) (kind_of v)

-- a step of the meaning, with numbers alone
abbrev pub with_numbers : (Option Value → Option Value → Option Value) → Option Value → Option Value → Option (Option Value)
with_numbers f a b = if is_number a && is_number b then Some (f a b) else None

abbrev pub negated_number : Option Value → Option (Option Value)
negated_number a = if is_number a then Some (option_and_then negated a) else None

abbrev pub strict_sum : Sign → Option (Option Value) → Option (Option Value) → Option (Option Value)
strict_sum sign a b = for_both (with_numbers (then_both (add_signed sign))) a b

abbrev pub strict_product : Option (Option Value) → Option (Option Value) → Option (Option Value)
strict_product a b = for_both (with_numbers (then_both (on_numbers (λ x y. x *ℤ y)))) a b

module _ (scope : Scope) (row : Row) where
  abbrev pub StrictStep : (Type 0 → Type 0 → Type 0 → Type 0 → Type 0) → Type 0 → Type 0
  StrictStep Layer R = Layer (Option (Option Value)) (Sign × Option (Option Value)) (Option (Option Value)) (Option (Option Value)) → R

  abbrev pub strict_factor : StrictStep Factor-F (Option (Option Value))
  strict_factor (Factor-F.Literal l) = Some (Some l.value)
  strict_factor (Factor-F.Column c) = option_map (λ v. Some v) (value_there scope row c)
  strict_factor (Factor-F.Bracket place e) = e
  strict_factor (Factor-F.Negated place f) = option_and_then negated_number f

  abbrev pub strict_addend : StrictStep Addend-F (Sign × Option (Option Value))
  strict_addend addend = (addend.sign, addend.term)

  abbrev pub strict_expr : StrictStep Expr-F (Option (Option Value))
  strict_expr e = fold (λ so_far addend. strict_sum addend.0 so_far addend.1) e.first e.others

  abbrev pub strict_term : StrictStep Term-F (Option (Option Value))
  strict_term t = fold strict_product t.first t.others

  unfoldable pub strict_value_of : Expr → Option (Option Value)
  strict_value_of = fold-Expr (Option (Option Value)) (Sign × Option (Option Value)) (Option (Option Value)) (Option (Option Value)) strict_factor strict_addend strict_expr strict_term

-- ---- predicates

-- a written value beside a kind
abbrev pub strict_beside : Option Kind → Value → Option Value
strict_beside (Some kinds.Date) (Text bytes) = option_map Date (day_of bytes)
strict_beside _ v = Some v

abbrev pub strict_compared : Comparison → Value → Value → Option Truth
strict_compared c a b = if fits (kind_of a) (kind_of b) then Some (compared c a b) else None

abbrev pub strict_begins : List ℕ → Value → Option Truth
strict_begins front v = if fits (Some kinds.Varchar) (kind_of v) then Some (begins v front) else None

abbrev pub strict_and : Option Truth → Option Truth → Option Truth
strict_and a b = for_both (λ x y. Some (and_truth x y)) a b

abbrev pub strict_or : Option Truth → Option Truth → Option Truth
strict_or a b = for_both (λ x y. Some (or_truth x y)) a b

module _ (scope : Scope) (row : Row) where
  abbrev pub strict_operand : Option Kind → Operand → Option Value
  strict_operand other (operand.Column c) = value_there scope row c
  strict_operand other (operand.Literal l) = strict_beside other l.value

  abbrev pub strict_comparison : Operand → Comparison → Operand → Option Truth
  strict_comparison a c b = for_both (strict_compared c) (strict_operand (operand_kind scope b) a) (strict_operand (operand_kind scope a) b)

  abbrev pub strict_in : Operand → List Literal → Option Truth
  strict_in a literals = fold strict_or (Some False) (map (λ l. strict_comparison a Equal (operand.Literal l)) literals)

  abbrev pub strict_between : Operand → Literal → Literal → Option Truth
  strict_between a least greatest = strict_and (strict_comparison a GreaterOrEqual (operand.Literal least)) (strict_comparison a LessOrEqual (operand.Literal greatest))

  abbrev pub strict_unit : Unit-F (Option Truth) (Option Truth) (Option Truth) → Option Truth
  strict_unit (Unit-F.Not t) = option_map not_truth t
  strict_unit (Unit-F.Bracket t) = t
  strict_unit (Unit-F.Compare a c b) = strict_comparison a c b
  strict_unit (Unit-F.IsNull a negated) = option_map (λ v. not_if negated (truth_of_bool (is_null v))) (strict_operand None a)
  strict_unit (Unit-F.In a negated literals) = option_map (not_if negated) (strict_in a literals)
  strict_unit (Unit-F.Between a negated least greatest) = option_map (not_if negated) (strict_between a least greatest)
  strict_unit (Unit-F.StartsWith c front) = option_and_then (strict_begins front.text) (value_there scope row c)

  abbrev pub strict_all : Conjunction-F (Option Truth) (Option Truth) (Option Truth) → Option Truth
  strict_all c = fold strict_and c.first c.others

  abbrev pub strict_any : Predicate-F (Option Truth) (Option Truth) (Option Truth) → Option Truth
  strict_any p = fold strict_or p.first p.others

  unfoldable pub strict_truth_of : Predicate → Option Truth
  strict_truth_of = fold-Predicate (Option Truth) (Option Truth) (Option Truth) strict_unit strict_all strict_any
