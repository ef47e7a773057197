-- Whether a row meets a predicate: true, false, or unknown where a NULL leaves it open.
use Rattle.std.specs.Prelude.{ℕ, Bool, true, false, not, ◌||◌, ◌==◌, if◌then◌else◌, List, fold, map, Option, Some, None}
use Rattle.std.specs.List.{starts_with}
use Rattle.std.specs.Ordering.{is_eq, is_lt, is_le, is_gt, is_ge}
use Rattle.std.specs.declared.cmp.Ordering.{Ordering}
use Rattle.tt_value.specs.declared.value.Kind.{Kind}
use Rattle.tt_value.specs.declared.value.Value.{Value}
use Rattle.tt_value.specs.declared.value.Value.TheVariants.{Null, Text}
use Rattle.tt_value.specs.declared.value.Row.{Row}
use Rattle.tt_value.specs.declared.name.Literal.{Literal}
use Rattle.tt_value.specs.declared.predicate.Truth.{Truth}
use Rattle.tt_value.specs.declared.predicate.Truth.TheVariants.{False, Unknown}
use Rattle.tt_value.specs.declared.predicate.Operand.{Operand}
use Rattle.tt_value.specs.declared.predicate.Operand.TheVariants as operand
use Rattle.tt_value.specs.declared.predicate.Comparison.{Comparison}
use Rattle.tt_value.specs.declared.predicate.Comparison.TheVariants.{Equal, NotEqual, Less, LessOrEqual, Greater, GreaterOrEqual}
use Rattle.tt_value.specs.declared.predicate.Predicate.{Predicate}
use Rattle.tt_value.specs.declared.predicate.Unit.TheFolds.{fold-Predicate}
use Rattle.tt_value.specs.declared.predicate.Unit.TheOpen.{Predicate-F, Conjunction-F, Unit-F}
use Rattle.tt_value.specs.values.Order.{value_cmp}
use Rattle.tt_value.specs.trees.Scope.{Scope, column_value, column_kind, kind_of, beside}
use Rattle.tt_value.specs.trees.Truths.{truth_of_bool, not_truth, and_truth, or_truth, not_if, is_true}

abbrev pub is_null : Value → Bool
is_null Null = true
is_null _ = false

abbrev pub holds : Comparison → Ordering → Bool
holds Equal o = is_eq o
holds NotEqual o = not (is_eq o)
holds Less o = is_lt o
holds LessOrEqual o = is_le o
holds Greater o = is_gt o
holds GreaterOrEqual o = is_ge o

-- a comparison with NULL is unknown
abbrev pub compared : Comparison → Value → Value → Truth
compared c a b = if is_null a || is_null b then Unknown else truth_of_bool (holds c (value_cmp a b))

-- whether a text begins with these bytes
abbrev pub begins : Value → List ℕ → Truth
begins (Text bytes) front = truth_of_bool (starts_with (λ a b. a == b) bytes front)
begins _ front = Unknown

abbrev pub operand_kind : Scope → Operand → Option Kind
operand_kind scope (operand.Column c) = column_kind scope c
operand_kind scope (operand.Literal l) = kind_of l.value

module _ (scope : Scope) (row : Row) where
  -- what an operand stands for beside an operand of a kind
  abbrev pub operand_value : Option Kind → Operand → Value
  operand_value other (operand.Column c) = column_value scope row c
  operand_value other (operand.Literal l) = beside other l.value

  abbrev pub comparison_truth : Operand → Comparison → Operand → Truth
  comparison_truth a c b = compared c (operand_value (operand_kind scope b) a) (operand_value (operand_kind scope a) b)

  -- equal to one of the values
  abbrev pub in_truth : Operand → List Literal → Truth
  in_truth a literals = fold or_truth False (map (λ l. comparison_truth a Equal (operand.Literal l)) literals)

  -- not below the least and not above the greatest
  abbrev pub between_truth : Operand → Literal → Literal → Truth
  between_truth a least greatest = and_truth (comparison_truth a GreaterOrEqual (operand.Literal least)) (comparison_truth a LessOrEqual (operand.Literal greatest))

  -- what a unit says, given what the unit or the predicate inside it says
  abbrev pub unit_truth : Unit-F Truth Truth Truth → Truth
  unit_truth (Unit-F.Not t) = not_truth t
  unit_truth (Unit-F.Bracket t) = t
  unit_truth (Unit-F.Compare a c b) = comparison_truth a c b
  unit_truth (Unit-F.IsNull a negated) = not_if negated (truth_of_bool (is_null (operand_value None a)))
  unit_truth (Unit-F.In a negated literals) = not_if negated (in_truth a literals)
  unit_truth (Unit-F.Between a negated least greatest) = not_if negated (between_truth a least greatest)
  unit_truth (Unit-F.StartsWith c front) = begins (column_value scope row c) front.text

  abbrev pub all_truth : Conjunction-F Truth Truth Truth → Truth
  all_truth c = fold and_truth c.first c.others

  abbrev pub any_truth : Predicate-F Truth Truth Truth → Truth
  any_truth p = fold or_truth p.first p.others

  unfoldable pub truth_of : Predicate → Truth
  truth_of = fold-Predicate Truth Truth Truth unit_truth all_truth any_truth

-- a row is taken where the predicate is true, and each row where there is none
abbrev pub takes : Scope → Option Predicate → Row → Bool
takes scope None row = true
takes scope (Some p) row = is_true (truth_of scope row p)
