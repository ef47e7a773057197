-- What the parts of a predicate say of a row.
use Rattle.std.specs.Prelude.{ℕ, List, None}
use Rattle.tt_value.specs.declared.value.Row.{Row}
use Rattle.tt_value.specs.declared.name.ColumnName.{ColumnName}
use Rattle.tt_value.specs.declared.name.Literal.{Literal}
use Rattle.tt_value.specs.declared.predicate.Comparison.{Comparison}
use Rattle.tt_value.specs.declared.predicate.Conjunction.{Conjunction}
use Rattle.tt_value.specs.declared.predicate.Operand.{Operand}
use Rattle.tt_value.specs.declared.predicate.Predicate.{Predicate}
use Rattle.tt_value.specs.declared.predicate.Truth.{Truth}
use Rattle.tt_value.specs.declared.predicate.Unit.{Unit}
use Rattle.tt_value.specs.declared.predicate.Unit.TheFolds.{fold-Conjunction, fold-Unit}
use Rattle.tt_value.specs.trees.Predicates.{all_truth, any_truth, begins, between_truth, comparison_truth, in_truth, is_null, operand_value, truth_of, unit_truth}
use Rattle.tt_value.specs.trees.Scope.{Scope, column_value}
use Rattle.tt_value.specs.trees.Truths.{truth_of_bool}

-- ---- conditions

abbrev pub comparing : Scope → Operand → Comparison → Operand → Row → Truth
comparing scope a sign b row = comparison_truth scope row a sign b

abbrev pub listing : Scope → Operand → List Literal → Row → Truth
listing scope a literals row = in_truth scope row a literals

abbrev pub bounding : Scope → Operand → Literal → Literal → Row → Truth
bounding scope a least greatest row = between_truth scope row a least greatest

abbrev pub being_null : Scope → Operand → Row → Truth
being_null scope a row = truth_of_bool (is_null (operand_value scope row None a))

abbrev pub beginning : Scope → ColumnName → List ℕ → Row → Truth
beginning scope c front row = begins (column_value scope row c) front

-- ---- and what is made of them

abbrev pub in_predicate : Scope → Predicate → Row → Truth
in_predicate scope p row = truth_of scope row p

unfoldable pub in_conjunction : Scope → Conjunction → Row → Truth
in_conjunction scope c row = fold-Conjunction Truth Truth Truth (unit_truth scope row) (all_truth scope row) (any_truth scope row) c

unfoldable pub in_unit : Scope → Unit → Row → Truth
in_unit scope u row = fold-Unit Truth Truth Truth (unit_truth scope row) (all_truth scope row) (any_truth scope row) u
