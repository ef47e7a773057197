-- What the parts of a predicate say of a row.
use Rattle.tt_value.specs.declared.value.Row.{Row}
use Rattle.tt_value.specs.declared.predicate.Conjunction.{Conjunction}
use Rattle.tt_value.specs.declared.predicate.Truth.{Truth}
use Rattle.tt_value.specs.declared.predicate.Unit.{Unit}
use Rattle.tt_value.specs.declared.predicate.Unit.TheFolds.{fold-Conjunction, fold-Unit}
use Rattle.tt_value.specs.trees.Predicates.{unit_truth, all_truth, any_truth}
use Rattle.tt_value.specs.trees.Scope.{Scope}

unfoldable pub conjunction_truth : Scope → Row → Conjunction → Truth
conjunction_truth scope row = fold-Conjunction Truth Truth Truth (unit_truth scope row) (all_truth scope row) (any_truth scope row)

unfoldable pub unit_truth_of : Scope → Row → Unit → Truth
unit_truth_of scope row = fold-Unit Truth Truth Truth (unit_truth scope row) (all_truth scope row) (any_truth scope row)
