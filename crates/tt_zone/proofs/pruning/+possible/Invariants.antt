use Rattle.std.proofs.Common.{◌≡◌, drop}
use Rattle.std.specs.Prelude.{fold}
use Rattle.tt_value.specs.trees.Scope.{table_scope}
use Rattle.tt_zone.specs.Possible.{possible, possible_of_conjunction}
use Rattle.tt_zone.proofs.Walking.{or_conjunction, and_unit}
use Rattle.tt_zone.proofs.pruning.+possible.Given as goal

abbrev pub invariant-in_predicate-loop-conjunction : goal.invariant-in_predicate-loop-conjunction
invariant-in_predicate-loop-conjunction l = fold (or_conjunction (table_scope l.schema) l.zones) l.found (drop l.conjunction-index l.conjunction-items) ≡ possible (table_scope l.schema) l.zones l.predicate

abbrev pub invariant-in_conjunction-loop-unit : goal.invariant-in_conjunction-loop-unit
invariant-in_conjunction-loop-unit l = fold (and_unit (table_scope l.schema) l.zones) l.found (drop l.unit-index l.unit-items) ≡ possible_of_conjunction (table_scope l.schema) l.zones l.conjunction
