use Rattle.std.proofs.Common.{◌≡◌, drop}
use Rattle.std.specs.Prelude.{fold}
use Rattle.tt_value.specs.trees.Scope.{table_scope}
use Rattle.tt_zone.specs.Possible.{in_possible}
use Rattle.tt_zone.proofs.Walking.{or_equal}
use Rattle.tt_zone.proofs.pruning.in_list.Given as goal

abbrev pub invariant-loop-literal : goal.invariant-loop-literal
invariant-loop-literal l = fold (or_equal (table_scope l.schema) l.zones l.operand) l.found (drop l.literal-index l.literals) ≡ in_possible (table_scope l.schema) l.zones l.operand l.literals
