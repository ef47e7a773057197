use Rattle.std.proofs.Common.{◌≡◌, map, take}
use Rattle.std.specs.Ordering.{int_cmp}
use Rattle.tt_value.specs.columns.Body.{index_in}
use Rattle.tt_intcol.proofs.bodies.indexes.Given as goal

abbrev pub invariant-loop-value : goal.invariant-loop-value
invariant-loop-value l = l.indexes.items ≡ map (index_in int_cmp l.entries) (take l.value-index l.values)
