use Rattle.std.proofs.Common.{◌≡◌, map, take}
use Rattle.tt_intcol.specs.IntBody.{height}
use Rattle.tt_intcol.proofs.bodies.heights.Given as goal

abbrev pub invariant-loop-value : goal.invariant-loop-value
invariant-loop-value l = l.heights.items ≡ map (height l.low) (take l.value-index l.values)
