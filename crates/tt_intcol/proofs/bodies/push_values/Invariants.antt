use Rattle.std.proofs.Common.{◌≡◌, ◌++◌, take}
use Rattle.std.specs.List.{flat_map}
use Rattle.tt_intcol.specs.IntBody.{value_bytes}
use Rattle.tt_intcol.proofs.bodies.push_values.Given as goal

abbrev pub invariant-loop-value : goal.invariant-loop-value
invariant-loop-value l = l.out.items ≡ l.fn.out.items ++ flat_map (value_bytes l.kind) (take l.value-index l.values)
