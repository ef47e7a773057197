use Rattle.std.proofs.Common.{◌≡◌, drop, max, map}
use Rattle.std.specs.Prelude.{fold}
use Rattle.tt_intcol.specs.IntBody.{greatest_of, height}
use Rattle.tt_intcol.proofs.choice.greatest_height.Given as goal

abbrev pub invariant-loop-value : goal.invariant-loop-value
invariant-loop-value l = fold max l.most (map (height l.low) (drop l.value-index l.values)) ≡ greatest_of (map (height l.low) l.values)
