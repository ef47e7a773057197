use Rattle.std.proofs.Common.{◌≡◌, drop}
use Rattle.std.specs.Prelude.{fold}
use Rattle.std.specs.Int.{int_min}
use Rattle.tt_intcol.specs.IntBody.{least_of}
use Rattle.tt_intcol.proofs.choice.least.Given as goal

abbrev pub invariant-loop-value : goal.invariant-loop-value
invariant-loop-value l = fold int_min l.low (drop l.value-index l.others) ≡ least_of l.values
