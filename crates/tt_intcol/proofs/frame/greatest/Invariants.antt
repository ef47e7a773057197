use Rattle.std.proofs.Common.{◌≡◌, take}
use Rattle.tt_intcol.specs.IntBody.{greatest_of}
use Rattle.tt_intcol.proofs.frame.greatest.Given as goal

abbrev pub invariant-loop-number : goal.invariant-loop-number
invariant-loop-number l = l.most ≡ greatest_of (take l.number-index l.numbers)
