use Rattle.std.proofs.Common.{bit_and}
use Rattle.tt_bits.proofs.Sweeps.{IsSwept}
use Rattle.tt_bits.proofs.words.and_words.Given as goal

abbrev pub invariant-loop-place : goal.invariant-loop-place
invariant-loop-place l = IsSwept bit_and l.initial.words l.others l.words l.place
