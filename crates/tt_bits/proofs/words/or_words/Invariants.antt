use Rattle.std.proofs.Common.{bit_or}
use Rattle.tt_bits.proofs.Sweeps.{IsSwept}
use Rattle.tt_bits.proofs.words.or_words.Given as goal

abbrev pub invariant-loop-place : goal.invariant-loop-place
invariant-loop-place l = IsSwept bit_or l.initial.words l.others l.words l.place
