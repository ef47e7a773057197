use Rattle.std.proofs.Common.{ℕ, ◌<◌, ◌^◌, length, get_or, []}
use Rattle.std.specs.Int.{bit_not, w64}
use Rattle.tt_bits.proofs.Sweeps.{IsSwept}
use Rattle.tt_bits.proofs.words.not_words.Given as goal

abbrev pub invariant-loop-word : goal.invariant-loop-word
invariant-loop-word l =
    IsSwept (λ word _. bit_not w64 word) l.initial.words [] l.words l.word-index
    × ((k : ℕ) → k < length l.initial.words → get_or l.initial.words k 0 < 2 ^ 64)
