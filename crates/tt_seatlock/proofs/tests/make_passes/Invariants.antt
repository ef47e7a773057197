use Rattle.std.proofs.Common.{◌≡◌, ℕ, ◌+◌, ◌<◌, All, vec_len, slice_index_or}
use Rattle.tt_seatlock.specs.Passes.{known, nothing_seen, IsPassOf}
use Rattle.tt_seatlock.proofs.tests.make_passes.Given as goal

abbrev pub invariant-loop-made : goal.invariant-loop-made
invariant-loop-made l =
    IsPassOf l.lock l.first × (known l.first ≡ record nothing_seen { made = l.made + 1 }) × (vec_len l.passes ≡ l.made)
    × All (IsPassOf l.lock) l.passes.items × ((i : ℕ) (d : _) → i < vec_len l.passes → (known (slice_index_or l.passes.items i d)).number ≡ i + 1)
