-- What the tests say of many passes of one lock.
use Rattle.std.specs.Prelude.{◌≡◌, ℕ, ◌+◌, ◌<◌, List, slice_index_or, vec_len, map}
use Rattle.std.specs.Global.{Vec}
use Rattle.tt_seatlock.specs.declared.book.Book.{Ghosts}
use Rattle.tt_seatlock.specs.declared.pass.Pass.{Pass}
use Rattle.tt_seatlock.specs.Passes.{Known, known, nothing_seen}

module _ {E : Type 0} where
  -- number 0, which has seen nothing, after so many numbers were made
  abbrev pub having_made : ℕ → Known E
  having_made count = record nothing_seen { made = count }

  -- it is number 0 still, with as many numbers made
  abbrev pub IsFirstStill : Known E → Known E → Type 0
  IsFirstStill old new = (new.number ≡ 0) × (new.made ≡ old.made)

module _ {B E G : Type 0} {b : Ghosts B E G} where
  -- the passes have the numbers from 1 on
  abbrev pub AreNumbered : Vec (Pass B E G b) → Type 0
  AreNumbered v = (i : ℕ) (d : Pass B E G b) → i < vec_len v → (known (slice_index_or v.items i d)).number ≡ i + 1

  -- these passes have the numbers of those, in order
  abbrev pub HaveNumbersOf : Vec (Pass B E G b) → Vec (Pass B E G b) → Type 0
  HaveNumbersOf old v = (i : ℕ) (d : Pass B E G b) → i < vec_len v → (known (slice_index_or v.items i d)).number ≡ (known (slice_index_or old.items i d)).number

  -- the numbers of passes, each with its own entries
  abbrev pub own_entries : List (Pass B E G b) → List (ℕ × List E)
  own_entries passes = map (λ p. ((known p).number, (known p).own)) passes
