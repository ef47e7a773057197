-- Bits in words of 64 bits, the lowest bit of a word first.
use Rattle.std.specs.Prelude.{◌≡◌, ℕ, ◌+◌, ◌*◌, ◌/◌, ◌%◌, ◌<◌, ◌≤◌, Bool, false, ◌==◌, List, map, slice_index}
use Rattle.std.specs.Prelude.{length as len}
use Rattle.std.specs.Int.{bit_at}
use Rattle.std.specs.List.{range_with_len}

-- whether the bit at a place is set; no bit past the words is
abbrev pub is_set : List ℕ → ℕ → Bool
is_set words place = bit_at (slice_index words (place / 64)) (place % 64) == 1

-- the first so many bits
unfoldable pub bits_of : ℕ → List ℕ → List Bool
bits_of length words = map (is_set words) (range_with_len 0 length)

-- just as many words as so many bits take
pub record AreWordsFor (length : ℕ) (words : List ℕ) : Type 0 where
  pub enough : length ≤ 64 * len words
  pub no_more : 64 * len words < length + 64

-- the words keep so many bits, and what is left of the last word is 0
pub record Keeps (length : ℕ) (words : List ℕ) : Type 0 where
  pub size : AreWordsFor length words
  pub unused : (place : ℕ) → length ≤ place → is_set words place ≡ false
