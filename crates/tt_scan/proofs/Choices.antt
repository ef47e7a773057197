-- Rows chosen by the bits of a test are those that pass it.
use Rattle.std.proofs.Common.{◌≡◌, ℕ, zero, suc, ◌+◌, ◌-◌, ◌<◌, ◌≤◌, Bool, true, false, cond, List, [], ◌∷◌, ◌++◌, length, map, drop, refl, ap, sym, ◌∙◌, arith}
use Rattle.std.specs.Prelude.{if◌then◌else◌, slice_get}
use Rattle.std.specs.List.{count_by, filter, range_with_len}
use Rattle.std.proofs.lemmas.List.{append_assoc}
use Rattle.std.proofs.lemmas.List.Sums.{sum_by-cons}
use Rattle.tt_value.specs.declared.value.Row.{Row}
use Rattle.tt_scan.specs.Chosen.{chosen, if_set}
use Rattle.tt_scan.proofs.Scans.{and_nothing}

with_bit : (b test : Bool) (row : Row) (bits : List Bool) (rows passed : List Row) → b ≡ test → chosen bits rows ≡ passed → chosen (b ∷ bits) (row ∷ rows) ≡ (if test then row ∷ passed else passed)
with_bit true test row bits rows passed is more = rw (sym is) (ap (λ xs. row ∷ xs) more)
with_bit false test row bits rows passed is more = rw (sym is) more

pub chosen_pass : (test : Row → Bool) (rows : List Row) → chosen (map test rows) rows ≡ filter test rows
chosen_pass test [] = refl
chosen_pass test (row ∷ rows) = with_bit (test row) (test row) row (map test rows) rows (filter test rows) refl (chosen_pass test rows)

-- ---- one row more

from_bit : (bits : List Bool) (at : ℕ) (row : Row) (rest : List Row) → chosen (drop at bits) (row ∷ rest) ≡ if_set (slice_get bits at) row ++ chosen (drop (suc at) bits) rest
from_bit [] zero row rest = refl
from_bit [] (suc at) row rest = refl
from_bit (true ∷ bits) zero row rest = refl
from_bit (false ∷ bits) zero row rest = refl
from_bit (b ∷ bits) (suc at) row rest = from_bit bits at row rest

pub chosen_next : (bits : List Bool) (at : ℕ) (row : Row) (rest before after : List Row) → after ≡ before ++ if_set (slice_get bits at) row → after ++ chosen (drop (at + 1) bits) rest ≡ before ++ chosen (drop at bits) (row ∷ rest)
chosen_next bits at row rest before after is =
    let next : at + 1 ≡ suc at = omega arith in
    ap (λ k. after ++ chosen (drop k bits) rest) next
    ∙ ap (λ rows. rows ++ chosen (drop (suc at) bits) rest) is
    ∙ append_assoc before (if_set (slice_get bits at) row) (chosen (drop (suc at) bits) rest)
    ∙ ap (λ rows. before ++ rows) (sym (from_bit bits at row rest))

from_here : (f : ℕ → Row) (n at : ℕ) → at < n → map f (range_with_len at (n - at)) ≡ f at ∷ map f (range_with_len (at + 1) (n - (at + 1)))
from_here f n at below = let left : n - at ≡ suc (n - (at + 1)) = omega (arith, below) in ap (λ m. map f (range_with_len at m)) left

-- of the rows that a function gives, from a place on
pub chosen_step : (f : ℕ → Row) (bits : List Bool) (at : ℕ) (before after : List Row) → at < length bits → after ≡ before ++ if_set (slice_get bits at) (f at) → after ++ chosen (drop (at + 1) bits) (map f (range_with_len (at + 1) (length bits - (at + 1)))) ≡ before ++ chosen (drop at bits) (map f (range_with_len at (length bits - at)))
chosen_step f bits at before after below is =
    chosen_next bits at (f at) (map f (range_with_len (at + 1) (length bits - (at + 1)))) before after is
    ∙ ap (λ rows. before ++ chosen (drop at bits) rows) (sym (from_here f (length bits) at below))

none_of : (bits : List Bool) → chosen bits [] ≡ []
none_of [] = refl
none_of (b ∷ bits) = refl

pub chosen_done : (f : ℕ → Row) (bits : List Bool) (at : ℕ) (rows : List Row) → length bits ≤ at → rows ++ chosen (drop at bits) (map f (range_with_len at (length bits - at))) ≡ rows
chosen_done f bits at rows past =
    let none : length bits - at ≡ 0 = omega (arith, past) in
    ap (λ m. rows ++ chosen (drop at bits) (map f (range_with_len at m))) none
    ∙ ap (λ rs. rows ++ rs) (none_of (drop at bits)) ∙ and_nothing rows

-- where no bit is set, no row is chosen
pub none_chosen : (bits : List Bool) (rows : List Row) → count_by (λ bit. bit) bits ≡ 0 → chosen bits rows ≡ []
none_chosen [] rows none = refl
none_chosen (b ∷ bits) [] none = refl
none_chosen (true ∷ bits) (row ∷ rows) none = let some : 1 + count_by (λ bit. bit) bits ≡ 0 = sym (sum_by-cons (λ bit. cond bit 1 0) true bits) ∙ none in absurd (omega (arith, some))
none_chosen (false ∷ bits) (row ∷ rows) none = none_chosen bits rows none
