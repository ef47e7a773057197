-- Rows that stay by the bits of a test.
use Rattle.std.proofs.Common.{◌≡◌, ℕ, zero, suc, ◌+◌, Bool, true, false, List, [], ◌∷◌, ◌++◌, length, map, drop, refl, ap, sym, ◌∙◌, arith}
use Rattle.std.specs.Prelude.{cond, if◌then◌else◌, replicate, slice_get}
use Rattle.std.specs.List.{count_by, flat_map}
use Rattle.std.proofs.lemmas.List.{append_assoc}
use Rattle.std.proofs.lemmas.List.Sums.{count_by-le-length, sum_by-cons}
use Rattle.tt_value.specs.declared.value.Row.{Row}
use Rattle.tt_rewrite.specs.Left.{count_set, unless_set, unless_taken, unset}

from_bit : (bits : List Bool) (at : ℕ) (row : Row) (rest : List Row) → unset (drop at bits) (row ∷ rest) ≡ unless_set (slice_get bits at) row ++ unset (drop (suc at) bits) rest
from_bit [] zero row rest = refl
from_bit [] (suc at) row rest = refl
from_bit (true ∷ bits) zero row rest = refl
from_bit (false ∷ bits) zero row rest = refl
from_bit (b ∷ bits) (suc at) row rest = from_bit bits at row rest

pub unset_next : (bits : List Bool) (at : ℕ) (row : Row) (rest before after : List Row) → after ≡ before ++ unless_set (slice_get bits at) row → after ++ unset (drop (at + 1) bits) rest ≡ before ++ unset (drop at bits) (row ∷ rest)
unset_next bits at row rest before after is =
    let next : at + 1 ≡ suc at = omega arith in
    ap (λ k. after ++ unset (drop k bits) rest) next
    ∙ ap (λ rows. rows ++ unset (drop (suc at) bits) rest) is
    ∙ append_assoc before (unless_set (slice_get bits at) row) (unset (drop (suc at) bits) rest)
    ∙ ap (λ rows. before ++ rows) (sym (from_bit bits at row rest))

pub count-cons : {A : Type 0} (p : A → Bool) (x : A) (xs : List A) → count_by p (x ∷ xs) ≡ cond (p x) 1 0 + count_by p xs
count-cons p x xs = sum_by-cons (λ y. cond (p y) 1 0) x xs

-- ---- all rows

pub all_set : (rows : List Row) → replicate (length rows) true ≡ map (λ (row : Row). true) rows
all_set [] = refl
all_set (row ∷ rows) = ap (λ bits. true ∷ bits) (all_set rows)

-- where as many bits are set as there are rows, none stays
pub none_stays : (bits : List Bool) (rows : List Row) → length bits ≡ length rows → count_set bits ≡ length bits → unset bits rows ≡ []
none_stays [] [] long all = refl
none_stays [] (row ∷ rows) long all = absurd (omega (arith, long))
none_stays (b ∷ bits) [] long all = refl
none_stays (true ∷ bits) (row ∷ rows) long all = none_stays bits rows (omega (arith, long)) (let first = count-cons (λ (b : Bool). b) true bits in omega (arith, first, all))
none_stays (false ∷ bits) (row ∷ rows) long all = let first = count-cons (λ (b : Bool). b) false bits in absurd (omega (arith, first, all, count_by-le-length (λ (b : Bool). b) bits))

-- ---- the bits of a test

by_test : (test : Bool) (row : Row) (bits : List Bool) (rows stay : List Row) → unset bits rows ≡ stay → unset (test ∷ bits) (row ∷ rows) ≡ (if test then [] else row ∷ []) ++ stay
by_test true row bits rows stay is = is
by_test false row bits rows stay is = ap (λ rs. row ∷ rs) is

pub unset_stay : (taken : Row → Bool) (rows : List Row) → unset (map taken rows) rows ≡ flat_map (unless_taken taken) rows
unset_stay taken [] = refl
unset_stay taken (row ∷ rows) = by_test (taken row) row (map taken rows) rows (flat_map (unless_taken taken) rows) (unset_stay taken rows)

pub count_bits : (taken : Row → Bool) (rows : List Row) → count_set (map taken rows) ≡ count_by taken rows
count_bits taken [] = refl
count_bits taken (row ∷ rows) =
    count-cons (λ (b : Bool). b) (taken row) (map taken rows)
    ∙ ap (λ n. cond (taken row) 1 0 + n) (count_bits taken rows)
    ∙ sym (count-cons taken row rows)
