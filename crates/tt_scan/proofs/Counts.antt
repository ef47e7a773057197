-- How many rows are taken.
use Rattle.std.proofs.Common.{◌≡◌, ℕ, ◌+◌, ◌<◌, Bool, true, false, cond, List, [], ◌∷◌, length, map, get_or, Option, refl, ap, sym, ◌∙◌, arith}
use Rattle.std.specs.Prelude.{if◌then◌else◌}
use Rattle.std.specs.List.{count_by, filter}
use Rattle.std.proofs.lemmas.List.{length-append}
use Rattle.std.proofs.lemmas.List.Sums.{sum_by-cons}
use Rattle.tt_value.specs.declared.predicate.Predicate.{Predicate}
use Rattle.tt_value.specs.declared.value.Row.{Row}
use Rattle.tt_value.specs.declared.value.Schema.{Schema}
use Rattle.tt_partition.specs.Table.{Table}
use Rattle.tt_scan.specs.Held.{rows_taken}
use Rattle.tt_scan.proofs.Scans.{so_far, taken_more}

one_or_none : (b : Bool) (row : Row) (rows : List Row) (n : ℕ) → n ≡ length rows → cond b 1 0 + n ≡ length (if b then row ∷ rows else rows)
one_or_none true row rows n is = let one : 1 + n ≡ 1 + length rows = ap (λ k. 1 + k) is in omega (arith, one)
one_or_none false row rows n is = omega (arith, is)

-- as many bits of a test are set as rows pass it
pub count_pass : (test : Row → Bool) (rows : List Row) → count_by (λ bit. bit) (map test rows) ≡ length (filter test rows)
count_pass test [] = refl
count_pass test (row ∷ rows) = sum_by-cons (λ bit. cond bit 1 0) (test row) (map test rows) ∙ one_or_none (test row) row (filter test rows) (count_by (λ bit. bit) (map test rows)) (count_pass test rows)

pub count_more : (schema : Schema) (predicate : Option Predicate) (parts : List (ℕ × Table)) (i : ℕ) (part : ℕ × Table) → i < length parts → part ≡ get_or parts i part
    → length (rows_taken schema predicate (so_far parts i)) + length (rows_taken schema predicate part.1.rows) ≡ length (rows_taken schema predicate (so_far parts (i + 1)))
count_more schema predicate parts i part below is =
    sym (length-append (rows_taken schema predicate (so_far parts i)) (rows_taken schema predicate part.1.rows))
    ∙ ap length (taken_more schema predicate parts i part below is)
