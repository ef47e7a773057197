-- The facts of parts that are added: they have the next numbers, and each is that of the part which is kept.
use Rattle.std.specs.List.{list_all, range_with_len}
use Rattle.std.specs.Prelude.{Bool, List, [], bytes_eq, filter, length, map, nat_le, refl, true, zero, suc, ℕ, ◌&&◌, ◌++◌, ◌+◌, ◌<◌, ◌==◌, ◌∷◌, ◌≡◌, ◌≤◌}
use Rattle.std.proofs.Common.{ap, arith, inl, inr, ◌∙◌}
use Rattle.std.proofs.lemmas.Bool.{eqb-true, false≢true, le-leb, or_cases}
use Rattle.tt_history.specs.declared.history.Added.{Added}
use Rattle.tt_layout.specs.Numbers.{AscendsFrom, has}
use Rattle.tt_layout.specs.declared.facts.PartFacts.{PartFacts}
use Rattle.tt_partition.specs.Image.{image_of}
use Rattle.tt_partition.specs.Table.{IsPart, Table}
use Rattle.tt_plain.proofs.Tests.{same_test}
use Rattle.tt_plain.specs.declared.tally.Tally.{Tally}
use Rattle.tt_plain.specs.declared.tally.TallyPart.{TallyPart}
use Rattle.tt_plain.specs.law.Lists.{Every}
use Rattle.tt_plain.specs.tally.Changes.{part_added}
use Rattle.tt_plain.specs.tally.Facts.{facts_of_part}
use Rattle.tt_plain.specs.tally.Parts.{are_next_parts, has_right_size, numbers_added}
use Rattle.tt_state.specs.declared.part.StoredPart.{StoredPart}
use Rattle.tt_catalog.specs.Changes.{facts_from, stored_as, stored_from}

bytes_eq_self : (xs : List ℕ) → bytes_eq xs xs ≡ true
bytes_eq_self [] = refl
bytes_eq_self (x ∷ xs) = ap (λ b. b && bytes_eq xs xs) (same_test x) ∙ bytes_eq_self xs

pub numbers_told : (number : ℕ) (parts : List Table) → numbers_added (facts_from number parts) ≡ range_with_len number (length parts)
numbers_told number [] = refl
numbers_told number (part ∷ parts) = ap (λ ns. number ∷ ns) (numbers_told (number + 1) parts)

pub length-facts : (number : ℕ) (parts : List Table) → length (facts_from number parts) ≡ length parts
length-facts number [] = refl
length-facts number (part ∷ parts) = ap suc (length-facts (number + 1) parts)

-- an image begins with the bytes that each image begins with
image_some : (part : Table) → 1 ≤ length (image_of part)
unfolding image_of
image_some part = omega arith

pub both_true : (a b : Bool) → a ≡ true → b ≡ true → (a && b) ≡ true
both_true a b p q = ap (λ x. x && b) p ∙ q

right_sizes : (number : ℕ) (parts : List Table) → Every IsPart parts → list_all has_right_size (facts_from number parts) ≡ true
right_sizes number [] all = refl
right_sizes number (part ∷ parts) (is, all) =
    both_true (has_right_size (record { number = number; rows = length part.rows; bytes = length (image_of part) })) (list_all has_right_size (facts_from (number + 1) parts))
    (both_true (nat_le 1 (length part.rows) && nat_le (length part.rows) 65536) (nat_le 1 (length (image_of part)))
    (both_true (nat_le 1 (length part.rows)) (nat_le (length part.rows) 65536) (le-leb 1 (length part.rows) is.some_rows) (le-leb (length part.rows) 65536 is.few_rows))
    (le-leb 1 (length (image_of part)) (image_some part)))
    (right_sizes (number + 1) parts all)

pub are_next : (tally : Tally) (parts : List Table) → Every IsPart parts → are_next_parts tally (facts_from (length tally.parts + 1) parts) ≡ true
unfolding are_next_parts
are_next tally parts all =
    both_true _ (list_all has_right_size (facts_from (length tally.parts + 1) parts))
    (ap (λ ns. bytes_eq ns (range_with_len (length tally.parts + 1) (length (facts_from (length tally.parts + 1) parts)))) (numbers_told (length tally.parts + 1) parts)
    ∙ ap (λ n. bytes_eq (range_with_len (length tally.parts + 1) (length parts)) (range_with_len (length tally.parts + 1) n)) (length-facts (length tally.parts + 1) parts)
    ∙ bytes_eq_self (range_with_len (length tally.parts + 1) (length parts)))
    (right_sizes (length tally.parts + 1) parts all)

-- ---- the parts that are kept

pub length-stored : (origin number : ℕ) (parts : List Table) → length (stored_from origin number parts) ≡ length parts
length-stored origin number [] = refl
length-stored origin number (part ∷ parts) = ap suc (length-stored origin (number + 1) parts)

pub stored_push : (origin number : ℕ) (parts : List Table) (part : Table) (next : ℕ) → next ≡ number + length parts
    → stored_from origin number (parts ++ part ∷ []) ≡ stored_from origin number parts ++ stored_as origin next part ∷ []
stored_push origin number [] part next e =
    let same : number ≡ next = omega (arith, e) in
    ap (λ n. stored_as origin n part ∷ []) same
stored_push origin number (first ∷ parts) part next e =
    ap (λ (ps : List StoredPart). stored_as origin number first ∷ ps) (stored_push origin (number + 1) parts part next (omega (arith, e)))

pub same_facts : (origin number : ℕ) (parts : List Table)
    → map (λ (part : StoredPart). part.facts) (stored_from origin number parts) ≡ map facts_of_part (map (part_added origin) (facts_from number parts))
same_facts origin number [] = refl
same_facts origin number (part ∷ parts) =
    ap (λ (fs : List PartFacts). record { number = number; origin = origin; rows = length part.rows; bytes = length (image_of part) } ∷ fs) (same_facts origin (number + 1) parts)

-- all that is added is stored
pub all_stored : (origin : ℕ) (added : List Added) → filter (λ (part : TallyPart). part.stored) (map (part_added origin) added) ≡ map (part_added origin) added
all_stored origin [] = refl
all_stored origin (part ∷ added) = ap (λ (ps : List TallyPart). part_added origin part ∷ ps) (all_stored origin added)

-- ---- numbers from one on

pub in_range : (first count k : ℕ) → has (range_with_len first count) k ≡ true → (first ≤ k) × (k < first + count)
in_range first zero k e = absurd (false≢true e)
in_range first (suc count) k e = elim (or_cases (first == k) (has (range_with_len (first + 1) count) k) e) [
  | inl h ↦ (omega (arith, eqb-true first k h), omega (arith, eqb-true first k h))
  | inr h ↦ let rest = in_range (first + 1) count k h in (omega (arith, rest.0), omega (arith, rest.1))
]

pub range_ascends : (first count low : ℕ) → low ≤ first → AscendsFrom low (range_with_len first count)
range_ascends first zero low le = tt
range_ascends first (suc count) low le = (le, range_ascends (first + 1) count (first + 1) (omega arith))
