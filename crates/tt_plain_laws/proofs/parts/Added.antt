-- Parts that an entry adds: their numbers are new, and they hold just the rows that the entry gives.
use Rattle.std.specs.List.{range_with_len}
use Rattle.std.specs.Prelude.{List, Some, [], length, map, option_map, refl, slice_get, true, ℕ, ◌++◌, ◌+◌, ◌-◌, ◌<◌, ◌==◌, ◌∷◌, ◌≡◌, ◌≤◌}
use Rattle.std.proofs.Common.{ap, arith, inl, inr, length-append, suc, sym, zero, ◌∙◌}
use Rattle.std.proofs.lemmas.Bool.{cases_order, eqb-true, false≢true, or_cases}
use Rattle.std.proofs.lemmas.List.{length-map}
use Rattle.std.proofs.lemmas.List.Sums.{sum_by-cons}
use Rattle.std.proofs.lemmas.Option.{slice_get-map}
use Rattle.tt_history.specs.declared.history.Added.{Added}
use Rattle.tt_layout.specs.Numbers.{has}
use Rattle.tt_plain.proofs.law.change.TallyChanges.{next_numbers}
use Rattle.tt_plain.specs.declared.tally.Tally.{Tally}
use Rattle.tt_plain.specs.declared.tally.TallyPart.{TallyPart}
use Rattle.tt_plain.specs.history.Contents.{pieces_of_lengths, rows_numbered}
use Rattle.tt_plain.specs.tally.Changes.{part_added}
use Rattle.tt_plain.specs.tally.Parts.{are_next_parts, numbers_added, part_numbered, rows_in_added, rows_of_part}
use Rattle.tt_value.specs.declared.value.Row.{Row}
use Rattle.tt_value.specs.values.Bags.{copies_of}
use Rattle.tt_plain_laws.proofs.parts.Backed.{Measured}
use Rattle.tt_plain_laws.proofs.parts.Contents.{Known, append_get, behind_get, length-pieces, piece_lengths, pieces_hold, same_numbered, total}
use Rattle.tt_plain_laws.proofs.parts.Numbers.{Outside, copies_in, is_false}

abbrev pub lengths_added : List Added → List ℕ
lengths_added added = map (λ (part : Added). part.rows) added

-- the contents of the parts that are added
abbrev pub contents_added : List Added → List Row → List (List Row)
contents_added added rows = pieces_of_lengths (lengths_added added) rows

pub total_added : (added : List Added) → total (lengths_added added) ≡ rows_in_added added
total_added [] = refl
total_added (part ∷ added) = omega (arith, total_added added, sum_by-cons (λ (p : Added). p.rows) part added)

in_range : (first count k : ℕ) → has (range_with_len first count) k ≡ true → (first ≤ k) × (k < first + count)
in_range first zero k e = absurd (false≢true e)
in_range first (suc count) k e = elim (or_cases (first == k) (has (range_with_len (first + 1) count) k) e) [
  | inl h ↦ (omega (arith, eqb-true first k h), omega (arith, eqb-true first k h))
  | inr h ↦ let rest = in_range (first + 1) count k h in (omega (arith, rest.0), omega (arith, rest.1))
]

pub get_some : {A : Type 0} (xs : List A) (k : ℕ) → k < length xs → (x : A) × (slice_get xs k ≡ Some x)
get_some [] k within = absurd (omega (arith, within))
get_some (x ∷ xs) zero within = (x, refl)
get_some (x ∷ xs) (suc k) within = get_some xs k (omega (arith, within))

module _ (contents : List (List Row)) (tally : Tally) (added : List Added) (rows : List Row) (stored : length contents ≡ length tally.parts) (next : are_next_parts tally added ≡ true)
    (all : total (lengths_added added) ≡ length rows) where
  abbrev grown : List (List Row)
  grown = contents ++ contents_added added rows

  pub grown_length : length grown ≡ length contents + length added
  grown_length =
      omega (arith, length-append contents (contents_added added rows), length-pieces (lengths_added added) rows, length-map added (λ (part : Added). part.rows))

  new_in : (k : ℕ) → has (numbers_added added) k ≡ true → (length contents + 1 ≤ k) × (k < length contents + 1 + length added)
  new_in k e =
      let both = in_range (length tally.parts + 1) (length added) k (ap (λ (ns : List ℕ). has ns k) (sym (next_numbers tally added next)) ∙ e) in (omega (arith, both.0, stored), omega (arith, both.1, stored))

  pub new_known : Known (length grown) (numbers_added added)
  new_known k e = let both = new_in k e in (omega (arith, both.0), omega (arith, both.1, grown_length))

  -- no number that is known is new
  pub known_outside : (ns : List ℕ) → Known (length contents) ns → Outside ns (numbers_added added)
  known_outside ns known k e = is_false (has (numbers_added added) k) (λ f. absurd (omega (arith, (known k e).1, (new_in k f).0)))

  pub new_outside : (ns : List ℕ) → Known (length contents) ns → Outside (numbers_added added) ns
  new_outside ns known k e = is_false (has ns k) (λ f. absurd (omega (arith, (known k f).1, (new_in k e).0)))

  pub new_hold : (row : Row) → copies_in grown row (numbers_added added) ≡ copies_of row rows
  new_hold row =
      ap (copies_in grown row) (next_numbers tally added next)
      ∙ ap (λ (n : ℕ). copies_in grown row (range_with_len (n + 1) (length added))) (sym stored)
      ∙ ap (λ (n : ℕ). copies_in grown row (range_with_len (length contents + 1) n)) (sym (length-map added (λ (part : Added). part.rows)))
      ∙ ap (copies_of row) (pieces_hold contents (lengths_added added) rows all)

  pub stored_added : (origin : ℕ) (after : Tally) → after.parts ≡ tally.parts ++ map (part_added origin) added → length grown ≡ length after.parts
  stored_added origin after parts =
      omega (
        arith,
        grown_length,
        stored,
        ap (λ (ps : List TallyPart). length ps) parts,
        length-append tally.parts (map (part_added origin) added),
        length-map added (part_added origin),
      )

  pub measured_added : (origin : ℕ) (after : Tally) → after.parts ≡ tally.parts ++ map (part_added origin) added → Measured contents tally → Measured grown after
  measured_added origin after parts measured k first within = elim (cases_order k (length contents + 1)) [
    | inl e ↦ new_measured (k - (length contents + 1)) (omega (arith, e)) (omega (arith, e, within, grown_length))
    | inr (inl below) ↦
        ap (λ (rs : List Row). length rs) (same_numbered contents (contents_added added rows) k first (omega (arith, below)))
        ∙ measured k first (omega (arith, below))
        ∙ sym (ap (λ (ps : List TallyPart). rows_of_part (slice_get ps (k - 1))) parts ∙ ap rows_of_part (append_get tally.parts (map (part_added origin) added) (k - 1) (omega (arith, below, first, stored))))
    | inr (inr above) ↦ new_measured (k - (length contents + 1)) (omega (arith, above)) (omega (arith, above, within, grown_length))
  ]
    where
      new_measured : (place : ℕ) → k ≡ length contents + place + 1 → place < length added → length (rows_numbered grown k) ≡ rows_of_part (part_numbered after k)
      new_measured place e inside =
          let part = get_some added place inside in
          let here : length (rows_numbered grown k) ≡ part.0.rows =
          ap (λ (n : ℕ). length (rows_numbered grown n)) e
          ∙ piece_lengths contents (lengths_added added) rows place part.0.rows (omega (arith, all)) (slice_get-map (λ (p : Added). p.rows) added place ∙ ap (option_map (λ (p : Added). p.rows)) part.1) in
          let there : part_numbered after k ≡ Some (part_added origin part.0) =
          ap (λ (ps : List TallyPart). slice_get ps (k - 1)) parts ∙ ap (slice_get (tally.parts ++ map (part_added origin) added)) (omega (arith, e, stored))
          ∙ behind_get tally.parts (map (part_added origin) added) place ∙ slice_get-map (part_added origin) added place ∙ ap (option_map (part_added origin)) part.1 in
          here ∙ sym (ap rows_of_part there)
