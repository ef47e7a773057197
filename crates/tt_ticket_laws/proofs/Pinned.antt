-- What is held of the one table that an UPDATE or a DELETE has pinned, and the parts of it that the statement touches.
use Rattle.std.specs.List.{AllZip, list_any}
use Rattle.std.specs.Prelude.{Bool, List, [], false, filter, flat_map, map, refl, true, ℕ, ◌&&◌, ◌++◌, ◌==◌, ◌∷◌, ◌≡◌}
use Rattle.std.proofs.Common.{ap, cond, ◌∙◌}
use Rattle.std.proofs.lemmas.Bool.{eq-eqb}
use Rattle.tt_value.specs.declared.value.Row.{Row}
use Rattle.tt_value.specs.declared.value.Schema.{Schema}
use Rattle.tt_partition.specs.Table.{Table}
use Rattle.tt_plain.specs.declared.tally.Tally.{Tally}
use Rattle.tt_plain.specs.declared.tally.TallyPin.{TallyPin}
use Rattle.tt_plain.specs.history.Contents.{rows_numbered, rows_of_parts}
use Rattle.tt_plain.specs.history.TrueFacts.{parts_pinned}
use Rattle.tt_plain.specs.law.Bag.{pins_of}
use Rattle.tt_rewrite.specs.Left.{numbers_of, rows_of, touched}
use Rattle.tt_state.specs.Chronicle.{Chronicle, rows_of as contents_now}
use Rattle.tt_state.specs.declared.ticket.Seen.{Seen}
use Rattle.tt_catalog.specs.Tickets.{IsHeld, part_of}

-- ---- the parts that a test touches, by their numbers

module _ (chronicle : Chronicle) (schema : Schema) (test : Row → Bool) where
  abbrev pub is_touched : ℕ → Bool
  is_touched number = list_any test (rows_numbered (contents_now chronicle) number)

  abbrev parts : List ℕ → List (ℕ × Table)
  parts numbers = map (part_of chronicle schema) numbers

  pub touched_numbers : (numbers : List ℕ) → numbers_of (touched test (map (part_of chronicle schema) numbers)) ≡ filter is_touched numbers
  touched_numbers [] = refl
  touched_numbers (n ∷ numbers) = by (is_touched n) (touched_numbers numbers)
    where
      by : (b : Bool) → numbers_of (touched test (parts numbers)) ≡ filter is_touched numbers
          → numbers_of (cond b (part_of chronicle schema n ∷ touched test (parts numbers)) (touched test (parts numbers))) ≡ cond b (n ∷ filter is_touched numbers) (filter is_touched numbers)
      by true e = ap (λ ns. n ∷ ns) e
      by false e = e

  pub touched_rows : (numbers : List ℕ) → rows_of (touched test (map (part_of chronicle schema) numbers)) ≡ rows_of_parts (contents_now chronicle) (filter is_touched numbers)
  touched_rows [] = refl
  touched_rows (n ∷ numbers) = by (is_touched n) (touched_rows numbers)
    where
      by : (b : Bool) → rows_of (touched test (parts numbers)) ≡ rows_of_parts (contents_now chronicle) (filter is_touched numbers)
          → rows_of (cond b (part_of chronicle schema n ∷ touched test (parts numbers)) (touched test (parts numbers))) ≡ rows_of_parts (contents_now chronicle) (cond b (n ∷ filter is_touched numbers) (filter is_touched numbers))
      by true e = ap (λ rows. rows_numbered (contents_now chronicle) n ++ rows) e
      by false e = e

-- ---- the pins of a session that pins one table

both_tests : (session table : ℕ) (pins : List TallyPin) → filter (λ (pin : TallyPin). pin.session == session && pin.table == table) pins ≡ filter (λ (pin : TallyPin). pin.table == table) (filter (λ (pin : TallyPin). pin.session == session) pins)
both_tests session table [] = refl
both_tests session table (pin ∷ pins) = by (pin.session == session) (both_tests session table pins)
  where
    both : List TallyPin
    both = filter (λ (p : TallyPin). p.session == session && p.table == table) pins

    own : List TallyPin
    own = filter (λ (p : TallyPin). p.session == session) pins

    by : (b : Bool) → both ≡ filter (λ (p : TallyPin). p.table == table) own → cond (b && (pin.table == table)) (pin ∷ both) both ≡ filter (λ (p : TallyPin). p.table == table) (cond b (pin ∷ own) own)
    by true e = ap (λ ps. cond (pin.table == table) (pin ∷ ps) ps) e
    by false e = e

append_nil : (ns : List ℕ) → ns ++ [] ≡ ns
append_nil [] = refl
append_nil (n ∷ ns) = ap (λ ms. n ∷ ms) (append_nil ns)

own_parts : (table : ℕ) (pin : TallyPin) → pin.table ≡ table → flat_map (λ (p : TallyPin). p.parts) (filter (λ (p : TallyPin). p.table == table) (pin ∷ [])) ≡ pin.parts
own_parts table pin e = rw (eq-eqb pin.table table e) (append_nil pin.parts)

pub one_pinned : (tally : Tally) (session table : ℕ) (pin : TallyPin) → pins_of tally session ≡ pin ∷ [] → pin.table ≡ table → parts_pinned tally session table ≡ pin.parts
one_pinned tally session table pin one e =
    ap (λ (pins : List TallyPin). flat_map (λ (p : TallyPin). p.parts) pins) (both_tests session table tally.pins)
    ∙ ap (λ (pins : List TallyPin). flat_map (λ (p : TallyPin). p.parts) (filter (λ (p : TallyPin). p.table == table) pins)) one
    ∙ own_parts table pin e

-- one table that is held is pinned by one pin
pub record IsAlone (chronicle : Chronicle) (pins : List TallyPin) (held : Seen) : Type 0 where
  pub pin : TallyPin
  pub one : pins ≡ pin ∷ []
  pub is_held : IsHeld chronicle pin held

pub pinned_alone : (chronicle : Chronicle) (pins : List TallyPin) (held : Seen) → AllZip (IsHeld chronicle) pins (held ∷ []) → IsAlone chronicle pins held
pinned_alone chronicle [] held zip = absurd zip
pinned_alone chronicle (pin ∷ []) held zip = record { pin = pin; one = refl; is_held = zip.0 }
pinned_alone chronicle (pin ∷ other ∷ pins) held zip = absurd zip.1
