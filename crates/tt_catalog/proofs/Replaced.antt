-- What an UPDATE and a DELETE replace: the parts that go are among those of the table, and with what they give as many rows come and go as
-- the statement adds and removes.
use Rattle.std.specs.List.{AllZip, list_all}
use Rattle.std.specs.Prelude.{Bool, List, Some, [], cond, false, filter, flat_map, length, map, option_map, refl, slice_get, true, zip, ℕ, ◌&&◌, ◌++◌, ◌+◌, ◌-◌, ◌==◌, ◌∷◌, ◌≡◌}
use Rattle.std.proofs.Common.{ap, arith, subst, sym, ◌∙◌}
use Rattle.std.proofs.lemmas.Bool.{and_parts, eq-eqb, lt-ltb}
use Rattle.std.proofs.lemmas.Option.{slice_get-map}
use Rattle.tt_layout.proofs.Ascending.{ascends-filter}
use Rattle.tt_layout.proofs.Members.{has-filter}
use Rattle.tt_layout.specs.Numbers.{AscendsFrom, IsAscending, has}
use Rattle.tt_layout.specs.declared.facts.PartFacts.{PartFacts}
use Rattle.tt_partition.specs.Table.{Table}
use Rattle.tt_plain.proofs.Answers.{map_some}
use Rattle.tt_plain.proofs.law.Lists.{every-filter}
use Rattle.tt_plain.specs.declared.store.PlainTable.{PlainTable}
use Rattle.tt_plain.specs.declared.tally.Tally.{Tally}
use Rattle.tt_plain.specs.declared.tally.TallyPart.{TallyPart}
use Rattle.tt_plain.specs.declared.tally.TallyPin.{TallyPin}
use Rattle.tt_plain.specs.history.Contents.{rows_of_parts}
use Rattle.tt_plain.specs.history.TrueFacts.{parts_pinned}
use Rattle.tt_plain.specs.law.Bag.{PinForms, pins_of}
use Rattle.tt_plain.specs.law.Lists.{Every}
use Rattle.tt_plain.specs.tally.Facts.{facts_of_part}
use Rattle.tt_plain.specs.tally.Layouts.{is_ascending}
use Rattle.tt_plain.specs.tally.Parts.{rows_in_parts, rows_of_part}
use Rattle.tt_plain_laws.proofs.parts.Backed.{Measured}
use Rattle.tt_plain_laws.proofs.parts.Balance.{Hold}
use Rattle.tt_plain_laws.proofs.parts.Contents.{Known}
use Rattle.tt_plain_laws.proofs.parts.Cuts.{length-rows}
use Rattle.tt_plain_laws.proofs.parts.Numbers.{Within, copies_in, has_itself, has_more}
use Rattle.tt_plain_laws.proofs.parts.Sums.{is_touched, length-replaced, replaced, same_flat_length, same_length, same_taken, touched_hold}
use Rattle.tt_value.specs.declared.value.Row.{Row}
use Rattle.tt_value.specs.values.Bags.{copies_of}
use Rattle.tt_state.proofs.Lists.{map_get}
use Rattle.tt_state.specs.Keeps.{IsTruePart, KeepsTables}
use Rattle.tt_state.specs.Kept.{Kept}
use Rattle.tt_state.specs.declared.part.StoredPart.{StoredPart}
use Rattle.tt_catalog.proofs.Held.{some_at, true_at}

-- ---- the rows of kept parts

abbrev facts_in : StoredPart → PartFacts
facts_in part = part.facts

-- a part has as many rows as the tally says
pub measured_kept : (tables : List PlainTable) (tally : Tally) (contents : List (List Row)) (kept : Kept) → KeepsTables tables tally contents kept → Measured contents tally
measured_kept tables tally contents kept keeps k one within =
    let at = some_at kept.parts (k - 1) (omega (arith, one, within, keeps.contents)) in
    let here : IsTruePart tables contents k at.0 = true_at tables contents 1 k kept.parts (k - 1) at.0 keeps.parts at.1 (omega (arith, one)) in
    let found : option_map facts_of_part (slice_get tally.parts (k - 1)) ≡ Some at.0.facts =
    sym (slice_get-map facts_of_part tally.parts (k - 1)) ∙ ap (λ (ps : List TallyPart). slice_get (map facts_of_part ps) (k - 1)) (sym keeps.whole)
    ∙ ap (λ (fs : List PartFacts). slice_get fs (k - 1)) (sym keeps.facts) ∙ map_get facts_in kept.parts (k - 1) at.0 at.1 in
    let part = map_some facts_of_part (slice_get tally.parts (k - 1)) at.0.facts found in
    ap (λ (t : Table). length t.rows) (sym here.image) ∙ sym here.rows ∙ ap (λ (f : PartFacts). f.rows) (sym part.2) ∙ ap rows_of_part (sym part.1)

-- ---- the parts that are pinned of a target

filter_both : (session table : ℕ) (pins : List TallyPin)
    → filter (λ (pin : TallyPin). pin.session == session && pin.table == table) pins ≡ filter (λ (pin : TallyPin). pin.table == table) (filter (λ (pin : TallyPin). pin.session == session) pins)
filter_both session table [] = refl
filter_both session table (pin ∷ pins) = keep (pin.session == session) (filter_both session table pins)
  where
    keep : (b : Bool) → filter (λ (p : TallyPin). p.session == session && p.table == table) pins ≡ filter (λ (p : TallyPin). p.table == table) (filter (λ (p : TallyPin). p.session == session) pins)
        → cond (b && (pin.table == table)) (pin ∷ filter (λ (p : TallyPin). p.session == session && p.table == table) pins) (filter (λ (p : TallyPin). p.session == session && p.table == table) pins)
        ≡ filter (λ (p : TallyPin). p.table == table) (cond b (pin ∷ filter (λ (p : TallyPin). p.session == session) pins) (filter (λ (p : TallyPin). p.session == session) pins))
    keep true e = ap (λ ps. cond (pin.table == table) (pin ∷ ps) ps) e
    keep false e = e

all_behind : (ns : List ℕ) → ns ++ [] ≡ ns
all_behind [] = refl
all_behind (n ∷ ns) = ap (λ ms. n ∷ ms) (all_behind ns)

-- one pin's parts ascend, and so do those that are pinned of its table
pub pinned_ascend : (contents : List (List Row)) (tally : Tally) (session table : ℕ) (rows : List Row) → Every (λ (pin : TallyPin). IsAscending pin.parts) tally.pins
    → AllZip (PinForms contents) ((table, rows) ∷ []) (pins_of tally session) → IsAscending (parts_pinned tally session table)
pinned_ascend contents tally session table rows up forms =
    subst (λ (pins : List TallyPin). IsAscending (flat_map (λ (pin : TallyPin). pin.parts) pins)) (sym (filter_both session table tally.pins))
    (by (pins_of tally session) forms (every-filter (λ (pin : TallyPin). IsAscending pin.parts) (λ (pin : TallyPin). pin.session == session) tally.pins up))
  where
    by : (pins : List TallyPin) → AllZip (PinForms contents) ((table, rows) ∷ []) pins → Every (λ (pin : TallyPin). IsAscending pin.parts) pins
        → IsAscending (flat_map (λ (pin : TallyPin). pin.parts) (filter (λ (pin : TallyPin). pin.table == table) pins))
    by [] zip all = absurd zip
    by (pin ∷ []) zip all =
        subst (λ (b : Bool). IsAscending (flat_map (λ (p : TallyPin). p.parts) (cond b (pin ∷ []) []))) (sym (eq-eqb pin.table table zip.0.0)) (subst IsAscending (sym (all_behind pin.parts)) all.0)
    by (pin ∷ p ∷ pins) zip all = absurd zip.1

-- ---- numbers

-- a list that ascends does so by its test
pub tests_ascend : (ns : List ℕ) (low : ℕ) → AscendsFrom low ns → is_ascending ns ≡ true
tests_ascend [] low up = refl
tests_ascend (n ∷ []) low up = refl
tests_ascend (n ∷ m ∷ ns) low up =
    ap (λ b. b && is_ascending (m ∷ ns)) (lt-ltb n m (omega (arith, up.1.0))) ∙ tests_ascend (m ∷ ns) (n + 1) up.1

pub touched_ascend : (test : ℕ → Bool) (ns : List ℕ) → IsAscending ns → IsAscending (filter test ns)
touched_ascend test ns up = ascends-filter test ns 0 up

-- what is within a list is in it, number by number
pub all_within : (ns seen : List ℕ) → Within ns seen → list_all (has seen) ns ≡ true
all_within [] seen within = refl
all_within (n ∷ ns) seen within =
    ap (λ b. b && list_all (has seen) ns) (within n (has_itself n ns)) ∙ all_within ns seen (λ k e. within k (has_more n ns k e))

pub touched_within : (test : ℕ → Bool) (ns seen : List ℕ) → Within ns seen → Within (filter test ns) seen
touched_within test ns seen within k e = within k (and_parts (has ns k) (test k) (sym (has-filter test ns k) ∙ e)).0

-- ---- rows

-- the touched parts give, with the removed rows, as many as they have, with those that are brought
module _ (contents : List (List Row)) (tally : Tally) (test : Row → Bool) (others : Row → List Row) (pinned gone : List ℕ) (seen removed brought : List Row) (measured : Measured contents tally)
    (known : Known (length contents) gone) (hold : Hold contents pinned seen) (removed_is : removed ≡ filter test seen) (brought_is : brought ≡ flat_map others removed) (gone_is : gone ≡ filter (is_touched contents test) pinned) where
  abbrev there : List Row
  there = rows_of_parts contents gone

  same_removed : (row : Row) → copies_of row (filter test there) ≡ copies_of row removed
  same_removed row =
      same_taken test there seen (λ r e. ap (copies_in contents r) gone_is ∙ touched_hold contents test r pinned e ∙ hold r) row ∙ sym (ap (copies_of row) removed_is)

  pub replaced_count : length (flat_map (replaced test others) there) + length removed ≡ rows_in_parts tally gone + length brought
  replaced_count = omega (
    arith,
    length-rows contents tally measured gone known,
    length-replaced test others there,
    same_length (filter test there) removed same_removed,
    same_flat_length others (filter test there) removed same_removed,
    ap (λ (rs : List Row). length rs) brought_is,
  )
