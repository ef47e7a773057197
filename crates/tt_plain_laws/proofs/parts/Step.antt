-- How what is so of contents and store is carried over an effect.
use Rattle.std.specs.List.{AllZip, last_or}
use Rattle.std.specs.Prelude.{List, None, Option, Some, [], filter, length, refl, slice_get, unwrap_or, ℕ, ◌++◌, ◌+◌, ◌-◌, ◌<◌, ◌∷◌, ◌≡◌, ◌≢◌, ◌≤◌}
use Rattle.std.proofs.Common.{ap, arith, inl, inr, length-append, subst, sym, ◌∙◌, ◌⊎◌}
use Rattle.std.proofs.lemmas.Bool.{cases_order}
use Rattle.std.proofs.lemmas.Option.{none-some, same_Some}
use Rattle.tt_plain.proofs.law.session.Views.{is_table, rows_at_bag}
use Rattle.tt_plain.specs.asked.Carried.{Carried}
use Rattle.tt_plain.specs.asked.Request.{request_of}
use Rattle.tt_plain.specs.declared.store.PlainPending.{PlainPending}
use Rattle.tt_plain.specs.declared.store.Plain.{Plain}
use Rattle.tt_plain.specs.declared.store.PlainSession.{PlainSession}
use Rattle.tt_plain.specs.declared.store.PlainTable.{PlainTable}
use Rattle.tt_plain.specs.declared.store.Version.{Version}
use Rattle.tt_plain.specs.declared.tally.TallyPending.{TallyPending}
use Rattle.tt_plain.specs.declared.tally.TallyPin.{TallyPin}
use Rattle.tt_plain.specs.effect.Apply.{applied, changed_session}
use Rattle.tt_plain.specs.effect.Effect.{Effect}
use Rattle.tt_plain.specs.history.Contents.{rows_of_parts}
use Rattle.tt_plain.specs.law.Bag.{Form, LayoutsForm, PinForms, pins_of, seen_in_pins}
use Rattle.tt_plain.specs.law.Lists.{Every}
use Rattle.tt_plain.specs.law.Past.{KeepsPast}
use Rattle.tt_plain.specs.law.Sound.{IsSound}
use Rattle.tt_plain.specs.stored.Tables.{current_rows, is_begun_at, rows_at, rows_of, table_numbered}
use Rattle.tt_plain.specs.tally.Layouts.{current_parts, parts_at}
use Rattle.tt_script.specs.declared.script.Script.{Script}
use Rattle.tt_value.specs.declared.value.Row.{Row}
use Rattle.tt_value.specs.values.Bags.{bag_of, copies_of}
use Rattle.tt_layout.specs.Chain as chain
use Rattle.tt_plain_laws.proofs.guard.Kept.{are_numbered, set_other}
use Rattle.tt_plain_laws.proofs.parts.Backed.{AreBacked, IsPinned, parts_now, rows_now}
use Rattle.tt_plain_laws.proofs.parts.Balance.{Hold, IsBalanced, form_from, lists_now, more_balanced, moved_balanced, pending_now}
use Rattle.tt_plain_laws.proofs.parts.Contents.{same_contents}
use Rattle.tt_plain_laws.proofs.parts.Known.{AreKnown, KnownChange, KnownPin, known_at, known_fold, known_lists, known_pins, more_known}
use Rattle.tt_plain_laws.proofs.parts.Numbers.{Outside, Within}

-- of each session after an effect: it makes the effect, or is as before
pub each_session : (store : Plain) (effect : Effect) (P : ℕ → PlainSession → Type 0) → ((session : ℕ) (new : PlainSession) → effect.session ≡ Some (session, new) → P session new)
    → ((other : ℕ) (state : PlainSession) → slice_get store.sessions other ≡ Some state → ((new : PlainSession) → effect.session ≡ Some (other, new) → ⊥) → P other state)
    → (session : ℕ) (state : PlainSession) → slice_get (applied store effect).sessions session ≡ Some state → P session state
unfolding applied
each_session store effect P own others session state at = by effect.session refl at
  where
    by : (change : Option (ℕ × PlainSession)) → effect.session ≡ change → slice_get (changed_session store.sessions change) session ≡ Some state → P session state
    by None e f = others session state f (λ new g. none-some (session, new) (sym e ∙ g))
    by (Some change) e f = elim (set_other store.sessions change.0 change.1 session state f) [
      | inl h ↦ subst (P session) (sym h.1) (subst (λ (n : ℕ). P n change.1) (sym h.0) (own change.0 change.1 e))
      | inr h ↦ others session state h.1 (λ new g. h.0 (ap (λ (c : ℕ × PlainSession). c.0) (sym (same_Some change (session, new) (sym e ∙ g)))))
    ]

pub zip_more : (contents more : List (List Row)) (seen : List (ℕ × List Row)) (pins : List TallyPin) → Every (KnownPin (length contents)) pins → AllZip (PinForms contents) seen pins → AllZip (PinForms (contents ++ more)) seen pins
zip_more contents more [] [] known all = tt
zip_more contents more [] (pin ∷ pins) known all = all
zip_more contents more (s ∷ seen) [] known all = all
zip_more contents more (s ∷ seen) (pin ∷ pins) known all =
    ((all.0.0, ap bag_of (same_contents contents more pin.parts known.0) ∙ all.0.1), zip_more contents more seen pins known.1 all.1)

module _ (carried : Carried) (program : Script) (contents more : List (List Row)) (store : Plain) (effect : Effect) (sound : IsSound carried program store) (backed : AreBacked carried program contents store) where
  pub longer : length contents ≤ length (contents ++ more)
  longer = omega (arith, length-append contents more)

  pub known_next : Every (KnownChange (length (contents ++ more))) effect.tally → AreKnown (length (contents ++ more)) (applied store effect).tally
  unfolding applied
  known_next ok = known_fold (length (contents ++ more)) store.tally effect.tally ok (more_known (length contents) (length (contents ++ more)) store.tally longer backed.known)

  -- the pins of another session
  pub pinned_other : (other : ℕ) (state : PlainSession) → slice_get store.sessions other ≡ Some state → pins_of (applied store effect).tally other ≡ pins_of store.tally other
      → IsPinned carried program (contents ++ more) (applied store effect).tally other state
  pinned_other other state at same seen read running said =
      subst (λ (pins : List TallyPin). AllZip (PinForms (contents ++ more)) (seen_in_pins (request_of read) seen) pins) (sym same)
      (zip_more contents more (seen_in_pins (request_of read) seen) (pins_of store.tally other) (known_pins (length contents) store.tally other backed.known) (backed.pinned other state at seen read running said))

  -- what is pending of a session, over more contents and another layout
  pub balanced_still : (session : ℕ) (state new : PlainSession) (table : ℕ) (current : List ℕ) → slice_get store.sessions session ≡ Some state → 1 ≤ table → table ≤ length store.tables → pending_now new table ≡ pending_now state table
      → lists_now (applied store effect).tally session table ≡ lists_now store.tally session table
      → ((lists_now store.tally session table).gone ≢ [] → Within (lists_now store.tally session table).gone current) → Outside (lists_now store.tally session table).added current
      → IsBalanced (contents ++ more) current (lists_now (applied store effect).tally session table) (pending_now new table)
  balanced_still session state new table current at first within pending lists inside outside =
      let known = known_lists (length contents) store.tally session table backed.known in
      subst (λ (p : PlainPending). IsBalanced (contents ++ more) current (lists_now (applied store effect).tally session table) p) (sym pending)
      (subst (λ (l : TallyPending). IsBalanced (contents ++ more) current l (pending_now state table)) (sym lists)
      (moved_balanced (contents ++ more) (current_parts store.tally table) current (lists_now store.tally session table) (pending_now state table) inside outside
      (more_balanced contents more (current_parts store.tally table) (lists_now store.tally session table) (pending_now state table) known.0 known.1 (backed.balanced session state at table first within))))

  -- ---- layouts

  -- a table with the same versions
  pub record IsSame (place : ℕ) (new : PlainTable) : Type 0 where
    pub old : PlainTable
    pub was : slice_get store.tables place ≡ Some old
    pub number : new.number ≡ old.number
    pub made : new.made ≡ old.made
    pub versions : new.versions ≡ old.versions

  pub layouts_still : (place : ℕ) (new : PlainTable) → IsSame place new → (applied store effect).tally.layouts ≡ store.tally.layouts → LayoutsForm (contents ++ more) (applied store effect) new
  unfolding rows_at
  layouts_still place new same layouts moment made =
      let parts : parts_at (applied store effect).tally new.number moment ≡ parts_at store.tally same.old.number moment =
      ap (λ (ls : List (List (ℕ × List ℕ))). unwrap_or (chain.layout_at (unwrap_or (slice_get ls (new.number - 1)) []) moment) []) layouts ∙ ap (λ (n : ℕ). parts_at store.tally n moment) same.number in
      ap (λ (ns : List ℕ). bag_of (rows_of_parts (contents ++ more) ns)) parts
      ∙ ap bag_of (same_contents contents more (parts_at store.tally same.old.number moment) (known_at (length contents) store.tally same.old.number moment backed.known))
      ∙ backed.layouts place same.old same.was moment (subst (λ (m : ℕ). m ≤ moment) same.made made)
      ∙ sym (ap (λ (vs : List Version). rows_of (last_or None (filter (is_begun_at moment) vs))) same.versions)

  -- a table with the same making, whose current layout holds its current rows
  pub record IsLater (place : ℕ) (new : PlainTable) : Type 0 where
    pub old : PlainTable
    pub was : slice_get store.tables place ≡ Some old
    pub made : new.made ≡ old.made

  abbrev pub IsOldOrNew : ℕ → PlainTable → Type 0
  IsOldOrNew place new = IsLater place new ⊎ (effect.moment ≤ new.made)

  module _ (past : KeepsPast store (applied store effect)) (after : IsSound carried program (applied store effect)) (moment : effect.moment ≡ store.moment + 1) where
    unfolded_moment : (applied store effect).moment ≡ effect.moment
    unfolding applied
    unfolded_moment = refl

    from_now : (place : ℕ) (new : PlainTable) (at : ℕ) → slice_get (applied store effect).tables place ≡ Some new → Hold (contents ++ more) (current_parts (applied store effect).tally new.number) (current_rows new) → effect.moment ≤ at
        → Form (contents ++ more) (parts_at (applied store effect).tally new.number at) (rows_at new at)
    from_now place new at there hold le =
        let here = is_table carried program (applied store effect) place new after there in
        let late : (applied store effect).moment ≤ at = omega (arith, unfolded_moment, le) in
        let parts : parts_at (applied store effect).tally new.number at ≡ current_parts (applied store effect).tally new.number = parts_now (applied store effect).moment at new.number (applied store effect).tally late after.tally.layouts in
        let rows : rows_at new at ≡ current_rows new = rows_now (applied store effect).moment (length (applied store effect).tables) new.number at new here.sound late in
        form_from (contents ++ more) (parts_at (applied store effect).tally new.number at) (rows_at new at) (rows_at_bag (applied store effect).moment (length (applied store effect).tables) new.number new at here.sound)
        (λ row. ap (λ (ns : List ℕ). copies_of row (rows_of_parts (contents ++ more) ns)) parts ∙ hold row ∙ sym (ap (copies_of row) rows))

    until_now : (place : ℕ) (new : PlainTable) (at : ℕ) → slice_get (applied store effect).tables place ≡ Some new → IsOldOrNew place new → at < effect.moment → new.made ≤ at
        → Form (contents ++ more) (parts_at (applied store effect).tally new.number at) (rows_at new at)
    until_now place new at there (inr young) before made = absurd (omega (arith, young, before, made))
    until_now place new at there (inl later) before made =
        let old = is_table carried program store place later.old sound later.was in
        let here = is_table carried program (applied store effect) place new after there in
        let first : later.old.number ≡ place + 1 = are_numbered carried program store sound place later.old later.was in
        let second : new.number ≡ place + 1 = are_numbered carried program (applied store effect) after place new there in
        let is_now : table_numbered (applied store effect) new.number ≡ Some new = here.there in
        let was_then : table_numbered store new.number ≡ Some later.old = ap (λ (n : ℕ). table_numbered store n) (second ∙ sym first) ∙ old.there in
        let passed : at ≤ store.moment = omega (arith, before, moment) in
        let parts : parts_at (applied store effect).tally new.number at ≡ parts_at store.tally later.old.number at =
        past.parts new.number at passed (omega (arith, first, second, old.within)) (omega (arith, second)) ∙ ap (λ (n : ℕ). parts_at store.tally n at) (second ∙ sym first) in
        ap (λ (ns : List ℕ). bag_of (rows_of_parts (contents ++ more) ns)) parts
        ∙ ap bag_of (same_contents contents more (parts_at store.tally later.old.number at) (known_at (length contents) store.tally later.old.number at backed.known))
        ∙ backed.layouts place later.old later.was at (subst (λ (m : ℕ). m ≤ at) later.made made)
        ∙ sym (past.rows new.number at later.old new passed was_then is_now)

    pub layouts_moved : (place : ℕ) (new : PlainTable) → slice_get (applied store effect).tables place ≡ Some new → IsOldOrNew place new
        → Hold (contents ++ more) (current_parts (applied store effect).tally new.number) (current_rows new) → LayoutsForm (contents ++ more) (applied store effect) new
    layouts_moved place new there old hold at made = elim (le_or at) [ inl h ↦ from_now place new at there hold h | inr h ↦ until_now place new at there old h made ]
      where
        le_or : (at : ℕ) → (effect.moment ≤ at) ⊎ (at < effect.moment)
        le_or at = elim (cases_order at effect.moment) [
          | inl e ↦ inl (omega (arith, e))
          | inr (inl below) ↦ inr below
          | inr (inr above) ↦ inl (omega (arith, above))
        ]
