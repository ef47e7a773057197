-- What is so of the contents and the store after each entry, and what it says of the bags.
use Rattle.std.specs.List.{AllZip, enumerate_from, last_or}
use Rattle.std.specs.Prelude.{All, Bool, List, None, Option, Result, Some, [], false, filter, find, length, nat_le, option_map, refl, slice_get, true, unwrap_or, ℕ, ◌+◌, ◌-◌, ◌==◌, ◌∷◌, ◌<◌, ◌≡◌, ◌≤◌}
use Rattle.std.proofs.Common.{ap, arith, cond, subst, suc, sym, ◌∙◌}
use Rattle.std.proofs.lemmas.Bool.Decides.{nat_tests}
use Rattle.std.proofs.lemmas.List.Elements.{All-cons, All-nil}
use Rattle.std.proofs.lemmas.Option.{none-some, same_Some, slice_get_within}
use Rattle.tt_layout.specs.Numbers.{changed}
use Rattle.tt_layout.proofs.NetLaws.{unchanged}
use Rattle.tt_plain.proofs.Answers.{bind_some, only_if_some}
use Rattle.tt_plain.proofs.Tests.{same_number}
use Rattle.tt_script.specs.Lines.{only_if}
use Rattle.tt_plain.proofs.law.Lists.{every_at}
use Rattle.tt_plain.proofs.law.change.Tables.{table_at}
use Rattle.tt_plain.proofs.law.entry.Rounds.{current_parts_ascend}
use Rattle.tt_plain.proofs.law.session.Views.{current_bag, every_found, with_bag}
use Rattle.tt_plain.specs.asked.Asked.{Asked}
use Rattle.tt_plain.specs.asked.Carried.{Carried}
use Rattle.tt_plain.specs.asked.Request.{request_of}
use Rattle.tt_plain.specs.asked.Turns.{asked_with, open_asked, statement_read}
use Rattle.tt_plain.specs.declared.store.Plain.{Plain}
use Rattle.tt_plain.specs.declared.store.PlainOpen.{PlainOpen}
use Rattle.tt_plain.specs.declared.store.PlainPending.{PlainPending}
use Rattle.tt_plain.specs.declared.store.PlainSession.{PlainSession}
use Rattle.tt_plain.specs.declared.store.PlainTable.{PlainTable}
use Rattle.tt_plain.specs.declared.store.Version.{Version}
use Rattle.tt_plain.specs.declared.tally.Tally.{Tally}
use Rattle.tt_plain.specs.declared.tally.TallyPending.{TallyPending}
use Rattle.tt_plain.specs.declared.tally.TallyRound.{TallyRound}
use Rattle.tt_plain.specs.effect.End.{nothing_pending}
use Rattle.tt_plain.specs.history.Contents.{rows_numbered, rows_of_parts}
use Rattle.tt_plain.specs.law.Bag.{BagsAreFormed, Form, LayoutsForm, PinForms, PinsForm, SeenForms, pins_of, seen_in_pins}
use Rattle.tt_plain.specs.law.Isolated.{AreAmong}
use Rattle.tt_plain.specs.law.Lists.{Every}
use Rattle.tt_plain.specs.law.Sound.{AreSoundLayouts, AreSoundLists, FollowFrom, IsSound, IsSoundTable}
use Rattle.tt_plain.specs.opening.Seen.{changed_rows, pending_of, rows_with, visible_rows}
use Rattle.tt_plain.specs.stored.Tables.{current_rows, is_begun_at, rows_at, rows_of, table_numbered}
use Rattle.tt_plain.specs.tally.Layouts.{changed_parts, current_parts, is_pending_of, lists_of, parts_at, parts_seen}
use Rattle.tt_plain.specs.tally.Parts.{part_numbered, rows_of_part}
use Rattle.tt_plain.specs.tally.Pending.{no_lists}
use Rattle.tt_script.specs.declared.script.Script.{Script}
use Rattle.tt_sql.specs.declared.statement.Statement.{Statement}
use Rattle.tt_value.proofs.values.Bags.{bag_plus-nil, minus_none}
use Rattle.tt_value.specs.declared.value.Row.{Row}
use Rattle.tt_value.specs.values.Bags.{IsBag, bag_of, bag_plus}
use Rattle.tt_plain_laws.proofs.guard.Kept.{Rests, rests_now}
use Rattle.tt_plain_laws.proofs.parts.Balance.{Hold, IsBalanced, form_from, hold_from, lists_now, pending_now, seen_hold}
use Rattle.tt_plain_laws.proofs.parts.Known.{AreKnown}
use Rattle.tt_plain_laws.proofs.parts.Numbers.{Outside}
use Rattle.tt_plain_laws.specs.Guarded.{AreGuarded, IsGuarded}
use Rattle.tt_layout.specs.Chain as chain

-- each part holds as many rows as its facts say
abbrev pub Measured : List (List Row) → Tally → Type 0
Measured contents tally = (k : ℕ) → 1 ≤ k → k ≤ length contents → length (rows_numbered contents k) ≡ rows_of_part (part_numbered tally k)

-- what the open statement has seen is pinned
abbrev pub IsPinned : Carried → Script → List (List Row) → Tally → ℕ → PlainSession → Type 0
IsPinned carried program contents tally session state = (seen : PlainOpen) (read : Result Statement ℕ) → state.running ≡ Some seen → statement_read carried program session seen.index ≡ Some read →
    AllZip (PinForms contents) (seen_in_pins (request_of read) seen) (pins_of tally session)

pub record AreBacked (carried : Carried) (program : Script) (contents : List (List Row)) (store : Plain) : Type 0 where
  pub stored : length contents ≡ length store.tally.parts
  pub measured : Measured contents store.tally
  pub known : AreKnown (length contents) store.tally
  pub layouts : (place : ℕ) (table : PlainTable) → slice_get store.tables place ≡ Some table → LayoutsForm contents store table
  pub placed : Every (λ (lists : TallyPending). lists.table ≤ length store.tables) store.tally.pending
  pub empty : (session : ℕ) (state : PlainSession) → slice_get store.sessions session ≡ Some state → state.pending ≡ [] → (table : ℕ) → lists_of store.tally session table ≡ None
  pub balanced : (session : ℕ) (state : PlainSession) → slice_get store.sessions session ≡ Some state → (table : ℕ) → 1 ≤ table → table ≤ length store.tables →
      IsBalanced contents (current_parts store.tally table) (lists_now store.tally session table) (pending_now state table)
  pub apart : (a b table : ℕ) → (a ≡ b → ⊥) → Outside (lists_now store.tally a table).added (lists_now store.tally b table).added
  pub round : (round : TallyRound) → store.tally.round ≡ Some round → round.table - 1 < length store.tables
  pub pinned : (session : ℕ) (state : PlainSession) → slice_get store.sessions session ≡ Some state → IsPinned carried program contents store.tally session state

-- ---- now

leb_true : (m n : ℕ) → m ≤ n → nat_le m n ≡ true
leb_true m n le = grind (arith, nat_tests)

kept_all : {A : Type 0} (test : A → Bool) (xs : List A) → Every (λ x. test x ≡ true) xs → filter test xs ≡ xs
kept_all test [] all = refl
kept_all test (x ∷ xs) all = rw all.0 (ap (λ ys. x ∷ ys) (kept_all test xs all.1))

versions_begun : (begun moment at : ℕ) (versions : List Version) → moment ≤ at → FollowFrom begun moment versions → (begun ≤ moment) × Every (λ (v : Version). is_begun_at at v ≡ true) versions
versions_begun begun moment at [] le all = (all, tt)
versions_begun begun moment at (v ∷ versions) le all =
    let rest = versions_begun v.begun moment at versions le all.2 in (omega (arith, all.0, rest.0), (leb_true v.begun at (omega (arith, rest.0, le)), rest.1))

-- from the moment on the rows of a table are the current ones
pub rows_now : (moment count number at : ℕ) (table : PlainTable) → IsSoundTable moment count number table → moment ≤ at → rows_at table at ≡ current_rows table
unfolding rows_at
rows_now moment count number at table sound le =
    ap (λ (vs : List Version). rows_of (last_or None vs)) (kept_all (is_begun_at at) table.versions (versions_begun table.made moment at table.versions le sound.versions).1)

layouts_begun : (begun moment at : ℕ) (l : ℕ × List ℕ) (layouts : List (ℕ × List ℕ)) → moment ≤ at → chain.FollowFrom begun (l ∷ layouts) → chain.last_begun (l ∷ layouts) ≤ moment
    → (l.0 ≤ moment) × Every (λ (l : ℕ × List ℕ). nat_le l.0 at ≡ true) (l ∷ layouts)
layouts_begun begun moment at l [] le all last = (last, (leb_true l.0 at (omega (arith, last, le)), tt))
layouts_begun begun moment at l (m ∷ layouts) le all last =
    let rest = layouts_begun l.0 moment at m layouts le all.2 last in
    let first : l.0 ≤ moment = omega (arith, rest.0, all.2.0) in
    (first, (leb_true l.0 at (omega (arith, first, le)), rest.1))

layout_now : (moment at : ℕ) (layouts : List (ℕ × List ℕ)) → moment ≤ at → AreSoundLayouts moment layouts → unwrap_or (chain.layout_at layouts at) [] ≡ chain.current_of layouts
layout_now moment at [] le sound = refl
layout_now moment at (l ∷ layouts) le sound =
    ap (λ (ls : List (ℕ × List ℕ)). unwrap_or (option_map (λ (l : ℕ × List ℕ). l.1) (chain.last_of ls)) [])
    (kept_all (λ (l : ℕ × List ℕ). nat_le l.0 at) (l ∷ layouts) (layouts_begun 0 moment at l layouts le sound.0.1 sound.1).1)

-- and its layout is the current one
pub parts_now : (moment at table : ℕ) (tally : Tally) → moment ≤ at → Every (AreSoundLayouts moment) tally.layouts → parts_at tally table at ≡ current_parts tally table
parts_now moment at table tally le sound = by (slice_get tally.layouts (table - 1)) refl
  where
    by : (o : Option (List (ℕ × List ℕ))) → slice_get tally.layouts (table - 1) ≡ o → unwrap_or (chain.layout_at (unwrap_or o []) at) [] ≡ chain.current_of (unwrap_or o [])
    by None e = refl
    by (Some layouts) e = layout_now moment at layouts le (every_at (AreSoundLayouts moment) tally.layouts (table - 1) layouts sound e)

-- ---- what a session sees

pub lists_sound : (tally : Tally) (session table : ℕ) → Every AreSoundLists tally.pending → AreSoundLists (lists_now tally session table)
lists_sound tally session table sound = by (lists_of tally session table) refl
  where
    by : (o : Option TallyPending) → lists_of tally session table ≡ o → AreSoundLists (unwrap_or o (no_lists session table))
    by None e = (tt, tt)
    by (Some lists) e = every_found AreSoundLists (is_pending_of session table) tally.pending lists sound e

pub seen_is : (tally : Tally) (session table : ℕ) → parts_seen tally session table ≡ changed (current_parts tally table) (lists_now tally session table).gone (lists_now tally session table).added
seen_is tally session table = by (lists_of tally session table)
  where
    by : (o : Option TallyPending) → changed_parts (current_parts tally table) o ≡ changed (current_parts tally table) (unwrap_or o (no_lists session table)).gone (unwrap_or o (no_lists session table)).added
    by None = sym (unchanged (current_parts tally table) [] [] refl refl)
    by (Some lists) = refl

pub visible_is : (state : PlainSession) (table : PlainTable) → IsBag (current_rows table) → visible_rows state table ≡ rows_with (current_rows table) (pending_now state table.number)
unfolding visible_rows
visible_is state table bag = by (pending_of state table.number)
  where
    by : (o : Option PlainPending) → changed_rows (current_rows table) o ≡ rows_with (current_rows table) (unwrap_or o (nothing_pending table.number))
    by None = sym (bag_plus-nil (current_rows table) bag)
    by (Some pending) = refl

pub found_passes : {A : Type 0} (test : A → Bool) (xs : List A) (x : A) → find test xs ≡ Some x → test x ≡ true
found_passes test [] x e = absurd (none-some x e)
found_passes test (y ∷ xs) x e = passed (test y) refl (found_passes test xs x) e
  where
    passed : (b : Bool) → test y ≡ b → (find test xs ≡ Some x → test x ≡ true) → cond b (Some y) (find test xs) ≡ Some x → test x ≡ true
    passed true is rest f = ap test (sym (same_Some y x f)) ∙ is
    passed false is rest f = rest f

pub pending_among : (store : Plain) (state : PlainSession) (number : ℕ) (table : PlainTable) → IsGuarded store state → table_numbered store number ≡ Some table
    → AreAmong (pending_now state number).gone (bag_plus (current_rows table) (pending_now state number).added)
pending_among store state number table guarded at = by (pending_of state number) refl
  where
    by : (o : Option PlainPending) → pending_of state number ≡ o → AreAmong (unwrap_or o (nothing_pending number)).gone (bag_plus (current_rows table) (unwrap_or o (nothing_pending number)).added)
    by None e = minus_none (bag_plus (current_rows table) [])
    by (Some pending) e =
        let same : pending.table ≡ number = same_number pending.table number (found_passes (λ (p : PlainPending). p.table == number) state.pending pending e) in
        (every_found (Rests store state.marks) (λ (p : PlainPending). p.table == number) state.pending pending (rests_now store state guarded) e).1 table (ap (table_numbered store) same ∙ at)

module _ (carried : Carried) (program : Script) (contents : List (List Row)) (store : Plain) (sound : IsSound carried program store) (backed : AreBacked carried program contents store) where
  pub sound_at : (place : ℕ) (table : PlainTable) → slice_get store.tables place ≡ Some table → IsSoundTable store.moment (length store.tables) (1 + place) table
  sound_at place table at = table_at store.moment (length store.tables) 1 place store.tables table sound.tables at

  pub current_hold : (place : ℕ) (table : PlainTable) → slice_get store.tables place ≡ Some table → Hold contents (current_parts store.tally table.number) (current_rows table)
  current_hold place table at =
      let here = sound_at place table at in
      let made : table.made ≤ store.moment = (versions_begun table.made store.moment store.moment table.versions (omega arith) here.versions).0 in
      hold_from contents (current_parts store.tally table.number) (current_rows table)
      (ap (λ (ns : List ℕ). bag_of (rows_of_parts contents ns)) (sym (parts_now store.moment store.moment table.number store.tally (omega arith) sound.tally.layouts))
      ∙ backed.layouts place table at store.moment made ∙ rows_now store.moment (length store.tables) (1 + place) store.moment table here (omega arith))

  pub visible_hold : AreGuarded store → (session place : ℕ) (state : PlainSession) (table : PlainTable) → slice_get store.sessions session ≡ Some state → slice_get store.tables place ≡ Some table
      → Form contents (parts_seen store.tally session table.number) (visible_rows state table)
  visible_hold guarded session place state table there at =
      let here = sound_at place table at in
      let bag = current_bag store.moment (length store.tables) (1 + place) table here in
      let numbered : table_numbered store table.number ≡ Some table = ap (slice_get store.tables) (omega (arith, here.numbered)) ∙ at in
      ap (λ (ns : List ℕ). bag_of (rows_of_parts contents ns)) (seen_is store.tally session table.number)
      ∙ form_from contents (changed (current_parts store.tally table.number) (lists_now store.tally session table.number).gone (lists_now store.tally session table.number).added) (rows_with (current_rows table) (pending_now state table.number))
      (with_bag (current_rows table) (pending_now state table.number))
      (seen_hold contents (current_parts store.tally table.number) (lists_now store.tally session table.number) (pending_now state table.number) (current_rows table) (backed.balanced session state there table.number (omega (arith, here.numbered)) (omega (arith, here.numbered, slice_get_within store.tables place table at)))
      (current_parts_ascend store.moment store.tally table.number sound.tally) (lists_sound store.tally session table.number sound.tally.lists) (current_hold place table at)
      (pending_among store state table.number table (every_at (IsGuarded store) store.sessions session state guarded there) numbered))
      ∙ sym (visible_is state table bag)

  -- ---- the bags

  all_at : {A : Type 0} (P : A → Type 0) (xs : List A) → ((k : ℕ) (x : A) → slice_get xs k ≡ Some x → P x) → All P xs
  all_at P [] at = All-nil P
  all_at P (x ∷ xs) at = All-cons P x xs (at 0 x refl) (all_at P xs (λ k y e. at (suc k) y e))

  all_numbered : {A : Type 0} (P : ℕ × A → Type 0) (xs : List A) (first : ℕ) → ((k : ℕ) (x : A) → slice_get xs k ≡ Some x → P (first + k, x)) → All P (enumerate_from first xs)
  all_numbered P [] first at = All-nil P
  all_numbered P (x ∷ xs) first at =
      All-cons P (first, x) (enumerate_from (first + 1) xs) (subst (λ (n : ℕ). P (n, x)) (omega arith) (at 0 x refl))
      (all_numbered P xs (first + 1) (λ k y e. subst (λ (n : ℕ). P (n, y)) (omega arith) (at (suc k) y e)))

  pins_form : (session index : ℕ) (asked : Asked) (seen : PlainOpen) → open_asked carried program store session index ≡ Some (asked, seen) → PinsForm contents asked seen
  unfolding open_asked
  pins_form session index asked seen e =
      let found = bind_some (slice_get store.sessions session) _ (asked, seen) e in
      let opened = bind_some found.0.running _ (asked, seen) found.2 in
      let same = bind_some (only_if (opened.0.index == index) opened.0) _ (asked, seen) opened.2 in
      let test = only_if_some (opened.0.index == index) opened.0 same.0 same.1 in
      let read = bind_some (statement_read carried program session index) _ (asked, seen) same.2 in
      let is : (asked_with program store session index read.0, same.0) ≡ (asked, seen) = same_Some (asked_with program store session index read.0, same.0) (asked, seen) read.2 in
      subst (λ (x : Asked × PlainOpen). PinsForm contents x.0 x.1) is
      (subst (λ (s : PlainOpen). PinsForm contents (asked_with program store session index read.0) s) test.1
      (backed.pinned session found.0 found.1 opened.0 read.0 opened.1 (ap (statement_read carried program session) (same_number opened.0.index index test.0) ∙ read.1)))

  pub bags_formed : AreGuarded store → BagsAreFormed carried program contents store
  bags_formed guarded = record {
    layouts = all_at (LayoutsForm contents store) store.tables backed.layouts;
    seen = all_numbered (λ found. All (SeenForms contents store found) store.tables) store.sessions 0 (λ session state there.
        subst (λ (n : ℕ). All (SeenForms contents store (n, state)) store.tables) (omega arith)
        (all_at (SeenForms contents store (session, state)) store.tables (λ place table at. visible_hold guarded session place state table there at)));
    pinned = pins_form;
  }
