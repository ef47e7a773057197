-- The end of a query or a change keeps the guards, and so does a commit.
use Rattle.std.specs.List.{list_any}
use Rattle.std.specs.Prelude.{Bool, List, None, Option, Some, [], false, filter, find, flat_map, if◌then◌else◌, length, nat_lt, option_to_list, refl, slice_get, true, unwrap_or, ℕ, ◌&&◌, ◌++◌, ◌-◌, ◌==◌, ◌∷◌, ◌≡◌, ◌≢◌, ◌≤◌}
use Rattle.std.proofs.Common.{ap, arith, cond, subst, sym, ◌∙◌}
use Rattle.std.proofs.lemmas.Option.{none-some, same_Some}
use Rattle.tt_history.specs.declared.history.Added.{Added}
use Rattle.tt_history.specs.declared.history.Told.{Told}
use Rattle.tt_history.specs.declared.reply.Reply.{Reply}
use Rattle.tt_plain.proofs.Tests.{same_number}
use Rattle.tt_plain.proofs.law.Gives.{Gives, gives_bind, gives_when}
use Rattle.tt_plain.proofs.law.Lists.{every-append, every-filter}
use Rattle.tt_plain.proofs.law.Turns.{due_gives}
use Rattle.tt_plain.proofs.law.session.Alone.{IsDue, state_sound}
use Rattle.tt_plain.proofs.law.session.Views.{every_found, is_table}
use Rattle.tt_plain.specs.asked.Asked.{Asked, own_point, request_asked, state_asked}
use Rattle.tt_plain.specs.asked.Carried.{Carried}
use Rattle.tt_plain.specs.asked.Request.{Commits, Defines, Reads, Request, Writes}
use Rattle.tt_plain.specs.declared.store.PlainOpen.{PlainOpen}
use Rattle.tt_plain.specs.declared.store.PlainPending.{PlainPending}
use Rattle.tt_plain.specs.declared.store.PlainSession.{PlainSession}
use Rattle.tt_plain.specs.declared.store.PlainTable.{PlainTable}
use Rattle.tt_plain.specs.effect.Commit.{commit_effect, commit_told, committed, committed_by, points_settled, session_committed, version_begun, version_committed}
use Rattle.tt_plain.specs.effect.Effect.{Effect, TableChange}
use Rattle.tt_plain.specs.effect.End.{EntryFacts, answered, are_facts_of, changed_by, committed_alone, count_reply, end_effect, ended_as, kept, nothing_pending, pending_after, point_of_end, with_pending}
use Rattle.tt_plain.specs.effect.Ending.{own_point_now, session_done}
use Rattle.tt_plain.specs.law.Isolated.{AreAmong, IsIsolatedTarget}
use Rattle.tt_plain.specs.law.Lists.{Every}
use Rattle.tt_plain.specs.law.Sound.{AreRowsOf, IsSoundPending}
use Rattle.tt_plain.specs.meaning.Outcome.{Answers, Does, Outcome, outcome_in, outcome_of}
use Rattle.tt_plain.specs.opening.Marks.{is_exclusive_on}
use Rattle.tt_plain.specs.opening.Seen.{changed_rows, pending_of, rows_with, visible_rows}
use Rattle.tt_plain.specs.stored.Points.{no_point_yet}
use Rattle.tt_plain.specs.stored.Sessions.{has_exclusive_mark}
use Rattle.tt_plain.specs.stored.Tables.{current_rows, table_numbered}
use Rattle.tt_plain.specs.tally.Changes.{AddsParts, Keeps, Unpins}
use Rattle.tt_plain.specs.tally.Parts.{numbers_added}
use Rattle.tt_plain.specs.tally.Pending.{lists_after}
use Rattle.tt_sql.specs.declared.change.Dml.{Dml}
use Rattle.tt_value.specs.declared.value.Row.{Row}
use Rattle.tt_value.specs.values.Bags.{bag_plus}
use Rattle.tt_plain_laws.proofs.guard.Among.{among_added, among_first, among_on, among_removed}
use Rattle.tt_plain_laws.proofs.guard.Grown.{Spares}
use Rattle.tt_plain_laws.proofs.guard.Kept.{KeepsGuards, Rests, are_numbered, bare, every_two, rested}
use Rattle.tt_plain_laws.proofs.guard.Removed.{IsOfTarget, does_of_target}
use Rattle.tt_plain_laws.proofs.guard.Sessions.{alone_keeps, done_keeps, memory_keeps, own_guarded, own_rests}
use Rattle.tt_plain_laws.specs.Guarded.{AreGuarded, IsGuarded}
use Rattle.tt_plain.specs.asked.Event as event
use Rattle.tt_history.specs.declared.reply.Reply.TheVariants as reply
use Rattle.tt_history.specs.declared.history.Told.TheVariants as told

pub found_passes : {A : Type 0} (test : A → Bool) (xs : List A) (x : A) → find test xs ≡ Some x → test x ≡ true
found_passes test [] x e = absurd (none-some x e)
found_passes test (y ∷ xs) x e = passed (test y) refl (found_passes test xs x) e
  where
    passed : (b : Bool) → test y ≡ b → (find test xs ≡ Some x → test x ≡ true) → cond b (Some y) (find test xs) ≡ Some x → test x ≡ true
    passed true is rest f = ap test (sym (same_Some y x f)) ∙ is
    passed false is rest f = rest f

pending_with : (P : PlainPending → Type 0) (pending : PlainPending) (all : List PlainPending) → P pending → Every P all → Every P (with_pending pending all)
pending_with P pending all here each =
    every-append P (filter (λ (other : PlainPending). nat_lt other.table pending.table) all) (pending ∷ filter (λ (other : PlainPending). nat_lt pending.table other.table) all)
    (every-filter P (λ (other : PlainPending). nat_lt other.table pending.table) all each)
    (here, every-filter P (λ (other : PlainPending). nat_lt pending.table other.table) all each)

some_seen : (removed rows : List Row) → AreAmong removed rows → removed ≢ [] → rows ≢ []
some_seen removed rows among some e = some (subst (AreAmong removed) e among)

-- where anything is gone afterwards, it was gone before or is removed now
either_gone : (P : Type 0) (gone removed : List Row) → (removed ≢ [] → P) → (gone ≢ [] → P) → bag_plus gone removed ≢ [] → P
either_gone P gone [] now before some = before (λ e. some (ap (λ (g : List Row). bag_plus g []) e))
either_gone P gone (r ∷ removed) now before some = now (λ e. cc)

module _ (carried : Carried) (asked : Asked) (due : IsDue carried asked) (guarded : AreGuarded asked.store) where
  abbrev KeepsAll : Effect → Type 0
  KeepsAll effect = KeepsGuards asked.store effect

  abbrev state : PlainSession
  state = state_asked asked

  -- ---- versions that begin spare what others have for themselves

  -- what is gone of it is marked by the session itself
  abbrev IsOwn : PlainPending → Type 0
  IsOwn pending = (1 ≤ pending.table) × (pending.gone ≢ [] → has_exclusive_mark pending.table state ≡ true)

  module _ (other : ℕ) (held_by : PlainSession) (at : slice_get asked.store.sessions other ≡ Some held_by) (apart : other ≡ asked.session → ⊥) where
    none_gone : (number : ℕ) (gone : List Row) → has_exclusive_mark number held_by ≡ true → (gone ≢ [] → has_exclusive_mark number state ≡ true) → gone ≡ []
    none_gone number [] held own = refl
    none_gone number (r ∷ gone) held own = absurd (apart (due.sound.holders number other asked.session held_by state at due.at held (own (λ e. cc))))

    begun_spares : (pending : PlainPending) (table : Option PlainTable) → table_numbered asked.store pending.table ≡ table → IsOwn pending → Every (Spares asked.store.tables held_by) (version_begun asked.moment pending table)
    begun_spares pending None e own = tt
    begun_spares pending (Some table) e own = (
      (λ old there held.
          let is = is_table carried asked.program asked.store (pending.table - 1) table due.sound e in
          let numbered : table.number ≡ pending.table = omega (arith, are_numbered carried asked.program asked.store due.sound (pending.table - 1) table e, own.0) in
          let same : table ≡ old = same_Some table old (sym is.there ∙ there) in
          let none : pending.gone ≡ [] = none_gone pending.table pending.gone (subst (λ (n : ℕ). has_exclusive_mark n held_by ≡ true) numbered held) own.1 in
          subst (λ (t : PlainTable). AreAmong (current_rows t) (rows_with (current_rows table) pending)) same (among_added (current_rows table) pending none)),
      tt,
    )

    unless_spares : (test : Bool) (changes : List TableChange) → Every (Spares asked.store.tables held_by) changes → Every (Spares asked.store.tables held_by) (if test then [] else changes)
    unless_spares true changes all = tt
    unless_spares false changes all = all

    version_spares : (pending : PlainPending) → IsOwn pending → Every (Spares asked.store.tables held_by) (version_committed asked.store asked.moment pending)
    version_spares pending own =
        unless_spares (length pending.gone == 0 && length pending.added == 0) (version_begun asked.moment pending (table_numbered asked.store pending.table))
        (begun_spares pending (table_numbered asked.store pending.table) refl own)

    versions_spare : (all : List PlainPending) → Every IsOwn all → Every (Spares asked.store.tables held_by) (flat_map (version_committed asked.store asked.moment) all)
    versions_spare [] own = tt
    versions_spare (pending ∷ all) own =
        every-append (Spares asked.store.tables held_by) (version_committed asked.store asked.moment pending) (flat_map (version_committed asked.store asked.moment) all) (version_spares pending own.0) (versions_spare all own.1)

  pub another : (new : PlainSession) (other : ℕ) → ((n : PlainSession) → ◌≡◌ {A = Option (ℕ × PlainSession)} (Some (asked.session, new)) (Some (other, n)) → ⊥) → other ≡ asked.session → ⊥
  another new other apart e = apart new (ap (λ (n : ℕ). Some (n, new)) (sym e))

  -- ---- commits

  own_pending : Every IsOwn state.pending
  own_pending =
      every_two (IsSoundPending (length asked.store.tables)) (Rests asked.store state.marks) IsOwn state.pending (λ pending sound rests. (sound.0.0, rests.0.1)) (state_sound carried asked due).rows
      (own_rests carried asked due guarded)

  committed_keeps : (left : PlainSession) (points : List (ℕ × ℕ)) (reply : Option Reply) → left.running ≡ None → KeepsAll (record (committed asked) { session = Some (asked.session, session_committed left); points = points; reply = reply })
  unfolding committed
  committed_keeps left points reply idle = record {
    own = λ session new e next is.
        subst (IsGuarded next) (ap (λ (c : ℕ × PlainSession). c.1) (same_Some (asked.session, session_committed left) (session, new) e)) (bare next (session_committed left) idle refl);
    others = λ other held_by at apart. versions_spare other held_by at (another (session_committed left) other apart) state.pending own_pending;
  }

  request_committed : (request : Request) → state.running ≡ None → Gives KeepsAll (committed_by asked request)
  unfolding committed
  request_committed Commits idle = committed_keeps (session_done asked) (points_settled asked ++ own_point_now asked) (Some reply.Ok) refl
  request_committed (Defines d) idle = committed_keeps state (points_settled asked ++ (own_point asked, no_point_yet) ∷ []) None idle
  request_committed _ idle = tt

  told_committed : (t : Told) → state.running ≡ None → Gives KeepsAll (commit_told asked t)
  told_committed told.Done idle = request_committed (request_asked asked) idle
  told_committed (told.Refused number) idle = tt
  told_committed told.Memory idle = memory_keeps carried asked due guarded

  pub commit_keeps : (t : Told) → state.running ≡ None → Gives KeepsAll (commit_effect asked t)
  unfolding commit_effect
  commit_keeps t idle = due_gives KeepsAll event.Commit asked _ (λ test. told_committed t idle)

  -- ---- changes

  module _ (seen : PlainOpen) (running : state.running ≡ Some seen) (d : Dml) (table : ℕ) (removed added : List Row) (of_target : IsOfTarget seen d table removed) where
    target : IsIsolatedTarget asked.store state (table, of_target.rows)
    target =
        (subst (λ (t : Option (ℕ × List Row)). Every (IsIsolatedTarget asked.store state) (option_to_list t)) of_target.target ((own_guarded carried asked due guarded).isolated.target seen running)).0

    pub from_one : 1 ≤ table
    from_one =
        (subst (λ (t : Option (ℕ × List Row)). Every (AreRowsOf (length asked.store.tables)) (option_to_list t)) of_target.target ((state_sound carried asked due).running seen running).target).0.0

    abbrev after : Option PlainPending → PlainPending
    after found = record { table = table; gone = bag_plus (unwrap_or found (nothing_pending table)).gone removed; added = bag_plus (unwrap_or found (nothing_pending table)).added added }

    visible_is : (found : Option PlainPending) (t : PlainTable) → pending_of state table ≡ found → table_numbered asked.store table ≡ Some t → AreAmong of_target.rows (visible_rows state t) → AreAmong removed (changed_rows (current_rows t) found)
    unfolding visible_rows
    visible_is found t e at among =
        let numbered : t.number ≡ table = omega (arith, are_numbered carried asked.program asked.store due.sound (table - 1) t at, from_one) in
        among_on removed of_target.rows (changed_rows (current_rows t) found) of_target.is_seen.0
        (subst (AreAmong of_target.rows) (ap (λ (n : ℕ). changed_rows (current_rows t) (pending_of state n)) numbered ∙ ap (changed_rows (current_rows t)) e) among)

    pub exclusive_now : removed ≢ [] → list_any (is_exclusive_on table) state.marks ≡ true
    exclusive_now some = target.exclusive (some_seen removed of_target.rows of_target.is_seen.0 some)

    rests_after : (found : Option PlainPending) → pending_of state table ≡ found → Rests asked.store state.marks (after found)
    rests_after None e = (
      (target.marked, λ some. exclusive_now (λ f. some (ap (bag_plus []) f))),
      λ t at. among_first (current_rows t) removed added (visible_is None t e at (target.among t at)),
    )
    rests_after (Some pending) e =
        let same : pending.table ≡ table = same_number pending.table table (found_passes (λ (p : PlainPending). p.table == table) state.pending pending e) in
        let rests = every_found (Rests asked.store state.marks) (λ (p : PlainPending). p.table == table) state.pending pending (own_rests carried asked due guarded) e in (
          (
            target.marked,
            either_gone (list_any (is_exclusive_on table) state.marks ≡ true) pending.gone removed exclusive_now (λ some. subst (λ (n : ℕ). list_any (is_exclusive_on n) state.marks ≡ true) same (rests.0.1 some)),
          ),
          λ t at.
              among_removed (current_rows t) removed added pending (rests.1 t (ap (table_numbered asked.store) same ∙ at)) (visible_is (Some pending) t e at (target.among t at)),
        )

    abbrev pending : PlainPending
    pending = pending_after state table removed added

    pub rests_now : Rests asked.store state.marks pending
    rests_now = rests_after (pending_of state table) refl

    kept_keeps : (facts : EntryFacts) (reply : Reply) → KeepsAll (kept asked pending table facts reply)
    unfolding kept
    kept_keeps facts reply =
        let new : PlainSession = record (session_done asked) { pending = with_pending pending state.pending } in
        alone_keeps carried asked due guarded new [] (AddsParts table facts.1 ∷ Keeps (lists_after asked.store.tally asked.session table facts.0 (numbers_added facts.1)) ∷ Unpins asked.session ∷ []) asked.moment (Some reply)
        (rested asked.store new refl (pending_with (Rests asked.store state.marks) pending state.pending rests_now (own_rests carried asked due guarded)))

    alone_committed : (facts : EntryFacts) (reply : Reply) → state.transaction ≡ false → KeepsAll (committed_alone asked pending table facts reply)
    unfolding committed_alone
    alone_committed facts reply closed =
        let left : PlainSession = record (session_done asked) { marks = [] } in
        record {
          own = λ session new e next is.
              subst (IsGuarded next) (ap (λ (c : ℕ × PlainSession). c.1) (same_Some (asked.session, left) (session, new) e)) (bare next left refl ((state_sound carried asked due).closed closed));
          others = λ other held_by at apart. version_spares other held_by at (another left other apart) pending (from_one, rests_now.0.1);
        }

    pub changed_keeps : (count : ℕ) (facts : EntryFacts) → KeepsAll (changed_by asked d table removed added count facts)
    changed_keeps count facts = by state.transaction refl
      where
        by : (b : Bool) → state.transaction ≡ b → KeepsAll (if b then kept asked pending table facts (count_reply d count) else committed_alone asked pending table facts (count_reply d count))
        by true e = kept_keeps facts (count_reply d count)
        by false e = alone_committed facts (count_reply d count) e

  -- ---- the end

  answered_keeps : (rows : List Row) → KeepsAll (answered asked rows)
  answered_keeps rows = done_keeps carried asked due guarded (point_of_end asked) (Unpins asked.session ∷ []) asked.moment (Some (reply.Rows rows))

  outcome_keeps : (seen : PlainOpen) (request : Request) (outcome : Outcome) (facts : EntryFacts) → state.running ≡ Some seen → outcome_in asked seen request ≡ Some outcome → Gives KeepsAll (ended_as asked request outcome facts)
  outcome_keeps seen (Reads q) (Answers rows) facts running f = gives_when KeepsAll (length facts.0 == 0 && length facts.1 == 0) (answered asked rows) (λ test. answered_keeps rows)
  outcome_keeps seen (Writes d) (Does table removed added count) facts running f =
      gives_when KeepsAll (are_facts_of asked table d removed added facts) (changed_by asked d table removed added count facts)
      (λ test. changed_keeps seen running d table removed added (does_of_target asked seen d table removed added count f) count facts)
  outcome_keeps seen _ _ facts running f = tt

  pub end_keeps : (seen : PlainOpen) (gone : List ℕ) (added : List Added) → state.running ≡ Some seen → Gives KeepsAll (end_effect (asked, seen) gone added)
  unfolding end_effect outcome_of
  end_keeps seen gone added running = gives_bind KeepsAll (outcome_of asked seen) _ (λ outcome e. outcome_keeps seen (request_asked asked) outcome (gone, added) running e)
