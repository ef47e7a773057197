-- The end of a query or a change, and a commit.
use Rattle.std.specs.List.{list_all, list_any}
use Rattle.std.specs.Prelude.{Bool, List, None, Option, Some, [], false, filter, flat_map, fold, if◌then◌else◌, length, not, option_map, option_to_list, refl, slice_get, slice_set, true, unwrap_or, ℕ, ◌&&◌, ◌++◌, ◌+◌, ◌-◌, ◌==◌, ◌∷◌, ◌≡◌, ◌≢◌, ◌||◌}
use Rattle.std.proofs.Common.{ap, arith, inl, inr, subst, suc, sym, zero, ◌∙◌}
use Rattle.std.proofs.lemmas.Bool.{and_parts, eq-eqb, eqb-true, false≢true, or_cases}
use Rattle.std.proofs.lemmas.Option.{none-some, same_Some}
use Rattle.tt_history.specs.declared.history.Added.{Added}
use Rattle.tt_history.specs.declared.history.Told.TheVariants as told
use Rattle.tt_history.specs.declared.history.Told.{Told}
use Rattle.tt_history.specs.declared.reply.Reply.TheVariants as reply
use Rattle.tt_history.specs.declared.reply.Reply.{Reply}
use Rattle.tt_layout.proofs.Members.{has-changed, has-joined, has-without}
use Rattle.tt_layout.specs.Numbers.{has, joined, without}
use Rattle.tt_plain.proofs.Tests.{same_number}
use Rattle.tt_plain.proofs.law.Gives.{Gives, gives_bind, gives_when}
use Rattle.tt_plain.proofs.law.Lists.{every-append, every-filter, every_at, every_kept}
use Rattle.tt_plain.proofs.law.Turns.{due_gives}
use Rattle.tt_plain.proofs.law.session.Alone.{IsDue, IsSaid, state_sound}
use Rattle.tt_plain.proofs.law.session.Versions.{BeginsVersion, committed_version, committed_versions, versions_sound}
use Rattle.tt_plain.proofs.law.session.Views.{every_found}
use Rattle.tt_plain.specs.asked.Asked.{Asked, own_point, request_asked, state_asked}
use Rattle.tt_plain.specs.asked.Carried.{Carried}
use Rattle.tt_plain.specs.asked.Event as event
use Rattle.tt_plain.specs.asked.Request.{Commits, Defines, Reads, Request, Writes, request_of}
use Rattle.tt_plain.specs.asked.Turns.{statement_read}
use Rattle.tt_plain.specs.declared.store.PlainMark.{PlainMark}
use Rattle.tt_plain.specs.declared.store.PlainOpen.{PlainOpen}
use Rattle.tt_plain.specs.declared.store.PlainPending.{PlainPending}
use Rattle.tt_plain.specs.declared.store.PlainSession.{PlainSession}
use Rattle.tt_plain.specs.declared.store.PlainTable.{PlainTable}
use Rattle.tt_plain.specs.declared.tally.Tally.{Tally}
use Rattle.tt_plain.specs.declared.tally.TallyPending.{TallyPending}
use Rattle.tt_plain.specs.effect.Apply.{changed_table}
use Rattle.tt_plain.specs.effect.Commit.{commit_effect, commit_told, committed, committed_by, points_settled, session_committed, version_committed}
use Rattle.tt_plain.specs.effect.Effect.{Effect, NewVersion, TableChange}
use Rattle.tt_plain.specs.effect.End.{EntryFacts, answered, are_facts_of, changed_by, committed_alone, count_reply, end_effect, ended_as, kept, may_remove, pending_after, point_of_end, with_pending}
use Rattle.tt_plain.specs.effect.Ending.{own_point_now, session_done}
use Rattle.tt_plain.specs.law.Isolated.{IsIsolatedTarget}
use Rattle.tt_plain.specs.law.Lists.{Every}
use Rattle.tt_plain.specs.law.Sound.{IsThere}
use Rattle.tt_plain.specs.law.Stocked.{AreStored}
use Rattle.tt_plain.specs.meaning.Outcome.{Answers, Does, Outcome, outcome_in, outcome_of}
use Rattle.tt_plain.specs.opening.Marks.{is_exclusive_on, marks_exclusively}
use Rattle.tt_plain.specs.stored.Points.{no_point_yet}
use Rattle.tt_plain.specs.stored.Sessions.{new_session}
use Rattle.tt_plain.specs.tally.Changes.{AddsParts, Keeps, Unpins, changed_tally, stands_before}
use Rattle.tt_plain.specs.tally.Layouts.{changed_parts, current_parts, is_ascending, is_pending_of, lists_of, parts_seen}
use Rattle.tt_plain.specs.tally.Parts.{are_next_parts, numbers_added, rows_in_added, rows_in_parts}
use Rattle.tt_plain.specs.tally.Pending.{changed_lists, layout_begun, lists_after, lists_of_session, no_lists}
use Rattle.tt_plain_laws.proofs.guard.Ends.{found_passes}
use Rattle.tt_plain_laws.proofs.guard.Kept.{every_two}
use Rattle.tt_plain_laws.proofs.guard.Removed.{IsOfTarget, does_of_target}
use Rattle.tt_plain_laws.specs.Guarded.{AreGuarded, lasting_marks}
use Rattle.tt_sql.specs.declared.change.Dml.{Dml}
use Rattle.tt_stock_laws.proofs.Alone.{Supplied, alone_supplies, before_marks, idle_marks, memory_supplies, open_marks, still_marked}
use Rattle.tt_stock_laws.proofs.Layouts.{GivenNext, Spares, all_has, begun_all, begun_given, begun_pending, begun_there, committed_pending, committed_there, commits_given, commits_there, next_layout, other_spared, others_of, owned, there_stored, unpins_quiet}
use Rattle.tt_stock_laws.proofs.Sources.{changed_stored}
use Rattle.tt_stock_laws.proofs.Stock.{AreFair, AreGiven, added_stored, stored_from, stored_has, stored_more}
use Rattle.tt_stock_laws.proofs.Supplied.{AreThere, IsHeld, IsMarked, IsMarkedBy, Stocks, all_marked, held_idle, marked_live, others_marked, state_in}
use Rattle.tt_value.specs.declared.value.Row.{Row}

-- ---- versions are fair, and leave tables live

version_fair : (moment : ℕ) (tables : List PlainTable) (changes : List TableChange) → Every (BeginsVersion moment) changes → AreFair moment tables changes
version_fair moment tables [] all = tt
version_fair moment tables (NewVersion number begun rows ∷ changes) all = (tt, version_fair moment (changed_table tables (NewVersion number begun rows)) changes all.1)
version_fair moment tables (_ ∷ changes) all = absurd all.0

pub live_after : (moment : ℕ) (tables : List PlainTable) (changes : List TableChange) (number : ℕ) → Every (BeginsVersion moment) changes → IsThere tables number (λ (t : PlainTable). t.dropped ≡ None)
    → (table : PlainTable) → slice_get (fold changed_table tables changes) (number - 1) ≡ Some table → table.dropped ≡ None
live_after moment tables changes number all live table at =
    let stays = (versions_sound moment tables changes all).1.lives (number - 1) live.table live.table_is live.so in
    subst (λ (t : PlainTable). t.dropped ≡ None) (same_Some stays.0 table (sym stays.1 ∙ at)) stays.2

set_here : {A : Type 0} (xs : List A) (place : ℕ) (x y : A) → slice_get xs place ≡ Some x → slice_get (slice_set xs place y) place ≡ Some y
set_here [] place x y e = absurd (none-some x e)
set_here (z ∷ xs) zero x y e = refl
set_here (z ∷ xs) (suc place) x y e = set_here xs place x y e

-- ---- what is pending of the session itself

module _ (carried : Carried) (asked : Asked) (due : IsDue carried asked) (stocks : Stocks carried asked.program asked.store) where
  -- of a session without a mark nothing is pending
  pub none_before : (marks : List PlainMark) → marks ≡ [] → (lists : TallyPending) → IsMarkedBy marks lists → ⊥
  none_before marks none lists marked = false≢true (sym (ap (λ (ms : List PlainMark). list_any (λ (mark : PlainMark). mark.table == lists.table) ms) none) ∙ marked.0)

  pub own_marked : (lists : TallyPending) → lists.session ≡ asked.session → IsMarked asked.store.sessions lists → IsMarkedBy (lasting_marks (state_asked asked)) lists
  own_marked lists e marked =
      subst (λ (s : PlainSession). IsMarkedBy (lasting_marks s) lists) (ap (λ (n : ℕ). state_in asked.store.sessions n) e ∙ ap (λ (o : Option PlainSession). unwrap_or o new_session) due.at) marked

-- ---- an open change and its facts

module _ (carried : Carried) (asked : Asked) (due : IsDue carried asked) (stocks : Stocks carried asked.program asked.store) (guarded : AreGuarded asked.store) where
  abbrev SuppliedHere : Effect → Type 0
  SuppliedHere effect = Supplied carried asked due stocks effect

  abbrev tally : Tally
  tally = asked.store.tally

  abbrev state : PlainSession
  state = state_asked asked

  -- ---- the end of a query

  read_supplies : (seen : PlainOpen) (rows : List Row) → state.running ≡ Some seen → SuppliedHere (answered asked rows)
  read_supplies seen rows running =
      alone_supplies carried asked due stocks (session_done asked) (point_of_end asked) (Unpins asked.session ∷ []) asked.moment (Some (reply.Rows rows)) (tt, tt) stocks.there
      (still_marked carried asked due stocks (session_done asked) (λ lists e marked. open_marks carried asked due stocks seen running lists marked)) (held_idle carried asked.program asked.session (session_done asked) refl)

  -- ---- changes

  module _ (seen : PlainOpen) (running : state.running ≡ Some seen) (counted : seen.index ≡ asked.index) (said : IsSaid carried asked) (d : Dml) (asks : request_asked asked ≡ Writes d) (table : ℕ) (removed added : List Row) (of_target : IsOfTarget seen d table removed)
      (facts : EntryFacts) (true_facts : are_facts_of asked table d removed added facts ≡ true) where
    allowed : (may_remove asked table d facts.0 ≡ true) × (are_next_parts tally facts.1 ≡ true)
    unfolding are_facts_of
    allowed =
        let both = and_parts (may_remove asked table d facts.0 && are_next_parts tally facts.1) (rows_in_added facts.1 + length removed == rows_in_parts tally facts.0 + length added) true_facts in
        and_parts (may_remove asked table d facts.0) (are_next_parts tally facts.1) both.0

    marked_here : list_any (λ (mark : PlainMark). mark.table == table) state.marks ≡ true
    marked_here =
        let own = every_at _ asked.store.sessions asked.session state guarded due.at in
        (subst (λ (t : Option (ℕ × List Row)). Every (IsIsolatedTarget asked.store state) (option_to_list t)) of_target.target (own.isolated.target seen running)).0.marked

    live : IsThere asked.store.tables table (λ (t : PlainTable). t.dropped ≡ None)
    live = marked_live asked.store.tables state.marks table (state_sound carried asked due).marked marked_here

    by_kind : (b : Bool) → marks_exclusively d ≡ b → (gone : List ℕ) → (if b then is_ascending gone && list_all (has (parts_seen tally asked.session table)) gone else length gone == 0) ≡ true
        → (gone ≢ [] → list_any (is_exclusive_on table) state.marks ≡ true) × ((part : ℕ) → has gone part ≡ true → has (parts_seen tally asked.session table) part ≡ true)
    by_kind true e gone ok = (
      (λ some. stocks.held asked.session state due.at seen d (table, of_target.rows) running
          (ap (λ (n : ℕ). option_map request_of (statement_read carried asked.program asked.session n)) counted ∙ ap (option_map request_of) said.said ∙ ap Some asks) of_target.target e),
      (λ part h. all_has (has (parts_seen tally asked.session table)) gone part (and_parts (is_ascending gone) (list_all (has (parts_seen tally asked.session table)) gone) ok).1 h),
    )
    by_kind false e [] ok = ((λ some. absurd (some refl)), λ part h. absurd (false≢true h))
    by_kind false e (g ∷ gone) ok = absurd (omega (arith, eqb-true (length (g ∷ gone)) 0 ok))

    removal : (facts.0 ≢ [] → list_any (is_exclusive_on table) state.marks ≡ true) × ((part : ℕ) → has facts.0 part ≡ true → has (parts_seen tally asked.session table) part ≡ true)
    removal = by_kind (marks_exclusively d) refl facts.0 allowed.0

    -- ---- in a transaction

    abbrev grown : Tally
    grown = changed_tally tally (AddsParts table facts.1)

    abbrev before : Option TallyPending → TallyPending
    before found = unwrap_or found (no_lists asked.session table)

    abbrev after : Option TallyPending → TallyPending
    after found = changed_lists (before found) facts.0 (numbers_added facts.1)

    is_of : (found : TallyPending) → lists_of tally asked.session table ≡ Some found → (found.session ≡ asked.session) × (found.table ≡ table)
    is_of found e =
        let both = and_parts (found.session == asked.session) (found.table == table) (found_passes (is_pending_of asked.session table) tally.pending found e) in
        (same_number found.session asked.session both.0, same_number found.table table both.1)

    added_before : (found : Option TallyPending) → lists_of tally asked.session table ≡ found → AreStored tally (before found).added
    added_before None e = tt
    added_before (Some lists) e = every_found (λ (l : TallyPending). AreStored tally l.added) (is_pending_of asked.session table) tally.pending lists stocks.stock.added e

    added_after : (found : Option TallyPending) → lists_of tally asked.session table ≡ found → AreStored grown (after found).added
    added_after found e =
        stored_from grown (joined (without facts.0 (before found).added) (numbers_added facts.1)) (λ n h.
        elim (or_cases (has (without facts.0 (before found).added) n) (has (numbers_added facts.1) n) (sym (has-joined (without facts.0 (before found).added) (numbers_added facts.1) n) ∙ h)) [
          | inl k ↦ stored_more tally table facts.1 n
              (stored_has tally (before found).added n (added_before found e) (and_parts (has (before found).added n) (not (has facts.0 n)) (sym (has-without facts.0 (before found).added n) ∙ k)).0)
          | inr k ↦ stored_has grown (numbers_added facts.1) n (added_stored tally table facts.1) k
        ])

    not_both : (a b c : Bool) → not b ≡ true → ((a && not c) || b) ≡ true → a ≡ true
    not_both true b c e f = refl
    not_both false true c e f = absurd (false≢true e)
    not_both false false c e f = f

    seen_there : (found : Option TallyPending) → lists_of tally asked.session table ≡ found → (part : ℕ) → has (changed_parts (current_parts tally table) found) part ≡ true → not (has (before found).added part) ≡ true → has (current_parts tally table) part ≡ true
    seen_there None e part h free = h
    seen_there (Some lists) e part h free =
        not_both (has (current_parts tally table) part) (has lists.added part) (has lists.gone part) free (sym (has-changed (current_parts tally table) lists.gone lists.added part) ∙ h)

    there_before : (found : Option TallyPending) → lists_of tally asked.session table ≡ found → (part : ℕ) → has (before found).gone part ≡ true → has (current_parts tally table) part ≡ true
    there_before None e part h = absurd (false≢true h)
    there_before (Some lists) e part h =
        subst (λ (n : ℕ). has (current_parts tally n) part ≡ true) (is_of lists e).1 (every_found (AreThere tally) (is_pending_of asked.session table) tally.pending lists stocks.there e part h)

    table_is : (found : Option TallyPending) → lists_of tally asked.session table ≡ found → (before found).table ≡ table
    table_is None e = refl
    table_is (Some lists) e = (is_of lists e).1

    session_is : (found : Option TallyPending) → lists_of tally asked.session table ≡ found → (before found).session ≡ asked.session
    session_is None e = refl
    session_is (Some lists) e = (is_of lists e).0

    there_after : (found : Option TallyPending) → lists_of tally asked.session table ≡ found → AreThere tally (after found)
    there_after found e part h =
        subst (λ (n : ℕ). has (current_parts tally n) part ≡ true) (sym (table_is found e))
        (elim (or_cases (has (before found).gone part) (has (without (before found).added facts.0) part) (sym (has-joined (before found).gone (without (before found).added facts.0) part) ∙ h)) [
          | inl k ↦ there_before found e part k
          | inr k ↦ let both = and_parts (has facts.0 part) (not (has (before found).added part)) (sym (has-without (before found).added facts.0 part) ∙ k) in
              seen_there found e part (subst (λ (o : Option TallyPending). has (changed_parts (current_parts tally table) o) part ≡ true) e (removal.1 part both.0)) both.1
        ])

    alone_before : (found : Option TallyPending) → lists_of tally asked.session table ≡ found → (before found).gone ≢ [] → list_any (is_exclusive_on table) state.marks ≡ true
    alone_before None e some = absurd (some refl)
    alone_before (Some lists) e some =
        let marked = every_found (IsMarked asked.store.sessions) (is_pending_of asked.session table) tally.pending lists stocks.marked e in
        subst (λ (n : ℕ). list_any (is_exclusive_on n) state.marks ≡ true) (is_of lists e).1 ((open_marks carried asked due stocks seen running lists (own_marked carried asked due stocks lists (is_of lists e).0 marked)).1 some)

    alone_after : (gone : List ℕ) (old : TallyPending) → (gone ≢ [] → list_any (is_exclusive_on table) state.marks ≡ true) → (old.gone ≢ [] → list_any (is_exclusive_on table) state.marks ≡ true) → joined old.gone (without old.added gone) ≢ [] → list_any (is_exclusive_on table) state.marks ≡ true
    alone_after [] old now earlier some = earlier some
    alone_after (g ∷ gone) old now earlier some = now (λ e. cc)

    marked_after : (found : Option TallyPending) → lists_of tally asked.session table ≡ found → IsMarkedBy state.marks (after found)
    marked_after found e =
        subst (λ (n : ℕ). (list_any (λ (mark : PlainMark). mark.table == n) state.marks ≡ true) × ((after found).gone ≢ [] → list_any (is_exclusive_on n) state.marks ≡ true)) (sym (table_is found e))
        (marked_here, alone_after facts.0 (before found) removal.0 (alone_before found e))

    kept_supplies : (pending : PlainPending) (reply : Reply) → SuppliedHere (kept asked pending table facts reply)
    unfolding kept
    kept_supplies pending reply =
        let new : PlainSession = record (session_done asked) { pending = with_pending pending state.pending } in
        let lists : TallyPending = lists_after tally asked.session table facts.0 (numbers_added facts.1) in
        let left : List TallyPending = filter (λ (other : TallyPending). stands_before other lists) tally.pending in
        let right : List TallyPending = filter (λ (other : TallyPending). stands_before lists other) tally.pending in
        let others = still_marked carried asked due stocks new (λ other e marked. open_marks carried asked due stocks seen running other marked) in
        let own : IsMarked (slice_set asked.store.sessions asked.session new) lists =
        subst (λ (n : ℕ). IsMarkedBy (lasting_marks (state_in (slice_set asked.store.sessions asked.session new) n)) lists) (sym (session_is (lists_of tally asked.session table) refl))
        (subst (λ (o : Option PlainSession). IsMarkedBy (lasting_marks (unwrap_or o new_session)) lists) (sym (set_here asked.store.sessions asked.session state new due.at)) (marked_after (lists_of tally asked.session table) refl)) in
        alone_supplies carried asked due stocks new [] (AddsParts table facts.1 ∷ Keeps lists ∷ Unpins asked.session ∷ []) asked.moment (Some reply) (tt, (added_after (lists_of tally asked.session table) refl, (tt, tt)))
        (every-append (AreThere tally) left (lists ∷ right) (every-filter (AreThere tally) (λ (other : TallyPending). stands_before other lists) tally.pending stocks.there)
        (there_after (lists_of tally asked.session table) refl, every-filter (AreThere tally) (λ (other : TallyPending). stands_before lists other) tally.pending stocks.there))
        (every-append (IsMarked (slice_set asked.store.sessions asked.session new)) left (lists ∷ right) (every-filter (IsMarked (slice_set asked.store.sessions asked.session new)) (λ (other : TallyPending). stands_before other lists) tally.pending others)
        (own, every-filter (IsMarked (slice_set asked.store.sessions asked.session new)) (λ (other : TallyPending). stands_before lists other) tally.pending others))
        (held_idle carried asked.program asked.session new refl)

    -- ---- alone

    module _ (closed : state.transaction ≡ false) where
      none_own : (lists : TallyPending) → IsMarked asked.store.sessions lists → lists.session ≡ asked.session → ⊥
      none_own lists marked e =
          none_before carried asked due stocks seen.marks_before (((state_sound carried asked due).running seen running).alone closed) lists (before_marks carried asked due stocks seen running lists (own_marked carried asked due stocks lists e marked))

      alone_given : (pending : PlainPending) → AreGiven (fold changed_table asked.store.tables (version_committed asked.store asked.moment pending)) tally
          (AddsParts table facts.1 ∷ layout_begun tally asked.moment table facts.0 (numbers_added facts.1) ++ Unpins asked.session ∷ [])
      alone_given pending = (
        tt,
        begun_given (fold changed_table asked.store.tables (version_committed asked.store asked.moment pending)) tally asked.moment grown table facts.0 (numbers_added facts.1) (Unpins asked.session ∷ []) (
          changed_stored grown (current_parts tally table) facts.0 (numbers_added facts.1) (λ n h. stored_more tally table facts.1 n (there_stored carried asked.program asked.store due.sound stocks table live n h))
              (λ n h. stored_has grown (numbers_added facts.1) n (added_stored tally table facts.1) h),
          live_after asked.moment asked.store.tables (version_committed asked.store asked.moment pending) table (committed_version asked.store asked.moment pending) live,
        )
            (λ t e. (tt, tt)),
      )

      spared : Every (λ (lists : TallyPending). Spares lists table (next_layout asked.store.tables tally asked.moment table facts.0 (numbers_added facts.1))) tally.pending
      spared =
          every_two (IsMarked asked.store.sessions) (AreThere tally) (λ (lists : TallyPending). Spares lists table (next_layout asked.store.tables tally asked.moment table facts.0 (numbers_added facts.1))) tally.pending
          (λ lists marked there. other_spared carried asked.program asked.store due.sound lists asked.session table state facts.0 (numbers_added facts.1) due.at (none_own lists marked) live.from_one removal.0 marked there) stocks.marked stocks.there

      alone_committed : (pending : PlainPending) (reply : Reply) → SuppliedHere (committed_alone asked pending table facts reply)
      unfolding committed_alone
      alone_committed pending reply =
          let new : PlainSession = record (session_done asked) { marks = [] } in
          let same = begun_pending asked.store.tables tally asked.moment grown table facts.0 (numbers_added facts.1) (Unpins asked.session) (unpins_quiet asked.store.tables tally asked.moment asked.session) in
          record {
            fair = version_fair asked.moment asked.store.tables (version_committed asked.store asked.moment pending) (committed_version asked.store asked.moment pending);
            given = alone_given pending;
            there = begun_there asked.store.tables tally asked.moment grown table facts.0 (numbers_added facts.1) (Unpins asked.session) (unpins_quiet asked.store.tables tally asked.moment asked.session) stocks.there spared;
            marked = subst (Every (IsMarked (slice_set asked.store.sessions asked.session new))) (sym same)
                (all_marked asked.store.sessions asked.session state new due.at tally.pending (λ lists e marked. absurd (none_before carried asked due stocks seen.marks_before (((state_sound carried asked due).running seen running).alone closed) lists (before_marks carried asked due stocks seen running lists marked))) stocks.marked);
            held = λ session other e. subst (λ (c : ℕ × PlainSession). IsHeld carried asked.program c.0 c.1) (same_Some (asked.session, new) (session, other) e) (held_idle carried asked.program asked.session new refl);
          }

    change_supplies : (count : ℕ) → SuppliedHere (changed_by asked d table removed added count facts)
    change_supplies count = by state.transaction refl
      where
        by : (b : Bool) → state.transaction ≡ b
            → SuppliedHere (if b then kept asked (pending_after state table removed added) table facts (count_reply d count) else committed_alone asked (pending_after state table removed added) table facts (count_reply d count))
        by true e = kept_supplies (pending_after state table removed added) (count_reply d count)
        by false e = alone_committed e (pending_after state table removed added) (count_reply d count)

  -- ---- the entry

  ended_supplies : (seen : PlainOpen) (facts : EntryFacts) → state.running ≡ Some seen → seen.index ≡ asked.index → IsSaid carried asked → (request : Request) → request_asked asked ≡ request → (outcome : Outcome) → outcome_in asked seen request ≡ Some outcome → Gives SuppliedHere (ended_as asked request outcome facts)
  ended_supplies seen facts running counted said (Reads q) asks (Answers rows) e = gives_when SuppliedHere (length facts.0 == 0 && length facts.1 == 0) (answered asked rows) (λ test. read_supplies seen rows running)
  ended_supplies seen facts running counted said (Writes d) asks (Does table removed added count) e =
      gives_when SuppliedHere (are_facts_of asked table d removed added facts) (changed_by asked d table removed added count facts) (λ test.
      change_supplies seen running counted said d asks table removed added (does_of_target asked seen d table removed added count e) facts test count)
  ended_supplies seen facts running counted said _ asks _ e = tt

  pub end_supplies : (seen : PlainOpen) (gone : List ℕ) (added : List Added) → state.running ≡ Some seen → seen.index ≡ asked.index → IsSaid carried asked → Gives SuppliedHere (end_effect (asked, seen) gone added)
  unfolding end_effect outcome_of
  end_supplies seen gone added running counted said = gives_bind SuppliedHere (outcome_of asked seen) _ (λ outcome e. ended_supplies seen (gone, added) running counted said (request_asked asked) refl outcome e)

  -- ---- commits

  abbrev own : List TallyPending
  own = lists_of_session tally asked.session

  abbrev versions : List TableChange
  versions = flat_map (version_committed asked.store asked.moment) state.pending

  module _ (idle : state.running ≡ None) where
    own_session : (lists : TallyPending) → (lists.session == asked.session) ≡ true → lists.session ≡ asked.session
    own_session lists e = same_number lists.session asked.session e

    own_given : Every (GivenNext (fold changed_table asked.store.tables versions) tally asked.moment) own
    own_given =
        every_two (IsMarked asked.store.sessions) (λ (lists : TallyPending). AreStored tally lists.added) (GivenNext (fold changed_table asked.store.tables versions) tally asked.moment) own
        (λ lists marked stored.
        let here = owned carried asked.program asked.store due.sound lists marked in (
          changed_stored tally (current_parts tally lists.table) lists.gone lists.added (there_stored carried asked.program asked.store due.sound stocks lists.table here.live) (λ n h. stored_has tally lists.added n stored h),
          live_after asked.moment asked.store.tables versions lists.table (committed_versions asked.store asked.moment state.pending) here.live,
        ))
        (every-filter (IsMarked asked.store.sessions) (λ (lists : TallyPending). lists.session == asked.session) tally.pending stocks.marked)
        (every-filter (λ (lists : TallyPending). AreStored tally lists.added) (λ (lists : TallyPending). lists.session == asked.session) tally.pending stocks.stock.added)

    spared_by : (lists : TallyPending) → (lists.session ≡ asked.session → ⊥) → IsMarked asked.store.sessions lists → AreThere tally lists
        → Every (λ (mine : TallyPending). Spares lists mine.table (next_layout (fold changed_table asked.store.tables versions) tally asked.moment mine.table mine.gone mine.added)) own
    spared_by lists apart marked there =
        every_two (IsMarked asked.store.sessions) (λ (mine : TallyPending). (mine.session == asked.session) ≡ true)
        (λ (mine : TallyPending). Spares lists mine.table (next_layout (fold changed_table asked.store.tables versions) tally asked.moment mine.table mine.gone mine.added)) own
        (λ mine mine_marked mine_own.
        let here = owned carried asked.program asked.store due.sound mine mine_marked in
        let now = idle_marks carried asked due stocks idle mine (own_marked carried asked due stocks mine (own_session mine mine_own) mine_marked) in
        other_spared carried asked.program asked.store due.sound lists asked.session mine.table state mine.gone mine.added due.at apart here.live.from_one now.1 marked there)
        (every-filter (IsMarked asked.store.sessions) (λ (lists : TallyPending). lists.session == asked.session) tally.pending stocks.marked)
        (every_kept (λ (lists : TallyPending). lists.session == asked.session) tally.pending)

    left_there : Every (AreThere (fold changed_tally tally (begun_all (fold changed_table asked.store.tables versions) tally asked.moment own))) (others_of (fold changed_table asked.store.tables versions) tally asked.moment asked.session tally.pending)
    left_there =
        every_two (λ (lists : TallyPending). IsMarked asked.store.sessions lists × AreThere tally lists) (λ (lists : TallyPending). not (lists.session == asked.session) ≡ true)
        (AreThere (fold changed_tally tally (begun_all (fold changed_table asked.store.tables versions) tally asked.moment own))) (filter (λ (lists : TallyPending). not (lists.session == asked.session)) tally.pending)
        (λ lists both other.
        commits_there (fold changed_table asked.store.tables versions) tally asked.moment own tally lists (spared_by lists (λ e. false≢true (sym (ap not (eq-eqb lists.session asked.session e)) ∙ other)) both.0 both.1) both.1)
        (every-filter (λ (lists : TallyPending). IsMarked asked.store.sessions lists × AreThere tally lists) (λ (lists : TallyPending). not (lists.session == asked.session)) tally.pending
        (every_two (IsMarked asked.store.sessions) (AreThere tally) (λ (lists : TallyPending). IsMarked asked.store.sessions lists × AreThere tally lists) tally.pending (λ lists m t. (m, t)) stocks.marked stocks.there))
        (every_kept (λ (lists : TallyPending). not (lists.session == asked.session)) tally.pending)

    committed_supplies : (left : PlainSession) (points : List (ℕ × ℕ)) (reply : Option Reply) → left.running ≡ None → SuppliedHere (record (committed asked) { session = Some (asked.session, session_committed left); points = points; reply = reply })
    unfolding committed
    committed_supplies left points reply rests =
        let new : PlainSession = session_committed left in
        let tables : List PlainTable = fold changed_table asked.store.tables versions in
        record {
          fair = version_fair asked.moment asked.store.tables versions (committed_versions asked.store asked.moment state.pending);
          given = commits_given tables tally asked.moment own asked.session tally refl own_given;
          there = committed_there tables tally asked.moment own asked.session tally left_there;
          marked = subst (Every (IsMarked (slice_set asked.store.sessions asked.session new))) (sym (committed_pending tables tally asked.moment own asked.session tally))
              (others_marked asked.store.sessions asked.session state new due.at tally.pending stocks.marked);
          held = λ session other e. subst (λ (c : ℕ × PlainSession). IsHeld carried asked.program c.0 c.1) (same_Some (asked.session, new) (session, other) e) (held_idle carried asked.program asked.session new rests);
        }

    request_committed : (request : Request) → Gives SuppliedHere (committed_by asked request)
    unfolding committed
    request_committed Commits = committed_supplies (session_done asked) (points_settled asked ++ own_point_now asked) (Some reply.Ok) refl
    request_committed (Defines d) = committed_supplies state (points_settled asked ++ (own_point asked, no_point_yet) ∷ []) None idle
    request_committed _ = tt

    told_committed : (t : Told) → Gives SuppliedHere (commit_told asked t)
    told_committed told.Done = request_committed (request_asked asked)
    told_committed (told.Refused number) = tt
    told_committed told.Memory = memory_supplies carried asked due stocks idle

  pub commit_supplies : (t : Told) → state.running ≡ None → Gives SuppliedHere (commit_effect asked t)
  unfolding commit_effect
  commit_supplies t idle = due_gives SuppliedHere event.Commit asked _ (λ test. told_committed idle t)
