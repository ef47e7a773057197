-- The end of a query or a change, and a commit: who takes parts off a layout has the table for itself.
use Rattle.std.specs.List.{list_all}
use Rattle.std.specs.Prelude.{Bool, List, None, Option, Some, [], false, flat_map, if◌then◌else◌, length, option_map, option_to_list, refl, true, unwrap_or, ℕ, ◌&&◌, ◌++◌, ◌+◌, ◌==◌, ◌∷◌, ◌≡◌, ◌≢◌, ◌≤◌}
use Rattle.std.proofs.Common.{ap, arith, subst, ◌∙◌}
use Rattle.std.proofs.lemmas.Bool.{and_parts, eqb-true}
use Rattle.tt_history.specs.declared.history.Added.{Added}
use Rattle.tt_history.specs.declared.history.Told.{Told}
use Rattle.tt_history.specs.declared.reply.Reply.{Reply}
use Rattle.tt_layout.specs.Numbers.{has}
use Rattle.tt_plain.proofs.Tests.{same_number}
use Rattle.tt_plain.proofs.law.Gives.{Gives, gives_bind, gives_when}
use Rattle.tt_plain.proofs.law.Lists.{every-append, every-filter, every_kept}
use Rattle.tt_plain.proofs.law.Turns.{due_gives}
use Rattle.tt_plain.proofs.law.session.Alone.{IsDue, IsSaid, state_sound}
use Rattle.tt_plain.specs.asked.Asked.{Asked, own_point, request_asked, state_asked}
use Rattle.tt_plain.specs.asked.Carried.{Carried}
use Rattle.tt_plain.specs.asked.Request.{Commits, Defines, Reads, Request, Writes, request_of}
use Rattle.tt_plain.specs.asked.Turns.{statement_read}
use Rattle.tt_plain.specs.declared.store.PlainOpen.{PlainOpen}
use Rattle.tt_plain.specs.declared.store.PlainPending.{PlainPending}
use Rattle.tt_plain.specs.declared.store.PlainSession.{PlainSession}
use Rattle.tt_plain.specs.declared.tally.Tally.{Tally}
use Rattle.tt_plain.specs.declared.tally.TallyPending.{TallyPending}
use Rattle.tt_plain.specs.effect.Commit.{commit_effect, commit_told, committed, committed_by, points_settled, session_committed, version_committed}
use Rattle.tt_plain.specs.effect.Effect.{Effect}
use Rattle.tt_plain.specs.effect.End.{EntryFacts, answered, are_facts_of, changed_by, committed_alone, count_reply, end_effect, ended_as, kept, may_remove, pending_after, point_of_end, with_pending}
use Rattle.tt_plain.specs.effect.Ending.{own_point_now, session_done}
use Rattle.tt_plain.specs.law.Lists.{Every}
use Rattle.tt_plain.specs.law.Sound.{AreRowsOf}
use Rattle.tt_plain.specs.meaning.Outcome.{Answers, Does, Outcome, outcome_in, outcome_of}
use Rattle.tt_plain.specs.opening.Marks.{marks_exclusively}
use Rattle.tt_plain.specs.stored.Points.{no_point_yet}
use Rattle.tt_plain.specs.stored.Sessions.{has_exclusive_mark}
use Rattle.tt_plain.specs.tally.Changes.{AddsParts, EndsPending, Keeps, Unpins}
use Rattle.tt_plain.specs.tally.Layouts.{is_ascending, is_pending_of, lists_of, parts_seen}
use Rattle.tt_plain.specs.tally.Parts.{are_next_parts, numbers_added, rows_in_added, rows_in_parts}
use Rattle.tt_plain.specs.tally.Pending.{layout_begun, layouts_committed, lists_after, lists_of_session, no_lists}
use Rattle.tt_plain_laws.proofs.guard.Ends.{found_passes}
use Rattle.tt_plain_laws.proofs.guard.Kept.{every_two}
use Rattle.tt_plain_laws.proofs.guard.Removed.{IsOfTarget, does_of_target}
use Rattle.tt_plain_laws.proofs.parts.Places.{key_of}
use Rattle.tt_sql.specs.declared.change.Dml.{Dml}
use Rattle.tt_stock_laws.proofs.Layouts.{owned}
use Rattle.tt_stock_laws.proofs.Supplied.{IsMarked, Stocks}
use Rattle.tt_target_laws.proofs.Sessions.{LeavesHere, SparesAll, apart_from, by_idle, memory_leaves, unpins_spare}
use Rattle.tt_target_laws.proofs.Spared.{Spares, begun_spares}
use Rattle.tt_value.specs.declared.value.Row.{Row}
use Rattle.tt_plain.specs.asked.Event as event
use Rattle.tt_history.specs.declared.reply.Reply.TheVariants as reply
use Rattle.tt_history.specs.declared.history.Told.TheVariants as told

every_flat : {A B : Type 0} (P : A → Type 0) (Q : B → Type 0) (f : A → List B) (xs : List A) → ((x : A) → P x → Every Q (f x)) → Every P xs → Every Q (flat_map f xs)
every_flat P Q f [] on all = tt
every_flat P Q f (x ∷ xs) on all = every-append Q (f x) (flat_map f xs) (on x all.0) (every_flat P Q f xs on all.1)

module _ (carried : Carried) (asked : Asked) (due : IsDue carried asked) (stocks : Stocks carried asked.program asked.store) where
  abbrev KeepsHere : Effect → Type 0
  KeepsHere effect = LeavesHere carried asked due effect

  abbrev tally : Tally
  tally = asked.store.tally

  abbrev state : PlainSession
  state = state_asked asked

  -- ---- changes

  module _ (seen : PlainOpen) (running : state.running ≡ Some seen) (counted : seen.index ≡ asked.index) (said : IsSaid carried asked) (d : Dml) (asks : request_asked asked ≡ Writes d) (table : ℕ) (removed added : List Row) (of_target : IsOfTarget seen d table removed)
      (facts : EntryFacts) (true_facts : are_facts_of asked table d removed added facts ≡ true) where
    removes : may_remove asked table d facts.0 ≡ true
    unfolding are_facts_of
    removes =
        (and_parts (may_remove asked table d facts.0) (are_next_parts tally facts.1)
        (and_parts (may_remove asked table d facts.0 && are_next_parts tally facts.1) (rows_in_added facts.1 + length removed == rows_in_parts tally facts.0 + length added) true_facts).0).0

    from_one : 1 ≤ table
    from_one =
        (subst (λ (t : Option (ℕ × List Row)). Every (AreRowsOf (length asked.store.tables)) (option_to_list t)) of_target.target ((state_sound carried asked due).running seen running).target).0.0

    by_kind : (b : Bool) → marks_exclusively d ≡ b → (gone : List ℕ) → (if b then is_ascending gone && list_all (has (parts_seen tally asked.session table)) gone else length gone == 0) ≡ true
        → gone ≢ [] → has_exclusive_mark table state ≡ true
    by_kind true e gone ok some =
        stocks.held asked.session state due.at seen d (table, of_target.rows) running
        (ap (λ (n : ℕ). option_map request_of (statement_read carried asked.program asked.session n)) counted ∙ ap (option_map request_of) said.said ∙ ap Some asks) of_target.target e
    by_kind false e [] ok some = absurd (some refl)
    by_kind false e (g ∷ gone) ok some = absurd (omega (arith, eqb-true (length (g ∷ gone)) 0 ok))

    alone : facts.0 ≢ [] → has_exclusive_mark table state ≡ true
    alone = by_kind (marks_exclusively d) refl facts.0 removes

    lists_session : (found : Option TallyPending) → lists_of tally asked.session table ≡ found → (unwrap_or found (no_lists asked.session table)).session ≡ asked.session
    lists_session None e = refl
    lists_session (Some lists) e = (key_of asked.session table lists (found_passes (is_pending_of asked.session table) tally.pending lists e)).0

    kept_leaves : (pending : PlainPending) (reply : Reply) → KeepsHere (kept asked pending table facts reply)
    unfolding kept
    kept_leaves pending reply =
        by_idle carried asked due (record (session_done asked) { pending = with_pending pending state.pending }) [] []
        (AddsParts table facts.1 ∷ Keeps (lists_after tally asked.session table facts.0 (numbers_added facts.1)) ∷ Unpins asked.session ∷ []) asked.moment (Some reply) refl
        (λ other held_by at apart t first within held.
        let others = apart_from carried asked due other apart in
        (tt, ((λ e. others (e ∙ lists_session (lists_of tally asked.session table) refl)), (others, tt))))

    alone_leaves : (pending : PlainPending) (reply : Reply) → KeepsHere (committed_alone asked pending table facts reply)
    unfolding committed_alone
    alone_leaves pending reply =
        by_idle carried asked due (record (session_done asked) { marks = [] }) (version_committed asked.store asked.moment pending) (own_point_now asked)
        (AddsParts table facts.1 ∷ layout_begun tally asked.moment table facts.0 (numbers_added facts.1) ++ Unpins asked.session ∷ []) asked.moment (Some reply) refl
        (λ other held_by at apart t first within held.
        let others = apart_from carried asked due other apart in (
          tt,
          every-append (Spares tally other t) (layout_begun tally asked.moment table facts.0 (numbers_added facts.1)) (Unpins asked.session ∷ [])
              (begun_spares tally other t asked.moment table facts.0 (numbers_added facts.1) (λ same some.
              let one : t ≡ table = omega (arith, same, first, from_one) in
              others (due.sound.holders table other asked.session held_by state at due.at (subst (λ (n : ℕ). has_exclusive_mark n held_by ≡ true) one held) (alone some)))) (others, tt),
        ))

    change_leaves : (count : ℕ) → KeepsHere (changed_by asked d table removed added count facts)
    change_leaves count = by state.transaction
      where
        by : (b : Bool) → KeepsHere (if b then kept asked (pending_after state table removed added) table facts (count_reply d count) else committed_alone asked (pending_after state table removed added) table facts (count_reply d count))
        by true = kept_leaves (pending_after state table removed added) (count_reply d count)
        by false = alone_leaves (pending_after state table removed added) (count_reply d count)

  -- ---- the end

  answered_leaves : (rows : List Row) → KeepsHere (answered asked rows)
  answered_leaves rows = by_idle carried asked due (session_done asked) [] (point_of_end asked) (Unpins asked.session ∷ []) asked.moment (Some (reply.Rows rows)) refl (unpins_spare carried asked due)

  ended_leaves : (seen : PlainOpen) (facts : EntryFacts) → state.running ≡ Some seen → seen.index ≡ asked.index → IsSaid carried asked → (request : Request) → request_asked asked ≡ request → (outcome : Outcome)
      → outcome_in asked seen request ≡ Some outcome → Gives KeepsHere (ended_as asked request outcome facts)
  ended_leaves seen facts running counted said (Reads q) asks (Answers rows) e = gives_when KeepsHere (length facts.0 == 0 && length facts.1 == 0) (answered asked rows) (λ test. answered_leaves rows)
  ended_leaves seen facts running counted said (Writes d) asks (Does table removed added count) e =
      gives_when KeepsHere (are_facts_of asked table d removed added facts) (changed_by asked d table removed added count facts) (λ test.
      change_leaves seen running counted said d asks table removed added (does_of_target asked seen d table removed added count e) facts test count)
  ended_leaves seen facts running counted said _ asks _ e = tt

  pub end_leaves : (seen : PlainOpen) (gone : List ℕ) (added : List Added) → state.running ≡ Some seen → seen.index ≡ asked.index → IsSaid carried asked → Gives KeepsHere (end_effect (asked, seen) gone added)
  unfolding end_effect outcome_of
  end_leaves seen gone added running counted said =
      gives_bind KeepsHere (outcome_of asked seen) _ (λ outcome e. ended_leaves seen (gone, added) running counted said (request_asked asked) refl outcome e)

  -- ---- commits

  abbrev own : List TallyPending
  own = lists_of_session tally asked.session

  commit_spares : SparesAll carried asked due (layouts_committed tally asked.moment asked.session ++ EndsPending asked.session ∷ [])
  commit_spares other held_by at apart t first within held =
      let others = apart_from carried asked due other apart in
      every-append (Spares tally other t) (layouts_committed tally asked.moment asked.session) (EndsPending asked.session ∷ [])
      (every_flat (λ (mine : TallyPending). IsMarked asked.store.sessions mine × ((mine.session == asked.session) ≡ true)) (Spares tally other t)
      (λ (mine : TallyPending). layout_begun tally asked.moment mine.table mine.gone mine.added) own
      (λ mine both.
      let here = owned carried asked.program asked.store due.sound mine both.0 in
      begun_spares tally other t asked.moment mine.table mine.gone mine.added (λ same some.
      let one : t ≡ mine.table = omega (arith, same, first, here.live.from_one) in
      others (due.sound.holders mine.table other mine.session held_by here.state at here.at (subst (λ (n : ℕ). has_exclusive_mark n held_by ≡ true) one held) (here.marked.1 some) ∙ same_number mine.session asked.session both.1)))
      (every_two (IsMarked asked.store.sessions) (λ (mine : TallyPending). (mine.session == asked.session) ≡ true) (λ (mine : TallyPending). IsMarked asked.store.sessions mine × ((mine.session == asked.session) ≡ true)) own
      (λ mine marked mine_own. (marked, mine_own)) (every-filter (IsMarked asked.store.sessions) (λ (mine : TallyPending). mine.session == asked.session) tally.pending stocks.marked)
      (every_kept (λ (mine : TallyPending). mine.session == asked.session) tally.pending))) (others, tt)

  committed_leaves : (left : PlainSession) (points : List (ℕ × ℕ)) (reply : Option Reply) → left.running ≡ None → KeepsHere (record (committed asked) { session = Some (asked.session, session_committed left); points = points; reply = reply })
  unfolding committed
  committed_leaves left points reply idle =
      by_idle carried asked due (session_committed left) (flat_map (version_committed asked.store asked.moment) state.pending) points (layouts_committed tally asked.moment asked.session ++ EndsPending asked.session ∷ []) asked.moment reply idle commit_spares

  request_committed : (request : Request) → state.running ≡ None → Gives KeepsHere (committed_by asked request)
  unfolding committed
  request_committed Commits idle = committed_leaves (session_done asked) (points_settled asked ++ own_point_now asked) (Some reply.Ok) refl
  request_committed (Defines d) idle = committed_leaves state (points_settled asked ++ (own_point asked, no_point_yet) ∷ []) None idle
  request_committed _ idle = tt

  told_committed : (t : Told) → state.running ≡ None → Gives KeepsHere (commit_told asked t)
  told_committed told.Done idle = request_committed (request_asked asked) idle
  told_committed (told.Refused number) idle = tt
  told_committed told.Memory idle = memory_leaves carried asked due

  pub commit_leaves : (t : Told) → state.running ≡ None → Gives KeepsHere (commit_effect asked t)
  unfolding commit_effect
  commit_leaves t idle = due_gives KeepsHere event.Commit asked _ (λ test. told_committed t idle)
