-- Effects that change no table, and the start of a query or a change.
use Rattle.std.specs.Prelude.{List, None, Option, Some, [], fold, is_none, length, not, option_map, refl, slice_set, true, ℕ, ◌++◌, ◌+◌, ◌==◌, ◌∷◌, ◌≡◌}
use Rattle.std.specs.List.{list_any}
use Rattle.std.proofs.Common.{ap, subst, sym, ◌∙◌}
use Rattle.std.proofs.lemmas.Option.{none-some, same_Some}
use Rattle.tt_history.specs.declared.history.Told.TheVariants as told
use Rattle.tt_history.specs.declared.history.Told.{Told}
use Rattle.tt_history.specs.declared.reply.Refusal.{Refusal}
use Rattle.tt_history.specs.declared.reply.Reply.TheVariants as reply
use Rattle.tt_history.specs.declared.reply.Reply.{Reply}
use Rattle.tt_plain.proofs.Tests.{none_is, same_test}
use Rattle.tt_plain.proofs.law.Gives.{Gives, gives_at, gives_bind, gives_if, gives_map, gives_tested}
use Rattle.tt_plain.proofs.law.Lists.{every-filter}
use Rattle.tt_plain.proofs.law.Turns.{due_gives}
use Rattle.tt_plain.proofs.law.session.Alone.{IsDue, IsSaid, state_sound}
use Rattle.tt_plain.specs.Answers.{◌>>=◌}
use Rattle.tt_plain.specs.asked.Asked.{Asked, own_point, request_asked, state_asked, table_asked}
use Rattle.tt_plain.specs.asked.Carried.{Carried}
use Rattle.tt_plain.specs.asked.Event as event
use Rattle.tt_plain.specs.asked.Request.{Reads, Request, Tells, Waits, Writes, request_of}
use Rattle.tt_plain.specs.asked.Turns.{statement_read}
use Rattle.tt_plain.specs.declared.store.PlainMark.{PlainMark}
use Rattle.tt_plain.specs.declared.store.PlainOpen.{PlainOpen}
use Rattle.tt_plain.specs.declared.store.PlainSession.{PlainSession}
use Rattle.tt_plain.specs.declared.store.PlainTable.{PlainTable}
use Rattle.tt_plain.specs.declared.tally.Tally.{Tally}
use Rattle.tt_plain.specs.declared.tally.TallyPending.{TallyPending}
use Rattle.tt_plain.specs.declared.tally.TallyPin.{TallyPin}
use Rattle.tt_plain.specs.effect.Abandon.{abandon_effect, failure, given_up}
use Rattle.tt_plain.specs.effect.Begin.{begin_done, begin_effect}
use Rattle.tt_plain.specs.effect.Commit.{points_settled, session_committed}
use Rattle.tt_plain.specs.effect.Effect.{Effect}
use Rattle.tt_plain.specs.effect.Ending.{ended_with, memory_effect, own_point_now, refused_effect, session_done, told_effect}
use Rattle.tt_plain.specs.effect.Report.{report_effect, report_told, reported_by}
use Rattle.tt_plain.specs.effect.Rollback.{rollback_effect, rolled_back}
use Rattle.tt_plain.specs.effect.Start.{begun, begun_by, start_effect}
use Rattle.tt_plain.specs.effect.Wait.{wait_effect, waited_by}
use Rattle.tt_plain.specs.law.Lists.{Every}
use Rattle.tt_plain.specs.meaning.Outcome.{outcome_of}
use Rattle.tt_plain.specs.opening.Marks.{is_exclusive_on, marks_exclusively, with_mark}
use Rattle.tt_plain.specs.opening.Opened.{change_opened, opened, query_opened, sources_seen, target_of, target_rows}
use Rattle.tt_plain.specs.opening.Point.{change_sources, query_sources, sources_in}
use Rattle.tt_plain.specs.refusal.ClockEnd.{wait_length}
use Rattle.tt_plain.specs.refusal.First.{refusal_of}
use Rattle.tt_plain.specs.report.Rows.{report_rows}
use Rattle.tt_plain.specs.stored.Points.{no_point_yet}
use Rattle.tt_plain.specs.tally.Changes.{EndsPending, Pins, TallyChange, Unpins, changed_tally}
use Rattle.tt_plain.specs.tally.Pins.{change_pins, source_pins}
use Rattle.tt_plain.specs.text.RefusalTable.{refusal_number}
use Rattle.tt_plain_laws.proofs.guard.Starts.{new_there}
use Rattle.tt_plain_laws.specs.Guarded.{lasting_marks, marks_lasting}
use Rattle.tt_sql.specs.declared.change.Dml.{Dml}
use Rattle.tt_sql.specs.declared.query.Query.{Query}
use Rattle.tt_stock_laws.proofs.Sources.{IsOpenTo, IsPinStored, change_pinned, open_sources, sources_pinned}
use Rattle.tt_stock_laws.proofs.Stock.{AreGiven}
use Rattle.tt_stock_laws.proofs.Supplied.{AreThere, IsHeld, IsMarked, IsMarkedBy, Stocks, Supplies, all_marked, held_idle, kept_marked, others_marked}
use Rattle.tt_value.specs.declared.value.Row.{Row}

module _ (carried : Carried) (asked : Asked) (due : IsDue carried asked) (stocks : Stocks carried asked.program asked.store) where
  abbrev pub Supplied : Effect → Type 0
  Supplied effect = Supplies carried asked.program asked.store effect

  abbrev tally : Tally
  tally = asked.store.tally

  abbrev state : PlainSession
  state = state_asked asked

  pub alone_supplies : (new : PlainSession) (points : List (ℕ × ℕ)) (changes : List TallyChange) (moment : ℕ) (reply : Option Reply) → AreGiven asked.store.tables tally changes
      → Every (AreThere (fold changed_tally tally changes)) (fold changed_tally tally changes).pending
      → Every (IsMarked (slice_set asked.store.sessions asked.session new)) (fold changed_tally tally changes).pending → IsHeld carried asked.program asked.session new
      → Supplied (record { session = Some (asked.session, new); tables = []; points = points; tally = changes; moment = moment; reply = reply })
  alone_supplies new points changes moment reply given there marked held = record {
    fair = tt;
    given = given;
    there = there;
    marked = marked;
    held = λ session other e. subst (λ (c : ℕ × PlainSession). IsHeld carried asked.program c.0 c.1) (same_Some (asked.session, new) (session, other) e) held;
  }

  -- ---- marks that last

  pub idle_marks : state.running ≡ None → (lists : TallyPending) → IsMarkedBy (lasting_marks state) lists → IsMarkedBy state.marks lists
  idle_marks idle lists marked = subst (λ (marks : List PlainMark). IsMarkedBy marks lists) (ap (marks_lasting state.marks) idle) marked

  pub before_marks : (seen : PlainOpen) → state.running ≡ Some seen → (lists : TallyPending) → IsMarkedBy (lasting_marks state) lists → IsMarkedBy seen.marks_before lists
  before_marks seen running lists marked = subst (λ (marks : List PlainMark). IsMarkedBy marks lists) (ap (marks_lasting state.marks) running) marked

  pub open_marks : (seen : PlainOpen) → state.running ≡ Some seen → (lists : TallyPending) → IsMarkedBy (lasting_marks state) lists → IsMarkedBy state.marks lists
  open_marks seen running lists marked =
      kept_marked seen.marks_before state.marks lists ((state_sound carried asked due).running seen running).kept (before_marks seen running lists marked)

  pub still_marked : (new : PlainSession) → ((lists : TallyPending) → lists.session ≡ asked.session → IsMarkedBy (lasting_marks state) lists → IsMarkedBy (lasting_marks new) lists) → Every (IsMarked (slice_set asked.store.sessions asked.session new)) tally.pending
  still_marked new wider = all_marked asked.store.sessions asked.session state new due.at tally.pending wider stocks.marked

  -- ---- statements that end

  pub done_supplies : state.running ≡ None → (points : List (ℕ × ℕ)) (moment : ℕ) (reply : Option Reply)
      → Supplied (record { session = Some (asked.session, session_done asked); tables = []; points = points; tally = []; moment = moment; reply = reply })
  done_supplies idle points moment reply =
      alone_supplies (session_done asked) points [] moment reply tt stocks.there (still_marked (session_done asked) (λ lists e marked. idle_marks idle lists marked))
      (held_idle carried asked.program asked.session (session_done asked) refl)

  pub ended_supplies : state.running ≡ None → (moment : ℕ) (reply : Reply) → Supplied (ended_with (record asked { moment = moment }) reply)
  unfolding ended_with
  ended_supplies idle moment reply = done_supplies idle (own_point_now (record asked { moment = moment })) moment (Some reply)

  refused_supplies : state.running ≡ None → (given : Option Refusal) (number : ℕ) → Gives Supplied (refused_effect asked given number)
  unfolding refused_effect
  refused_supplies idle given number =
      gives_bind Supplied given _ (λ refusal e. gives_tested Supplied (refusal_number refusal == number) refusal _ (λ test. ended_supplies idle asked.moment (reply.Refused refusal)))

  pub memory_supplies : state.running ≡ None → Gives Supplied (memory_effect asked)
  memory_supplies idle = ended_supplies idle asked.moment reply.Memory

  pub told_supplies : state.running ≡ None → (accepted starved : Option Effect) (t : Told) → (refusal_of asked ≡ None → Gives Supplied accepted) → Gives Supplied starved → Gives Supplied (told_effect asked t accepted starved)
  unfolding told_effect
  told_supplies idle accepted starved told.Done done memory = gives_if Supplied (is_none (refusal_of asked)) accepted (λ test. done (none_is (refusal_of asked) test))
  told_supplies idle accepted starved (told.Refused number) done memory = refused_supplies idle (refusal_of asked) number
  told_supplies idle accepted starved told.Memory done memory = memory

  -- ---- BEGIN, waits and reports

  pub begin_supplies : (t : Told) → state.running ≡ None → Gives Supplied (begin_effect asked t)
  unfolding begin_effect ended_with
  begin_supplies t idle =
      let new : PlainSession = record (session_done asked) { transaction = true } in
      due_gives Supplied event.Begin asked _ (λ test.
      told_supplies idle (Some (begin_done asked)) None t
      (λ free. alone_supplies new (own_point_now asked) [] asked.moment (Some reply.Ok) tt stocks.there (still_marked new (λ lists e marked. idle_marks idle lists marked)) (held_idle carried asked.program asked.session new refl)) tt)

  waited_supplies : state.running ≡ None → (request : Request) → Gives Supplied (waited_by asked request)
  waited_supplies idle (Waits w) = ended_supplies idle (asked.moment + wait_length w) reply.Ok
  waited_supplies idle _ = tt

  pub wait_supplies : (t : Told) → state.running ≡ None → Gives Supplied (wait_effect asked t)
  unfolding wait_effect
  wait_supplies t idle = due_gives Supplied event.Wait asked _ (λ test. told_supplies idle (waited_by asked (request_asked asked)) None t (λ free. waited_supplies idle (request_asked asked)) tt)

  reported_supplies : state.running ≡ None → (numbers : List ℕ) (request : Request) → Gives Supplied (reported_by asked numbers request)
  reported_supplies idle numbers (Tells t) = gives_map Supplied (λ rows. ended_with asked (reply.Rows rows)) (report_rows asked numbers t) (λ rows e. ended_supplies idle asked.moment (reply.Rows rows))
  reported_supplies idle numbers _ = tt

  report_told_supplies : state.running ≡ None → (t : Told) (numbers : List ℕ) → Gives Supplied (report_told asked t numbers)
  report_told_supplies idle told.Done numbers = told_supplies idle (reported_by asked numbers (request_asked asked)) None told.Done (λ free. reported_supplies idle numbers (request_asked asked)) tt
  report_told_supplies idle (told.Refused number) numbers = gives_if Supplied (length numbers == 0) _ (λ test. told_supplies idle None None (told.Refused number) (λ free. tt) tt)
  report_told_supplies idle told.Memory numbers = gives_if Supplied (length numbers == 0) _ (λ test. memory_supplies idle)

  pub report_supplies : (t : Told) (numbers : List ℕ) → state.running ≡ None → Gives Supplied (report_effect asked t numbers)
  unfolding report_effect
  report_supplies t numbers idle = due_gives Supplied event.Report asked _ (λ test. report_told_supplies idle t numbers)

  -- ---- rollbacks

  pub rolled_back_supplies : (left : PlainSession) (points : List (ℕ × ℕ)) (reply : Option Reply) → left.running ≡ None → Supplied (rolled_back asked left points reply)
  unfolding rolled_back
  rolled_back_supplies left points reply idle =
      alone_supplies (session_committed left) (points_settled asked ++ points) (EndsPending asked.session ∷ []) asked.moment reply (tt, tt)
      (every-filter (AreThere tally) (λ (lists : TallyPending). not (lists.session == asked.session)) tally.pending stocks.there)
      (others_marked asked.store.sessions asked.session state (session_committed left) due.at tally.pending stocks.marked)
      (held_idle carried asked.program asked.session (session_committed left) idle)

  pub rollback_supplies : Gives Supplied (rollback_effect asked)
  unfolding rollback_effect
  rollback_supplies = due_gives Supplied event.Rollback asked _ (λ test. rolled_back_supplies (session_done asked) (own_point_now asked) (Some reply.Ok) refl)

  -- ---- statements that are given up

  given_up_supplies : (seen : PlainOpen) (reply : Reply) → state.running ≡ Some seen → Supplied (given_up (asked, seen) (ended_with asked reply))
  unfolding ended_with
  given_up_supplies seen reply running =
      let new : PlainSession = record (session_done asked) { marks = seen.marks_before } in
      alone_supplies new (own_point_now asked) (Unpins asked.session ∷ []) asked.moment (Some reply) (tt, tt) stocks.there
      (still_marked new (λ lists e marked. before_marks seen running lists marked)) (held_idle carried asked.program asked.session new refl)

  refused_is : (given : Option Refusal) (number : ℕ) → Gives (λ (effect : Effect). (reply : Reply) × (effect ≡ ended_with asked reply)) (refused_effect asked given number)
  unfolding refused_effect
  refused_is given number =
      gives_bind _ given _ (λ refusal e. gives_tested (λ (effect : Effect). (reply : Reply) × (effect ≡ ended_with asked reply)) (refusal_number refusal == number) refusal _ (λ test. (reply.Refused refusal, refl)))

  pub abandon_supplies : (seen : PlainOpen) (t : Told) → state.running ≡ Some seen → Gives Supplied (abandon_effect (asked, seen) t)
  unfolding abandon_effect
  abandon_supplies seen told.Done running = tt
  abandon_supplies seen (told.Refused number) running =
      gives_bind Supplied (outcome_of asked seen) _ (λ outcome e.
      gives_bind Supplied (refused_effect asked (failure outcome) number) _ (λ effect f.
      let is = gives_at (λ (effect : Effect). (reply : Reply) × (effect ≡ ended_with asked reply)) (refused_effect asked (failure outcome) number) effect (refused_is (failure outcome) number) f in
      subst (λ (x : Effect). Supplied (given_up (asked, seen) x)) (sym is.1) (given_up_supplies seen is.0 running)))
  abandon_supplies seen told.Memory running = given_up_supplies seen reply.Memory running

  -- ---- starts

  begun_supplies : (new : PlainSession) (pins : List TallyPin) → lasting_marks new ≡ state.marks → state.running ≡ None → Every (IsPinStored carried asked due stocks) pins → IsHeld carried asked.program asked.session new → Supplied (begun asked new pins)
  begun_supplies new pins same idle stored held =
      alone_supplies new ((own_point asked, no_point_yet) ∷ []) (Pins asked.session pins ∷ []) asked.moment None (stored, tt) stocks.there
      (still_marked new (λ lists e marked. subst (λ (marks : List PlainMark). IsMarkedBy marks lists) (sym same) (idle_marks idle lists marked))) held

  query_begun : (q : Query) → request_asked asked ≡ Reads q → state.running ≡ None → refusal_of asked ≡ None → IsSaid carried asked → Gives Supplied (option_map (λ new. begun asked new (source_pins asked (query_sources q))) (query_opened asked q))
  unfolding query_opened
  query_begun q e idle free said = seen (sources_seen asked (query_sources q))
    where
      stored : Every (IsPinStored carried asked due stocks) (source_pins asked (query_sources q))
      stored = sources_pinned carried asked due stocks (query_sources q) (subst (λ (r : Request). Every (IsOpenTo asked) (sources_in r)) e (open_sources asked free))

      held : (sources : List (ℕ × List Row)) → IsHeld carried asked.program asked.session (record state { running = Some (opened asked sources None) })
      held sources other d target is read there exclusive = absurd (none-some target (ap (λ (s : PlainOpen). s.target) (same_Some (opened asked sources None) other is) ∙ there))

      seen : (sources : Option (List (ℕ × List Row)))
          → Gives Supplied (option_map (λ new. begun asked new (source_pins asked (query_sources q))) (sources >>= λ sources. Some (record (state_asked asked) { running = Some (opened asked sources None) })))
      seen None = tt
      seen (Some sources) = begun_supplies (record state { running = Some (opened asked sources None) }) (source_pins asked (query_sources q)) refl idle stored (held sources)

  abbrev changing : PlainTable → Dml → List (ℕ × List Row) → PlainSession
  changing table d sources = record (state_asked asked) {
    running = Some (opened asked sources (Some (table.number, target_rows (state_asked asked) table d)));
    marks = with_mark table.number (marks_exclusively d) (state_asked asked).marks;
  }

  same_change : (d e : Dml) → ◌≡◌ {A = Option Request} (Some (Writes d)) (Some (Writes e)) → d ≡ e
  same_change d e is = cc

  change_held : (d : Dml) (table : PlainTable) (sources : List (ℕ × List Row)) → request_asked asked ≡ Writes d → IsSaid carried asked → IsHeld carried asked.program asked.session (changing table d sources)
  change_held d table sources e said other d2 target is read there exclusive =
      let open_is : opened asked sources (Some (table.number, target_rows state table d)) ≡ other = same_Some _ other is in
      let same : d ≡ d2 =
      same_change d d2 (ap Some (sym e) ∙ sym (ap (option_map request_of) said.said) ∙ ap (λ (s : PlainOpen). option_map request_of (statement_read carried asked.program asked.session s.index)) open_is ∙ read) in
      let number : table.number ≡ target.0 = ap (λ (t : ℕ × List Row). t.0) (same_Some _ target (ap (λ (s : PlainOpen). s.target) open_is ∙ there)) in
      let alone : marks_exclusively d ≡ true = ap marks_exclusively same ∙ exclusive in
      subst (λ (n : ℕ). list_any (is_exclusive_on n) (with_mark table.number (marks_exclusively d) state.marks) ≡ true) number
      (new_there (is_exclusive_on table.number) table.number (marks_exclusively d) state.marks (rw (same_test table.number, alone) refl))

  change_begun : (d : Dml) → request_asked asked ≡ Writes d → state.running ≡ None → refusal_of asked ≡ None → IsSaid carried asked → Gives Supplied (option_map (λ new. begun asked new (change_pins asked d)) (change_opened asked d))
  unfolding change_opened
  change_begun d e idle free said = found (table_asked asked (target_of d))
    where
      stored : Every (IsPinStored carried asked due stocks) (change_pins asked d)
      stored = change_pinned carried asked due stocks d (subst (λ (r : Request). Every (IsOpenTo asked) (sources_in r)) e (open_sources asked free))

      seen : (table : PlainTable) (sources : Option (List (ℕ × List Row))) → Gives Supplied (option_map (λ new. begun asked new (change_pins asked d)) (sources >>= λ sources. Some (changing table d sources)))
      seen table None = tt
      seen table (Some sources) = begun_supplies (changing table d sources) (change_pins asked d) refl idle stored (change_held d table sources e said)

      found : (table : Option PlainTable) → Gives Supplied (option_map (λ new. begun asked new (change_pins asked d)) (table >>= λ table. sources_seen asked (change_sources d) >>= λ sources. Some (changing table d sources)))
      found None = tt
      found (Some table) = seen table (sources_seen asked (change_sources d))

  request_begun : (request : Request) → request_asked asked ≡ request → state.running ≡ None → refusal_of asked ≡ None → IsSaid carried asked → Gives Supplied (begun_by asked request)
  request_begun (Reads q) e idle free said = query_begun q e idle free said
  request_begun (Writes d) e idle free said = change_begun d e idle free said
  request_begun _ e idle free said = tt

  pub start_supplies : (t : Told) → state.running ≡ None → IsSaid carried asked → Gives Supplied (start_effect asked t)
  unfolding start_effect
  start_supplies t idle said =
      due_gives Supplied event.Start asked _ (λ test.
      told_supplies idle (begun_by asked (request_asked asked)) (memory_effect asked) t (λ free. request_begun (request_asked asked) refl idle free said) (memory_supplies idle))
