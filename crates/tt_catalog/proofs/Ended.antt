-- What is kept where an open statement has ended without a change: it pins nothing, and its marks are again those before it.
use Rattle.std.specs.Prelude.{List, None, Ok, Option, Result, Some, [], false, fold, if◌then◌else◌, map, not, refl, slice_set, unwrap_or, ℕ, ◌+◌, ◌==◌, ◌∷◌, ◌≡◌, ◌≢◌}
use Rattle.std.proofs.Common.{ap, arith, subst, sym, ◌∙◌}
use Rattle.tt_sql.specs.declared.query.Query.{Query}
use Rattle.tt_sql.specs.declared.statement.Statement.{Statement}
use Rattle.tt_value.specs.declared.value.Row.{Row}
use Rattle.tt_marks.specs.Changes.{released}
use Rattle.tt_marks.specs.Marks.{marks_of}
use Rattle.tt_marks.specs.declared.mark.Mark.{Mark}
use Rattle.tt_history.specs.Refusals.{refusal_number}
use Rattle.tt_history.specs.declared.history.Told.{Told}
use Rattle.tt_history.specs.declared.reply.Refusal.{Refusal}
use Rattle.tt_history.specs.declared.reply.Reply.{Reply}
use Rattle.tt_plain.proofs.Tests.{same_test}
use Rattle.tt_script.specs.Lines.{only_if}
use Rattle.tt_plain.specs.Answers.{◌>>=◌}
use Rattle.tt_plain.specs.asked.Asked.{Asked, request_asked}
use Rattle.tt_plain.specs.asked.Turns.{asked_with}
use Rattle.tt_plain.specs.declared.store.Plain.{Plain}
use Rattle.tt_plain.specs.declared.store.PlainOpen.{PlainOpen}
use Rattle.tt_plain.specs.declared.store.PlainSession.{PlainSession}
use Rattle.tt_plain.specs.effect.Abandon.{abandon_effect, failure, given_up}
use Rattle.tt_plain.specs.effect.Apply.{applied, changed_point}
use Rattle.tt_plain.specs.effect.End.{answered}
use Rattle.tt_plain.specs.effect.Ending.{ended_with, refused_effect}
use Rattle.tt_plain.specs.history.Contents.{contents_with}
use Rattle.tt_plain.specs.history.TrueFacts.{RemovesTouched, replaced_by}
use Rattle.tt_plain.specs.law.Sound.{IsSound}
use Rattle.tt_plain.specs.meaning.Outcome.{Answers, Fails, Outcome, answer_seen, outcome_of, query_outcome}
use Rattle.tt_plain.specs.stored.Points.{point_place}
use Rattle.tt_plain.specs.stored.Sessions.{session_at}
use Rattle.tt_plain.specs.tally.Changes.{with_pins}
use Rattle.tt_plain.specs.text.RefusalTable.{refusal_row, refusal_number as plain_number}
use Rattle.tt_built.specs.Built.{built}
use Rattle.tt_state.proofs.Ended.{closed_at, state_is}
use Rattle.tt_state.proofs.Goes.{GoesOn, alone_now, ended_less, idle_now, marks_now, parts_stay, same_marks, sessions_now, tables_stay}
use Rattle.tt_state.proofs.Histories.{contents_same, stands_sound}
use Rattle.tt_state.proofs.Filters.{filter_keeps, filter_none}
use Rattle.tt_state.proofs.Pins.{not_own, other_pins, own_gone, own_pins, pins_left}
use Rattle.tt_state.proofs.Steps.{abandon_starved, abandon_step, end_is, end_step}
use Rattle.tt_state.proofs.TrueFacts.{adds_no_part}
use Rattle.tt_state.proofs.Turns.{IsOpen, is_open, ready}
use Rattle.tt_state.specs.Chronicle.{Chronicle, IsOpenRead, entry_at, rows_of, store_of}
use Rattle.tt_state.specs.Keeps.{StandsFor, mark_of}
use Rattle.tt_state.specs.Kept.{Kept}
use Rattle.tt_state.specs.Moves.{IsReady, with_ended}
use Rattle.tt_state.specs.declared.ticket.Ticket.{Ticket}
use Rattle.tt_history.specs.declared.history.EntryKind.TheVariants as kind
use Rattle.tt_history.specs.declared.history.Told.TheVariants as told
use Rattle.tt_history.specs.declared.reply.Refusal.TheVariants as refusal
use Rattle.tt_history.specs.declared.reply.Reply.TheVariants as reply
use Rattle.tt_sql.specs.declared.statement.Statement.TheVariants as tree
use Rattle.tt_catalog.specs.Ends.{GivesUp, with_released, with_unpinned}

-- ---- what is left of marks

pub own_released : (session : ℕ) (marks : List Mark) → marks_of session (released session marks) ≡ []
own_released session marks = filter_none (λ (mark : Mark). mark.session == session) (λ (mark : Mark). not (mark.session == session)) marks (λ mark e. own_gone mark.session session session refl e)

pub others_stay : (session other : ℕ) (marks : List Mark) → other ≢ session → marks_of other (released session marks) ≡ marks_of other marks
others_stay session other marks ne = filter_keeps (λ (mark : Mark). mark.session == other) (λ (mark : Mark). not (mark.session == session)) marks (λ mark e. not_own mark.session other session ne e)

-- ---- an open statement ended

module _ (chronicle : Chronicle) (kept : Kept) (room session index : ℕ) (read : Result Statement ℕ) (seen : PlainOpen) (stands : StandsFor chronicle kept room) (found : IsOpenRead chronicle session index read seen) where
  abbrev store : Plain
  store = store_of chronicle

  abbrev asked : Asked
  asked = asked_with chronicle.program store session index read

  pub sound : IsSound built chronicle.program store
  sound = stands_sound chronicle kept room stands

  pub opened : IsOpen chronicle.program store session index asked seen
  opened = is_open chronicle.program store session index asked seen sound found

  no_transaction : opened.state.transaction ≡ false
  no_transaction = closed_at store kept session opened.state stands.sessions opened.turn.state_is

  at : session_at store session ≡ opened.state
  at = state_is store session opened.state opened.turn.state_is

  pub closed : (session_at store session).transaction ≡ false
  closed = ap (λ (s : PlainSession). s.transaction) at ∙ no_transaction

  -- outside a transaction there were no marks before
  unmarked : seen.marks_before ≡ []
  unmarked = ((sound.each session opened.state opened.turn.state_is).running seen opened.running).alone no_transaction

  pub points_at : kept.points ≡ store.points → slice_set kept.points (point_place chronicle.program session index) (Some (kept.moment + 1)) ≡ slice_set store.points (point_place chronicle.program session index) (Some (store.moment + 1))
  points_at same =
      ap (λ ps. slice_set ps (point_place chronicle.program session index) (Some (kept.moment + 1))) same
      ∙ ap (λ m. slice_set store.points (point_place chronicle.program session index) (Some (m + 1))) stands.sessions.moment

  abbrev given : PlainSession
  given = record (session_at store session) { done = index; running = None; marks = seen.marks_before }

  abbrev abandoned : Reply → Plain
  abandoned answer = applied store (given_up (asked, seen) (ended_with asked answer))

  abbrev now_abandoned : Kept
  now_abandoned = with_ended chronicle.program (with_unpinned (with_released kept session) session) session index

  pub abandoned_goes : (why : Told) (answer : Reply) → abandon_effect (asked, seen) why ≡ Some (given_up (asked, seen) (ended_with asked answer))
      → (after : Plain) × GoesOn chronicle kept now_abandoned (entry_at store.moment session index (kind.Abandon why)) after (Some answer)
  unfolding applied ended_with
  abandoned_goes why answer is =
      let entry = entry_at store.moment session index (kind.Abandon why) in (
        abandoned answer,
        record {
          step = abandon_step built chronicle.program store session index asked seen why (given_up (asked, seen) (ended_with asked answer)) found is refl;
          less = ended_less chronicle.program store (abandoned answer) session index opened.lines opened.state given opened.turn refl refl refl;
          few = omega arith;
          true_entry = adds_no_part built chronicle.program chronicle.cap (rows_of chronicle) store entry refl tt tt;
          parts = parts_stay kept.parts kept.parts refl;
          tables = tables_stay store.tables store.tally (record store.tally { pins = with_pins session [] store.tally.pins }) (rows_of chronicle) (contents_with built chronicle.program (rows_of chronicle) (store, entry)) kept now_abandoned
              stands.tables refl refl (contents_same built chronicle.program (rows_of chronicle) (store, entry) refl) refl refl refl;
          sessions = record {
            moment = ap (λ m. m + 1) stands.sessions.moment;
            sessions = sessions_now chronicle.program store (abandoned answer) session index opened.lines opened.state given opened.turn refl kept.sessions stands.sessions.sessions;
            marks = marks_now chronicle.program store (abandoned answer) session index opened.lines opened.state given opened.turn refl kept.marks (released session kept.marks) stands.sessions.marks
                (own_released session kept.marks ∙ ap (map (mark_of session)) (sym unmarked)) (λ other ne. others_stay session other kept.marks ne);
            pins = pins_left session store.tally kept.pins stands.sessions.pins;
            idle = idle_now chronicle.program store (abandoned answer) session index opened.lines opened.state given opened.turn refl stands.sessions.idle (λ none. own_pins session store.tally.pins [] tt) (λ other ne. other_pins session store.tally.pins [] other tt ne);
            points = points_at stands.sessions.points;
            alone = alone_now chronicle.program store (abandoned answer) session index opened.lines opened.state given opened.turn refl stands.sessions.alone closed;
            settled = stands.sessions.settled;
          };
        },
      )

-- ---- why it is given up

-- both tables of the refusals have the same numbers
same_numbers : (r : Refusal) → plain_number r ≡ refusal_number r
unfolding refusal_row
same_numbers (refusal.Syntax place) = refl
same_numbers (refusal.UnknownTable place) = refl
same_numbers (refusal.TableExists place) = refl
same_numbers (refusal.UnknownColumn place) = refl
same_numbers (refusal.WrongCount place) = refl
same_numbers (refusal.TypeMismatch place) = refl
same_numbers (refusal.NullInNotNull place) = refl
same_numbers (refusal.RetentionRange place) = refl
same_numbers (refusal.KindMismatch place) = refl
same_numbers (refusal.UnknownFile place) = refl
same_numbers refusal.InFuture = refl
same_numbers refusal.UnknownStatement = refl
same_numbers refusal.StatementOpen = refl
same_numbers (refusal.NotYetMade made) = refl
same_numbers (refusal.OutsideRetention horizon) = refl
same_numbers refusal.NothingToUndrop = refl
same_numbers (refusal.LockHeld session) = refl
same_numbers refusal.ClockEnd = refl
same_numbers refusal.InTransaction = refl
same_numbers (refusal.BadData number column) = refl
same_numbers refusal.OutOfRange = refl
same_numbers (refusal.NullInRow column) = refl

-- by the refusal that the statement means over what it sees
failed_effect : (asked : Asked) (seen : PlainOpen) (why : Refusal) → outcome_of asked seen ≡ Some (Fails why)
    → abandon_effect (asked, seen) (told.Refused (refusal_number why)) ≡ Some (given_up (asked, seen) (ended_with asked (reply.Refused why)))
unfolding abandon_effect refused_effect
failed_effect asked seen why is =
    ap (λ (o : Option Outcome). o >>= λ outcome. refused_effect asked (failure outcome) (refusal_number why) >>= λ effect. Some (given_up (asked, seen) effect)) is
    ∙ ap (λ b. (only_if b why >>= λ same. Some (ended_with asked (reply.Refused same))) >>= λ effect. Some (given_up (asked, seen) effect))
    (ap (λ n. n == refusal_number why) (same_numbers why) ∙ same_test (refusal_number why))

abbrev pub now_given_up : Chronicle → Kept → Ticket → Kept
now_given_up chronicle kept ticket = with_ended chronicle.program (with_unpinned (with_released kept ticket.session) ticket.session) ticket.session ticket.index

abbrev pub GoesAbandoned : Chronicle → Kept → Ticket → Told → Reply → Type 0
GoesAbandoned chronicle kept ticket why answer =
    (after : Plain) × GoesOn chronicle kept (now_given_up chronicle kept ticket) (entry_at (store_of chronicle).moment ticket.session ticket.index (kind.Abandon why)) after (Some answer)

pub given_up_goes : (chronicle : Chronicle) (kept : Kept) (room : ℕ) (ticket : Ticket) (why : Told) (answer : Reply) → StandsFor chronicle kept room → GivesUp chronicle ticket why answer → GoesAbandoned chronicle kept ticket why answer
given_up_goes chronicle kept room ticket told.Done answer stands gives = absurd gives
given_up_goes chronicle kept room ticket (told.Refused number) answer stands gives =
    let failed = gives.1 in
    let asked = asked_with chronicle.program (store_of chronicle) ticket.session ticket.index failed.read in
    subst (λ (a : Reply). GoesAbandoned chronicle kept ticket (told.Refused number) a) (sym gives.3)
    (subst (λ (n : ℕ). GoesAbandoned chronicle kept ticket (told.Refused n) (reply.Refused gives.0)) (sym gives.2)
    (abandoned_goes chronicle kept room ticket.session ticket.index failed.read failed.seen stands failed.is_open (told.Refused (refusal_number gives.0)) (reply.Refused gives.0) (failed_effect asked failed.seen gives.0 failed.outcome)))
given_up_goes chronicle kept room ticket told.Memory answer stands gives =
    let open_one = gives.0 in
    subst (λ (a : Reply). GoesAbandoned chronicle kept ticket told.Memory a) (sym gives.1)
    (abandoned_goes chronicle kept room ticket.session ticket.index open_one.0 open_one.1 stands open_one.2 told.Memory reply.Memory (abandon_starved (asked_with chronicle.program (store_of chronicle) ticket.session ticket.index open_one.0) open_one.1))

-- the statement that is given up is the session's open one
pub given_up_opened : (chronicle : Chronicle) (kept : Kept) (room : ℕ) (ticket : Ticket) (why : Told) (answer : Reply) → StandsFor chronicle kept room → GivesUp chronicle ticket why answer → IsReady chronicle.program kept ticket.session ticket.index
given_up_opened chronicle kept room ticket told.Done answer stands gives = absurd gives
given_up_opened chronicle kept room ticket (told.Refused number) answer stands gives =
    let failed = gives.1 in
    ready chronicle kept room ticket.session ticket.index _ _ stands (opened chronicle kept room ticket.session ticket.index failed.read failed.seen stands failed.is_open).turn
given_up_opened chronicle kept room ticket told.Memory answer stands gives =
    let open_one = gives.0 in
    ready chronicle kept room ticket.session ticket.index _ _ stands (opened chronicle kept room ticket.session ticket.index open_one.0 open_one.1 stands open_one.2).turn

-- ---- a query answered

module _ (chronicle : Chronicle) (kept : Kept) (room session index : ℕ) (q : Query) (seen : PlainOpen) (rows : List Row) (stands : StandsFor chronicle kept room) (found : IsOpenRead chronicle session index (Ok (tree.Query q)) seen) where
  abbrev q_store : Plain
  q_store = store_of chronicle

  abbrev q_asked : Asked
  q_asked = asked_with chronicle.program q_store session index (Ok (tree.Query q))

  abbrev q_opened : IsOpen chronicle.program q_store session index q_asked seen
  q_opened = opened chronicle kept room session index (Ok (tree.Query q)) seen stands found

  abbrev q_done : PlainSession
  q_done = record (session_at q_store session) { done = index; running = None }

  abbrev q_after : Plain
  q_after = applied q_store (answered q_asked rows)

  abbrev now_answered : Kept
  now_answered = with_ended chronicle.program (with_unpinned kept session) session index

  answers : answer_seen q_store seen q ≡ Some rows → outcome_of q_asked seen ≡ Some (Answers rows)
  unfolding outcome_of
  answers e = ap (λ o. Some (query_outcome o)) e

  -- the end of a query removes nothing
  removes_none : RemovesTouched built chronicle.program (rows_of chronicle) q_store (entry_at q_store.moment session index (kind.End [] [])) (kind.End [] [])
  removes_none = sym (ap (λ (o : Option (Asked × PlainOpen)). unwrap_or (o >>= λ open_one. replaced_by (rows_of chronicle) open_one.0 open_one.1 (request_asked open_one.0)) []) found)

  own_point_settled : q_after.points ≡ slice_set q_store.points (point_place chronicle.program session index) (Some (q_store.moment + 1))
  unfolding applied
  own_point_settled =
      ap (λ b. fold changed_point q_store.points (if b then [] else (point_place chronicle.program session index, q_store.moment + 1) ∷ []))
      (closed chronicle kept room session index (Ok (tree.Query q)) seen stands found)

  pub answered_goes : answer_seen q_store seen q ≡ Some rows → (after : Plain) × GoesOn chronicle kept now_answered (entry_at q_store.moment session index (kind.End [] [])) after (Some (reply.Rows rows))
  unfolding applied
  answered_goes e =
      let entry = entry_at q_store.moment session index (kind.End [] []) in (
        q_after,
        record {
          step = end_step built chronicle.program q_store session index q_asked seen [] [] (answered q_asked rows) found (end_is q_asked seen (Answers rows) (answered q_asked rows) [] [] (answers e) refl) refl;
          less = ended_less chronicle.program q_store q_after session index q_opened.lines q_opened.state q_done q_opened.turn refl refl refl;
          few = omega arith;
          true_entry = adds_no_part built chronicle.program chronicle.cap (rows_of chronicle) q_store entry refl removes_none tt;
          parts = parts_stay kept.parts kept.parts refl;
          tables = tables_stay q_store.tables q_store.tally (record q_store.tally { pins = with_pins session [] q_store.tally.pins }) (rows_of chronicle) (contents_with built chronicle.program (rows_of chronicle) (q_store, entry)) kept now_answered
              stands.tables refl refl (contents_same built chronicle.program (rows_of chronicle) (q_store, entry) refl) refl refl refl;
          sessions = record {
            moment = ap (λ m. m + 1) stands.sessions.moment;
            sessions = sessions_now chronicle.program q_store q_after session index q_opened.lines q_opened.state q_done q_opened.turn refl kept.sessions stands.sessions.sessions;
            marks = same_marks chronicle.program q_store q_after session index q_opened.lines q_opened.state q_done q_opened.turn refl kept.marks stands.sessions.marks
                (ap (λ (s : PlainSession). s.marks) (at chronicle kept room session index (Ok (tree.Query q)) seen stands found));
            pins = pins_left session q_store.tally kept.pins stands.sessions.pins;
            idle = idle_now chronicle.program q_store q_after session index q_opened.lines q_opened.state q_done q_opened.turn refl stands.sessions.idle (λ none. own_pins session q_store.tally.pins [] tt) (λ other ne. other_pins session q_store.tally.pins [] other tt ne);
            points = points_at chronicle kept room session index (Ok (tree.Query q)) seen stands found stands.sessions.points ∙ sym own_point_settled;
            alone = alone_now chronicle.program q_store q_after session index q_opened.lines q_opened.state q_done q_opened.turn refl stands.sessions.alone (closed chronicle kept room session index (Ok (tree.Query q)) seen stands found);
            settled = stands.sessions.settled;
          };
        },
      )
