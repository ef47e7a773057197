-- Effects that change no table keep rows fitting.
use Rattle.std.specs.Prelude.{List, None, Option, Some, [], is_none, length, refl, true, ℕ, ◌++◌, ◌+◌, ◌==◌, ◌∷◌, ◌≡◌}
use Rattle.std.proofs.Common.{subst, sym, ◌∙◌}
use Rattle.std.proofs.lemmas.Option.{none-some, same_Some}
use Rattle.tt_fitting_laws.proofs.Kept.{Fits, FitsSession, KeepsFit, RowsFit}
use Rattle.tt_history.specs.declared.history.Told.{Told}
use Rattle.tt_history.specs.declared.reply.Refusal.{Refusal}
use Rattle.tt_history.specs.declared.reply.Reply.{Reply}
use Rattle.tt_plain.proofs.Tests.{none_is}
use Rattle.tt_plain.proofs.law.Gives.{Gives, gives_at, gives_bind, gives_if, gives_map, gives_tested}
use Rattle.tt_plain.proofs.law.Turns.{due_gives}
use Rattle.tt_plain.proofs.law.session.Alone.{IsDue}
use Rattle.tt_plain.specs.asked.Asked.{Asked, request_asked, state_asked}
use Rattle.tt_plain.specs.asked.Carried.{Carried}
use Rattle.tt_plain.specs.asked.Request.{Request, Tells, Waits}
use Rattle.tt_plain.specs.declared.store.PlainOpen.{PlainOpen}
use Rattle.tt_plain.specs.declared.store.PlainPending.{PlainPending}
use Rattle.tt_plain.specs.declared.store.PlainSession.{PlainSession}
use Rattle.tt_plain.specs.effect.Abandon.{abandon_effect, failure, given_up}
use Rattle.tt_plain.specs.effect.Begin.{begin_done, begin_effect}
use Rattle.tt_plain.specs.effect.Commit.{points_settled, session_committed}
use Rattle.tt_plain.specs.effect.Effect.{Effect}
use Rattle.tt_plain.specs.effect.Ending.{ended_with, memory_effect, own_point_now, refused_effect, session_done, told_effect}
use Rattle.tt_plain.specs.effect.Report.{report_effect, report_told, reported_by}
use Rattle.tt_plain.specs.effect.Rollback.{rollback_effect, rolled_back}
use Rattle.tt_plain.specs.effect.Wait.{wait_effect, waited_by}
use Rattle.tt_plain.specs.law.Lists.{Every}
use Rattle.tt_plain.specs.meaning.Outcome.{outcome_of}
use Rattle.tt_plain.specs.refusal.ClockEnd.{wait_length}
use Rattle.tt_plain.specs.refusal.First.{refusal_of}
use Rattle.tt_plain.specs.report.Rows.{report_rows}
use Rattle.tt_plain.specs.tally.Changes.{EndsPending, TallyChange, Unpins}
use Rattle.tt_plain.specs.text.RefusalTable.{refusal_number}
use Rattle.tt_plain.specs.asked.Event as event
use Rattle.tt_history.specs.declared.reply.Reply.TheVariants as reply
use Rattle.tt_history.specs.declared.history.Told.TheVariants as told

module _ (carried : Carried) (asked : Asked) (due : IsDue carried asked) (fits : Fits carried asked.program asked.store) where
  abbrev pub Keeps : Effect → Type 0
  Keeps effect = KeepsFit carried asked.program asked.store effect

  abbrev pub FitsHere : PlainSession → Type 0
  FitsHere state = FitsSession carried asked.program asked.store.tables asked.session state

  abbrev pub PendingFits : PlainPending → Type 0
  PendingFits pending = RowsFit asked.store.tables pending.table pending.added

  -- the session as it is
  pub own_fits : FitsHere (state_asked asked)
  own_fits = fits.sessions asked.session (state_asked asked) due.at

  -- a session with no open statement
  pub rested : (new : PlainSession) → new.running ≡ None → Every PendingFits new.pending → FitsHere new
  rested new idle all = record { pending = all; ready = λ seen d target running said aimed. absurd (none-some seen (sym idle ∙ running)) }

  pub new_fits : (new : PlainSession) → FitsHere new → (session : ℕ) (other : PlainSession) → ◌≡◌ {A = Option (ℕ × PlainSession)} (Some (asked.session, new)) (Some (session, other)) → FitsSession carried asked.program asked.store.tables session other
  new_fits new good session other e =
      subst (λ (c : ℕ × PlainSession). FitsSession carried asked.program asked.store.tables c.0 c.1) (same_Some (asked.session, new) (session, other) e) good

  -- an effect that changes no table
  pub alone_keeps : (new : PlainSession) (points : List (ℕ × ℕ)) (tally : List TallyChange) (moment : ℕ) (reply : Option Reply) → FitsHere new
      → Keeps (record { session = Some (asked.session, new); tables = []; points = points; tally = tally; moment = moment; reply = reply })
  alone_keeps new points tally moment reply good = record { tables = tt; own = λ session other e. new_fits new good session other e }

  -- ---- statements that end

  pub done_fits : FitsHere (session_done asked)
  done_fits = rested (session_done asked) refl own_fits.pending

  pub done_keeps : (points : List (ℕ × ℕ)) (tally : List TallyChange) (moment : ℕ) (reply : Option Reply)
      → Keeps (record { session = Some (asked.session, session_done asked); tables = []; points = points; tally = tally; moment = moment; reply = reply })
  done_keeps points tally moment reply = alone_keeps (session_done asked) points tally moment reply done_fits

  pub ended_keeps : (moment : ℕ) (reply : Reply) → Keeps (ended_with (record asked { moment = moment }) reply)
  unfolding ended_with
  ended_keeps moment reply = done_keeps (own_point_now (record asked { moment = moment })) [] moment (Some reply)

  pub refused_keeps : (given : Option Refusal) (number : ℕ) → Gives Keeps (refused_effect asked given number)
  unfolding refused_effect
  refused_keeps given number =
      gives_bind Keeps given _ (λ refusal e. gives_tested Keeps (refusal_number refusal == number) refusal _ (λ test. ended_keeps asked.moment (reply.Refused refusal)))

  pub memory_keeps : Gives Keeps (memory_effect asked)
  memory_keeps = ended_keeps asked.moment reply.Memory

  pub told_keeps : (accepted starved : Option Effect) (t : Told) → (refusal_of asked ≡ None → Gives Keeps accepted) → Gives Keeps starved → Gives Keeps (told_effect asked t accepted starved)
  unfolding told_effect
  told_keeps accepted starved told.Done done memory = gives_if Keeps (is_none (refusal_of asked)) accepted (λ test. done (none_is (refusal_of asked) test))
  told_keeps accepted starved (told.Refused number) done memory = refused_keeps (refusal_of asked) number
  told_keeps accepted starved told.Memory done memory = memory

  -- ---- BEGIN, waits and reports

  pub begin_keeps : (t : Told) → Gives Keeps (begin_effect asked t)
  unfolding begin_effect ended_with
  begin_keeps t =
      due_gives Keeps event.Begin asked _ (λ test.
      told_keeps (Some (begin_done asked)) None t
      (λ free. alone_keeps (record (session_done asked) { transaction = true }) (own_point_now asked) [] asked.moment (Some reply.Ok)
      (rested (record (session_done asked) { transaction = true }) refl own_fits.pending)) tt)

  waited_keeps : (request : Request) → Gives Keeps (waited_by asked request)
  waited_keeps (Waits w) = ended_keeps (asked.moment + wait_length w) reply.Ok
  waited_keeps _ = tt

  pub wait_keeps : (t : Told) → Gives Keeps (wait_effect asked t)
  unfolding wait_effect
  wait_keeps t = due_gives Keeps event.Wait asked _ (λ test. told_keeps (waited_by asked (request_asked asked)) None t (λ free. waited_keeps (request_asked asked)) tt)

  reported_keeps : (numbers : List ℕ) (request : Request) → Gives Keeps (reported_by asked numbers request)
  reported_keeps numbers (Tells t) = gives_map Keeps (λ rows. ended_with asked (reply.Rows rows)) (report_rows asked numbers t) (λ rows e. ended_keeps asked.moment (reply.Rows rows))
  reported_keeps numbers _ = tt

  report_told_keeps : (t : Told) (numbers : List ℕ) → Gives Keeps (report_told asked t numbers)
  report_told_keeps told.Done numbers = told_keeps (reported_by asked numbers (request_asked asked)) None told.Done (λ free. reported_keeps numbers (request_asked asked)) tt
  report_told_keeps (told.Refused number) numbers = gives_if Keeps (length numbers == 0) _ (λ test. told_keeps None None (told.Refused number) (λ free. tt) tt)
  report_told_keeps told.Memory numbers = gives_if Keeps (length numbers == 0) _ (λ test. memory_keeps)

  pub report_keeps : (t : Told) (numbers : List ℕ) → Gives Keeps (report_effect asked t numbers)
  unfolding report_effect
  report_keeps t numbers = due_gives Keeps event.Report asked _ (λ test. report_told_keeps t numbers)

  -- ---- rollbacks

  pub rolled_back_keeps : (state : PlainSession) (points : List (ℕ × ℕ)) (reply : Option Reply) → state.running ≡ None → Keeps (rolled_back asked state points reply)
  unfolding rolled_back
  rolled_back_keeps state points reply idle =
      alone_keeps (session_committed state) (points_settled asked ++ points) (EndsPending asked.session ∷ []) asked.moment reply (rested (session_committed state) idle tt)

  pub rollback_keeps : Gives Keeps (rollback_effect asked)
  unfolding rollback_effect
  rollback_keeps = due_gives Keeps event.Rollback asked _ (λ test. rolled_back_keeps (session_done asked) (own_point_now asked) (Some reply.Ok) refl)

  -- ---- statements that are given up

  given_up_keeps : (seen : PlainOpen) (reply : Reply) → Keeps (given_up (asked, seen) (ended_with asked reply))
  unfolding ended_with
  given_up_keeps seen reply =
      alone_keeps (record (session_done asked) { marks = seen.marks_before }) (own_point_now asked) (Unpins asked.session ∷ []) asked.moment (Some reply)
      (rested (record (session_done asked) { marks = seen.marks_before }) refl own_fits.pending)

  refused_is : (given : Option Refusal) (number : ℕ) → Gives (λ (effect : Effect). (reply : Reply) × (effect ≡ ended_with asked reply)) (refused_effect asked given number)
  unfolding refused_effect
  refused_is given number =
      gives_bind _ given _ (λ refusal e. gives_tested (λ (effect : Effect). (reply : Reply) × (effect ≡ ended_with asked reply)) (refusal_number refusal == number) refusal _ (λ test. (reply.Refused refusal, refl)))

  pub abandon_keeps : (seen : PlainOpen) (t : Told) → Gives Keeps (abandon_effect (asked, seen) t)
  unfolding abandon_effect
  abandon_keeps seen told.Done = tt
  abandon_keeps seen (told.Refused number) =
      gives_bind Keeps (outcome_of asked seen) _ (λ outcome e.
      gives_bind Keeps (refused_effect asked (failure outcome) number) _ (λ effect f.
      let is = gives_at (λ (effect : Effect). (reply : Reply) × (effect ≡ ended_with asked reply)) (refused_effect asked (failure outcome) number) effect (refused_is (failure outcome) number) f in
      subst (λ (x : Effect). Keeps (given_up (asked, seen) x)) (sym is.1) (given_up_keeps seen is.0)))
  abandon_keeps seen told.Memory = given_up_keeps seen reply.Memory
