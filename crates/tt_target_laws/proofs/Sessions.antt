-- Statements that end without a change of a table, and those that are given up.
use Rattle.std.specs.Prelude.{List, None, Option, Some, [], fold, is_none, length, refl, true, ℕ, ◌++◌, ◌+◌, ◌==◌, ◌∷◌, ◌≡◌}
use Rattle.std.proofs.Common.{ap, subst, sym}
use Rattle.std.proofs.lemmas.Option.{same_Some}
use Rattle.tt_history.specs.declared.history.Told.{Told}
use Rattle.tt_history.specs.declared.reply.Refusal.{Refusal}
use Rattle.tt_history.specs.declared.reply.Reply.{Reply}
use Rattle.tt_plain.proofs.Tests.{none_is}
use Rattle.tt_plain.proofs.law.Gives.{Gives, gives_at, gives_bind, gives_if, gives_map, gives_tested}
use Rattle.tt_plain.proofs.law.Turns.{due_gives}
use Rattle.tt_plain.proofs.law.session.Alone.{IsDue}
use Rattle.tt_plain.specs.asked.Asked.{Asked, request_asked}
use Rattle.tt_plain.specs.asked.Carried.{Carried}
use Rattle.tt_plain.specs.asked.Request.{Request, Tells, Waits}
use Rattle.tt_plain.specs.declared.store.PlainOpen.{PlainOpen}
use Rattle.tt_plain.specs.declared.store.PlainSession.{PlainSession}
use Rattle.tt_plain.specs.effect.Abandon.{abandon_effect, failure, given_up}
use Rattle.tt_plain.specs.effect.Begin.{begin_done, begin_effect}
use Rattle.tt_plain.specs.effect.Commit.{points_settled, session_committed}
use Rattle.tt_plain.specs.effect.Effect.{Effect, TableChange}
use Rattle.tt_plain.specs.effect.Ending.{ended_with, memory_effect, own_point_now, refused_effect, session_done, told_effect}
use Rattle.tt_plain.specs.effect.Report.{report_effect, report_told, reported_by}
use Rattle.tt_plain.specs.effect.Rollback.{rollback_effect, rolled_back}
use Rattle.tt_plain.specs.effect.Wait.{wait_effect, waited_by}
use Rattle.tt_plain.specs.meaning.Outcome.{outcome_of}
use Rattle.tt_plain.specs.refusal.ClockEnd.{wait_length}
use Rattle.tt_plain.specs.refusal.First.{refusal_of}
use Rattle.tt_plain.specs.report.Rows.{report_rows}
use Rattle.tt_plain.specs.tally.Changes.{EndsPending, TallyChange, Unpins, changed_tally}
use Rattle.tt_plain.specs.text.RefusalTable.{refusal_number}
use Rattle.tt_target_laws.proofs.Targets.{Leaves, SeesTarget, SparesOthers, idle_sees}
use Rattle.tt_plain.specs.asked.Event as event
use Rattle.tt_history.specs.declared.reply.Reply.TheVariants as reply
use Rattle.tt_history.specs.declared.history.Told.TheVariants as told

module _ (carried : Carried) (asked : Asked) (due : IsDue carried asked) where
  abbrev pub LeavesHere : Effect → Type 0
  LeavesHere effect = Leaves carried asked.program asked.store effect

  abbrev pub SparesAll : List TallyChange → Type 0
  SparesAll changes = SparesOthers asked.store (Some asked.session) changes

  pub apart_from : (other : ℕ) → (◌≡◌ {A = Option ℕ} (Some asked.session) (Some other) → ⊥) → other ≡ asked.session → ⊥
  apart_from other apart e = apart (ap Some (sym e))

  -- of a session that makes an entry: what it sees afterwards, and that it spares others
  pub by_session : (new : PlainSession) (tables : List TableChange) (points : List (ℕ × ℕ)) (changes : List TallyChange) (moment : ℕ) (reply : Option Reply)
      → SeesTarget carried asked.program (fold changed_tally asked.store.tally changes) asked.session new → SparesAll changes
      → LeavesHere (record { session = Some (asked.session, new); tables = tables; points = points; tally = changes; moment = moment; reply = reply })
  by_session new tables points changes moment reply sees spares = record {
    own = λ session other e. subst (λ (c : ℕ × PlainSession). SeesTarget carried asked.program (fold changed_tally asked.store.tally changes) c.0 c.1) (same_Some (asked.session, new) (session, other) e) sees;
    others = spares;
  }

  pub by_idle : (new : PlainSession) (tables : List TableChange) (points : List (ℕ × ℕ)) (changes : List TallyChange) (moment : ℕ) (reply : Option Reply) → new.running ≡ None → SparesAll changes
      → LeavesHere (record { session = Some (asked.session, new); tables = tables; points = points; tally = changes; moment = moment; reply = reply })
  by_idle new tables points changes moment reply idle spares =
      by_session new tables points changes moment reply (idle_sees carried asked.program (fold changed_tally asked.store.tally changes) asked.session new idle) spares

  pub nothing_spares : SparesAll []
  nothing_spares other held_by at apart table first within held = tt

  pub unpins_spare : SparesAll (Unpins asked.session ∷ [])
  unpins_spare other held_by at apart table first within held = (apart_from other apart, tt)

  -- ---- statements that end

  pub ended_leaves : (moment : ℕ) (reply : Reply) → LeavesHere (ended_with (record asked { moment = moment }) reply)
  unfolding ended_with
  ended_leaves moment reply = by_idle (session_done asked) [] (own_point_now (record asked { moment = moment })) [] moment (Some reply) refl nothing_spares

  refused_leaves : (given : Option Refusal) (number : ℕ) → Gives LeavesHere (refused_effect asked given number)
  unfolding refused_effect
  refused_leaves given number =
      gives_bind LeavesHere given _ (λ refusal e. gives_tested LeavesHere (refusal_number refusal == number) refusal _ (λ test. ended_leaves asked.moment (reply.Refused refusal)))

  pub memory_leaves : Gives LeavesHere (memory_effect asked)
  memory_leaves = ended_leaves asked.moment reply.Memory

  pub told_leaves : (accepted starved : Option Effect) (t : Told) → (refusal_of asked ≡ None → Gives LeavesHere accepted) → Gives LeavesHere starved → Gives LeavesHere (told_effect asked t accepted starved)
  unfolding told_effect
  told_leaves accepted starved told.Done done memory = gives_if LeavesHere (is_none (refusal_of asked)) accepted (λ test. done (none_is (refusal_of asked) test))
  told_leaves accepted starved (told.Refused number) done memory = refused_leaves (refusal_of asked) number
  told_leaves accepted starved told.Memory done memory = memory

  -- ---- BEGIN, waits and reports

  pub begin_leaves : (t : Told) → Gives LeavesHere (begin_effect asked t)
  unfolding begin_effect ended_with
  begin_leaves t =
      due_gives LeavesHere event.Begin asked _ (λ test.
      told_leaves (Some (begin_done asked)) None t
      (λ free. by_idle (record (session_done asked) { transaction = true }) [] (own_point_now asked) [] asked.moment (Some reply.Ok) refl nothing_spares) tt)

  waited_leaves : (request : Request) → Gives LeavesHere (waited_by asked request)
  waited_leaves (Waits w) = ended_leaves (asked.moment + wait_length w) reply.Ok
  waited_leaves _ = tt

  pub wait_leaves : (t : Told) → Gives LeavesHere (wait_effect asked t)
  unfolding wait_effect
  wait_leaves t = due_gives LeavesHere event.Wait asked _ (λ test. told_leaves (waited_by asked (request_asked asked)) None t (λ free. waited_leaves (request_asked asked)) tt)

  reported_leaves : (numbers : List ℕ) (request : Request) → Gives LeavesHere (reported_by asked numbers request)
  reported_leaves numbers (Tells t) = gives_map LeavesHere (λ rows. ended_with asked (reply.Rows rows)) (report_rows asked numbers t) (λ rows e. ended_leaves asked.moment (reply.Rows rows))
  reported_leaves numbers _ = tt

  report_told_leaves : (t : Told) (numbers : List ℕ) → Gives LeavesHere (report_told asked t numbers)
  report_told_leaves told.Done numbers = told_leaves (reported_by asked numbers (request_asked asked)) None told.Done (λ free. reported_leaves numbers (request_asked asked)) tt
  report_told_leaves (told.Refused number) numbers = gives_if LeavesHere (length numbers == 0) _ (λ test. told_leaves None None (told.Refused number) (λ free. tt) tt)
  report_told_leaves told.Memory numbers = gives_if LeavesHere (length numbers == 0) _ (λ test. memory_leaves)

  pub report_leaves : (t : Told) (numbers : List ℕ) → Gives LeavesHere (report_effect asked t numbers)
  unfolding report_effect
  report_leaves t numbers = due_gives LeavesHere event.Report asked _ (λ test. report_told_leaves t numbers)

  -- ---- rollbacks

  pub rolled_back_leaves : (left : PlainSession) (points : List (ℕ × ℕ)) (reply : Option Reply) → left.running ≡ None → LeavesHere (rolled_back asked left points reply)
  unfolding rolled_back
  rolled_back_leaves left points reply idle =
      by_idle (session_committed left) [] (points_settled asked ++ points) (EndsPending asked.session ∷ []) asked.moment reply idle (λ other held_by at apart table first within held. (apart_from other apart, tt))

  pub rollback_leaves : Gives LeavesHere (rollback_effect asked)
  unfolding rollback_effect
  rollback_leaves = due_gives LeavesHere event.Rollback asked _ (λ test. rolled_back_leaves (session_done asked) (own_point_now asked) (Some reply.Ok) refl)

  -- ---- statements that are given up

  given_up_leaves : (seen : PlainOpen) (reply : Reply) → LeavesHere (given_up (asked, seen) (ended_with asked reply))
  unfolding ended_with
  given_up_leaves seen reply = by_idle (record (session_done asked) { marks = seen.marks_before }) [] (own_point_now asked) (Unpins asked.session ∷ []) asked.moment (Some reply) refl unpins_spare

  refused_is : (given : Option Refusal) (number : ℕ) → Gives (λ (effect : Effect). (reply : Reply) × (effect ≡ ended_with asked reply)) (refused_effect asked given number)
  unfolding refused_effect
  refused_is given number =
      gives_bind _ given _ (λ refusal e. gives_tested (λ (effect : Effect). (reply : Reply) × (effect ≡ ended_with asked reply)) (refusal_number refusal == number) refusal _ (λ test. (reply.Refused refusal, refl)))

  pub abandon_leaves : (seen : PlainOpen) (t : Told) → Gives LeavesHere (abandon_effect (asked, seen) t)
  unfolding abandon_effect
  abandon_leaves seen told.Done = tt
  abandon_leaves seen (told.Refused number) =
      gives_bind LeavesHere (outcome_of asked seen) _ (λ outcome e.
      gives_bind LeavesHere (refused_effect asked (failure outcome) number) _ (λ effect f.
      let is = gives_at (λ (effect : Effect). (reply : Reply) × (effect ≡ ended_with asked reply)) (refused_effect asked (failure outcome) number) effect (refused_is (failure outcome) number) f in
      subst (λ (x : Effect). LeavesHere (given_up (asked, seen) x)) (sym is.1) (given_up_leaves seen is.0)))
  abandon_leaves seen told.Memory = given_up_leaves seen reply.Memory
