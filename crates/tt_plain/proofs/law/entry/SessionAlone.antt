-- The entries that change no table but the session: begins, waits, reports, abandons and rollbacks.
use Rattle.std.specs.List.{list_any}
use Rattle.std.specs.Prelude.{Bool, List, None, Option, Some, [], is_none, length, not, refl, true, ℕ, ◌++◌, ◌+◌, ◌<◌, ◌==◌, ◌^◌, ◌||◌, ◌∷◌, ◌≡◌, ◌≤◌}
use Rattle.std.proofs.Common.{arith, inl, inr, subst, sym, ◌∙◌}
use Rattle.std.proofs.Math.Bool.{or-true}
use Rattle.std.proofs.lemmas.Bool.{and_parts, eq-eqb, false≢true, or_cases}
use Rattle.std.proofs.lemmas.Option.{none-some}
use Rattle.tt_history.specs.declared.history.Told.{Told}
use Rattle.tt_history.specs.declared.reply.Refusal.{Refusal}
use Rattle.tt_history.specs.declared.reply.Reply.{Reply}
use Rattle.tt_plain.proofs.Tests.{none_is, same_number}
use Rattle.tt_plain.proofs.law.session.Alone.{IsDue, alone_sound, no_more_marks, state_sound}
use Rattle.tt_plain.proofs.law.Gives.{Gives, gives_at, gives_bind, gives_if, gives_map, gives_tested}
use Rattle.tt_plain.proofs.law.Lists.{every_on}
use Rattle.tt_plain.proofs.law.Turns.{due_gives}
use Rattle.tt_plain.specs.asked.Asked.{Asked, request_asked, state_asked}
use Rattle.tt_plain.specs.asked.Carried.{Carried}
use Rattle.tt_plain.specs.asked.Request.{Request, Tells, Waits}
use Rattle.tt_plain.specs.declared.store.Plain.{Plain}
use Rattle.tt_plain.specs.declared.store.PlainMark.{PlainMark}
use Rattle.tt_plain.specs.declared.store.PlainOpen.{PlainOpen}
use Rattle.tt_plain.specs.declared.store.PlainSession.{PlainSession}
use Rattle.tt_plain.specs.effect.Abandon.{abandon_effect, failure, given_up}
use Rattle.tt_plain.specs.effect.Begin.{begin_done, begin_effect}
use Rattle.tt_plain.specs.effect.Commit.{points_settled, session_committed}
use Rattle.tt_plain.specs.effect.Effect.{Effect}
use Rattle.tt_plain.specs.effect.Ending.{ended_with, memory_effect, own_point_now, refused_effect, session_done, told_effect}
use Rattle.tt_plain.specs.effect.Report.{report_effect, report_told, reported_by}
use Rattle.tt_plain.specs.effect.Rollback.{rollback_effect, rolled_back}
use Rattle.tt_plain.specs.effect.Wait.{wait_effect, waited_by}
use Rattle.tt_plain.specs.law.Changes.{IsSoundEffect}
use Rattle.tt_plain.specs.law.Lists.{Every}
use Rattle.tt_plain.specs.law.Sound.{AreKept, IsSoundMark, IsSoundSession, IsThere, is_kept_by}
use Rattle.tt_plain.specs.meaning.Outcome.{outcome_of}
use Rattle.tt_plain.specs.opening.Marks.{is_exclusive_on}
use Rattle.tt_plain.specs.refusal.ClockEnd.{wait_length}
use Rattle.tt_plain.specs.refusal.First.{refusal_of}
use Rattle.tt_plain.specs.report.Rows.{report_rows}
use Rattle.tt_plain.specs.tally.Changes.{EndsPending, Unpins}
use Rattle.tt_plain.specs.text.RefusalTable.{refusal_number}
use Rattle.tt_script.specs.declared.script.Script.{Script}
use Rattle.tt_plain.specs.asked.Event as event
use Rattle.tt_history.specs.declared.reply.Reply.TheVariants as reply
use Rattle.tt_history.specs.declared.history.Told.TheVariants as told

-- an effect is sound, if its moment is in time
abbrev pub SoundIn : Carried → Script → Plain → Effect → Type 0
SoundIn carried program store effect = effect.moment < 2 ^ 62 → IsSoundEffect carried program store effect

module _ (carried : Carried) (asked : Asked) (due : IsDue carried asked) where
  abbrev pub Sound : Effect → Type 0
  Sound effect = SoundIn carried asked.program asked.store effect

  -- the session behind an idle statement that has ended
  pub done_sound : (state_asked asked).running ≡ None → IsSoundSession carried asked.program asked.store.tables asked.session (session_done asked)
  done_sound idle =
      let sound = state_sound carried asked due in
      record {
        pending = sound.pending;
        rows = sound.rows;
        marks = sound.marks;
        marked = sound.marked;
        closed = sound.closed;
        running = λ seen e. absurd (none-some seen e);
        unmarked = λ closed ended. sound.unmarked closed idle;
      }

  -- a statement that ends with a reply, at once or later
  pub ended_sound : (moment : ℕ) (reply : Reply) → asked.moment ≤ moment → (state_asked asked).running ≡ None → Sound (ended_with (record asked { moment = moment }) reply)
  unfolding ended_with
  ended_sound moment reply later idle time =
      alone_sound carried asked due (session_done asked) (own_point_now (record asked { moment = moment })) [] moment (Some reply) later time (done_sound idle)
      (no_more_marks carried asked due (session_done asked) (λ table e. e)) tt refl

  pub refused_sound : (given : Option Refusal) (number : ℕ) → (state_asked asked).running ≡ None → Gives Sound (refused_effect asked given number)
  unfolding refused_effect
  refused_sound given number idle =
      gives_bind Sound given _ (λ refusal e. gives_tested Sound (refusal_number refusal == number) refusal _ (λ test. ended_sound asked.moment (reply.Refused refusal) (omega arith) idle))

  pub memory_sound : (state_asked asked).running ≡ None → Gives Sound (memory_effect asked)
  memory_sound idle = ended_sound asked.moment reply.Memory (omega arith) idle

  pub told_sound : (accepted starved : Option Effect) (t : Told) → (state_asked asked).running ≡ None → (refusal_of asked ≡ None → Gives Sound accepted) → Gives Sound starved → Gives Sound (told_effect asked t accepted starved)
  unfolding told_effect
  told_sound accepted starved told.Done idle done memory = gives_if Sound (is_none (refusal_of asked)) accepted (λ test. done (none_is (refusal_of asked) test))
  told_sound accepted starved (told.Refused number) idle done memory = refused_sound (refusal_of asked) number idle
  told_sound accepted starved told.Memory idle done memory = memory

  -- ---- BEGIN

  transaction_sound : (state_asked asked).running ≡ None → IsSoundSession carried asked.program asked.store.tables asked.session (record (session_done asked) { transaction = true })
  transaction_sound idle =
      let sound = state_sound carried asked due in
      record {
        pending = sound.pending;
        rows = sound.rows;
        marks = sound.marks;
        marked = sound.marked;
        closed = λ e. absurd (false≢true (sym e));
        running = λ seen e. absurd (none-some seen e);
        unmarked = λ e ended. absurd (false≢true (sym e));
      }

  pub begin_sound : (t : Told) → (state_asked asked).running ≡ None → Gives Sound (begin_effect asked t)
  unfolding begin_effect ended_with
  begin_sound t idle =
      due_gives Sound event.Begin asked _ (λ test.
      told_sound (Some (begin_done asked)) None t idle
      (λ free. λ time. alone_sound carried asked due (record (session_done asked) { transaction = true }) (own_point_now asked) [] asked.moment (Some reply.Ok) (omega arith) time (transaction_sound idle)
      (no_more_marks carried asked due (record (session_done asked) { transaction = true }) (λ table e. e)) tt refl) tt)

  -- ---- waits and reports

  waited_sound : (request : Request) → (state_asked asked).running ≡ None → Gives Sound (waited_by asked request)
  waited_sound (Waits w) idle = ended_sound (asked.moment + wait_length w) reply.Ok (omega arith) idle
  waited_sound _ idle = tt

  pub wait_sound : (t : Told) → (state_asked asked).running ≡ None → Gives Sound (wait_effect asked t)
  unfolding wait_effect
  wait_sound t idle =
      due_gives Sound event.Wait asked _ (λ test. told_sound (waited_by asked (request_asked asked)) None t idle (λ free. waited_sound (request_asked asked) idle) tt)

  reported_sound : (numbers : List ℕ) (request : Request) → (state_asked asked).running ≡ None → Gives Sound (reported_by asked numbers request)
  reported_sound numbers (Tells t) idle = gives_map Sound (λ rows. ended_with asked (reply.Rows rows)) (report_rows asked numbers t) (λ rows e. ended_sound asked.moment (reply.Rows rows) (omega arith) idle)
  reported_sound numbers _ idle = tt

  report_told_sound : (t : Told) (numbers : List ℕ) → (state_asked asked).running ≡ None → Gives Sound (report_told asked t numbers)
  report_told_sound told.Done numbers idle =
      told_sound (reported_by asked numbers (request_asked asked)) None told.Done idle (λ free. reported_sound numbers (request_asked asked) idle) tt
  report_told_sound (told.Refused number) numbers idle =
      gives_if Sound (length numbers == 0) _ (λ test. told_sound None None (told.Refused number) idle (λ free. tt) tt)
  report_told_sound told.Memory numbers idle = gives_if Sound (length numbers == 0) _ (λ test. memory_sound idle)

  pub report_sound : (t : Told) (numbers : List ℕ) → (state_asked asked).running ≡ None → Gives Sound (report_effect asked t numbers)
  unfolding report_effect
  report_sound t numbers idle = due_gives Sound event.Report asked _ (λ test. report_told_sound t numbers idle)

  -- ---- rollbacks

  pub no_transaction : (state : PlainSession) → state.running ≡ None → IsSoundSession carried asked.program asked.store.tables asked.session (session_committed state)
  no_transaction state idle = record {
    pending = tt;
    rows = tt;
    marks = tt;
    marked = tt;
    closed = λ e. refl;
    running = λ seen e. absurd (none-some seen (sym idle ∙ e));
    unmarked = λ e ended. refl;
  }

  pub rolled_back_sound : (state : PlainSession) (points : List (ℕ × ℕ)) (reply : Option Reply) → state.running ≡ None → Sound (rolled_back asked state points reply)
  unfolding rolled_back
  rolled_back_sound state points reply idle time =
      alone_sound carried asked due (session_committed state) (points_settled asked ++ points) (EndsPending asked.session ∷ []) asked.moment reply (omega arith) time (no_transaction state idle)
      (no_more_marks carried asked due (session_committed state) (λ table e. absurd (false≢true e))) (tt, tt) refl

  pub rollback_sound : (state_asked asked).running ≡ None → Gives Sound (rollback_effect asked)
  unfolding rollback_effect
  rollback_sound idle = due_gives Sound event.Rollback asked _ (λ test. rolled_back_sound (session_done asked) (own_point_now asked) (Some reply.Ok) refl)

  -- ---- statements that are given up

  mark_covered : (mark : PlainMark) (marks : List PlainMark) → Every (IsSoundMark asked.store.tables) marks → list_any (is_kept_by mark) marks ≡ true → IsSoundMark asked.store.tables mark
  mark_covered mark [] all e = absurd (false≢true e)
  mark_covered mark (other ∷ marks) all e = elim (or_cases (is_kept_by mark other) (list_any (is_kept_by mark) marks) e) [
    | inl h ↦ subst (λ (n : ℕ). IsThere asked.store.tables n (λ table. table.dropped ≡ None))
        (same_number other.table mark.table (and_parts (other.table == mark.table) (other.exclusive || not mark.exclusive) h).0) all.0
    | inr h ↦ mark_covered mark marks all.1 h
  ]

  -- an exclusive mark is covered by one that is exclusive
  covered_exclusive : (table : ℕ) (mark : PlainMark) (marks : List PlainMark) → mark.table ≡ table → mark.exclusive ≡ true → list_any (is_kept_by mark) marks ≡ true → list_any (is_exclusive_on table) marks ≡ true
  covered_exclusive table mark [] same exclusive e = absurd (false≢true e)
  covered_exclusive table mark (other ∷ marks) same exclusive e = elim (or_cases (is_kept_by mark other) (list_any (is_kept_by mark) marks) e) [
    | inl h ↦
        let both = and_parts (other.table == mark.table) (other.exclusive || not mark.exclusive) h in
        let marked : other.exclusive ≡ true = elim (or_cases other.exclusive (not mark.exclusive) both.1) [ inl k ↦ k | inr k ↦ absurd (false≢true (subst (λ (b : Bool). not b ≡ true) exclusive k)) ] in
        let on : (other.table == table) ≡ true = eq-eqb other.table table (same_number other.table mark.table both.0 ∙ same) in
        rw (on, marked) refl
    | inr h ↦ rw (covered_exclusive table mark marks same exclusive h) (or-true (is_exclusive_on table other))
  ]

  kept_exclusive : (table : ℕ) (before marks : List PlainMark) → AreKept before marks → list_any (is_exclusive_on table) before ≡ true → list_any (is_exclusive_on table) marks ≡ true
  kept_exclusive table [] marks all e = absurd (false≢true e)
  kept_exclusive table (mark ∷ before) marks all e = elim (or_cases (is_exclusive_on table mark) (list_any (is_exclusive_on table) before) e) [
    | inl h ↦ let both = and_parts (mark.table == table) mark.exclusive h in covered_exclusive table mark marks (same_number mark.table table both.0) both.1 all.0
    | inr h ↦ kept_exclusive table before marks all.1 h
  ]

  marks_back : (before marks : List PlainMark) → Every (IsSoundMark asked.store.tables) marks → AreKept before marks → Every (IsSoundMark asked.store.tables) before
  marks_back before marks all stays = every_on (λ (mark : PlainMark). list_any (is_kept_by mark) marks ≡ true) (IsSoundMark asked.store.tables) before (λ mark e. mark_covered mark marks all e) stays

  before_sound : (seen : PlainOpen) → (state_asked asked).running ≡ Some seen → IsSoundSession carried asked.program asked.store.tables asked.session (record (session_done asked) { marks = seen.marks_before })
  before_sound seen running =
      let sound = state_sound carried asked due in
      let opened = sound.running seen running in
      record {
        pending = sound.pending;
        rows = sound.rows;
        closed = sound.closed;
        marks = opened.before;
        marked = marks_back seen.marks_before (state_asked asked).marks sound.marked opened.kept;
        running = λ other e. absurd (none-some other e);
        unmarked = λ closed ended. opened.alone closed;
      }

  given_up_sound : (seen : PlainOpen) (reply : Reply) → (state_asked asked).running ≡ Some seen → Sound (given_up (asked, seen) (ended_with asked reply))
  unfolding ended_with
  given_up_sound seen reply running time =
      let opened = (state_sound carried asked due).running seen running in
      alone_sound carried asked due (record (session_done asked) { marks = seen.marks_before }) (own_point_now asked) (Unpins asked.session ∷ []) asked.moment (Some reply) (omega arith) time (before_sound seen running)
      (no_more_marks carried asked due (record (session_done asked) { marks = seen.marks_before }) (λ table e. kept_exclusive table seen.marks_before (state_asked asked).marks opened.kept e)) (tt, tt) refl

  refused_is : (given : Option Refusal) (number : ℕ) → Gives (λ (effect : Effect). (reply : Reply) × (effect ≡ ended_with asked reply)) (refused_effect asked given number)
  unfolding refused_effect
  refused_is given number =
      gives_bind _ given _ (λ refusal e. gives_tested (λ (effect : Effect). (reply : Reply) × (effect ≡ ended_with asked reply)) (refusal_number refusal == number) refusal _ (λ test. (reply.Refused refusal, refl)))

  pub abandon_sound : (seen : PlainOpen) (t : Told) → (state_asked asked).running ≡ Some seen → Gives Sound (abandon_effect (asked, seen) t)
  unfolding abandon_effect
  abandon_sound seen told.Done running = tt
  abandon_sound seen (told.Refused number) running =
      gives_bind Sound (outcome_of asked seen) _ (λ outcome e.
      gives_bind Sound (refused_effect asked (failure outcome) number) _ (λ effect f.
      let is = gives_at (λ (effect : Effect). (reply : Reply) × (effect ≡ ended_with asked reply)) (refused_effect asked (failure outcome) number) effect (refused_is (failure outcome) number) f in
      subst (λ (x : Effect). Sound (given_up (asked, seen) x)) (sym is.1) (given_up_sound seen is.0 running)))
  abandon_sound seen told.Memory running = given_up_sound seen reply.Memory running
