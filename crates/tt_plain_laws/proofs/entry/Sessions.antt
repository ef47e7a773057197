-- Effects that change no row and no part keep the bags.
use Rattle.std.specs.Prelude.{List, None, Option, Some, [], is_none, length, refl, true, ℕ, ◌++◌, ◌+◌, ◌==◌, ◌∷◌, ◌≡◌}
use Rattle.std.proofs.Common.{ap, subst, sym}
use Rattle.std.proofs.lemmas.Option.{same_Some}
use Rattle.tt_history.specs.declared.history.Told.{Told}
use Rattle.tt_history.specs.declared.reply.Refusal.{Refusal}
use Rattle.tt_history.specs.declared.reply.Reply.{Reply}
use Rattle.tt_plain.proofs.Tests.{none_is}
use Rattle.tt_plain.proofs.law.Gives.{Gives, gives_at, gives_bind, gives_if, gives_map, gives_tested}
use Rattle.tt_plain.proofs.law.Turns.{due_gives}
use Rattle.tt_plain.proofs.law.session.Alone.{IsDue}
use Rattle.tt_plain.specs.asked.Asked.{Asked, request_asked, state_asked}
use Rattle.tt_plain.specs.asked.Carried.{Carried}
use Rattle.tt_plain.specs.asked.Request.{Request, Tells, Waits}
use Rattle.tt_plain.specs.declared.store.PlainOpen.{PlainOpen}
use Rattle.tt_plain.specs.declared.store.PlainSession.{PlainSession}
use Rattle.tt_plain.specs.effect.Abandon.{abandon_effect, failure, given_up}
use Rattle.tt_plain.specs.effect.Begin.{begin_done, begin_effect}
use Rattle.tt_plain.specs.effect.Effect.{Effect}
use Rattle.tt_plain.specs.effect.Ending.{ended_with, memory_effect, own_point_now, refused_effect, session_done, told_effect}
use Rattle.tt_plain.specs.effect.Report.{report_effect, report_told, reported_by}
use Rattle.tt_plain.specs.effect.Wait.{wait_effect, waited_by}
use Rattle.tt_plain.specs.law.Lists.{Every}
use Rattle.tt_plain.specs.meaning.Outcome.{outcome_of}
use Rattle.tt_plain.specs.refusal.ClockEnd.{wait_length}
use Rattle.tt_plain.specs.refusal.First.{refusal_of}
use Rattle.tt_plain.specs.report.Rows.{report_rows}
use Rattle.tt_plain.specs.tally.Changes.{TallyChange, Unpins}
use Rattle.tt_plain.specs.text.RefusalTable.{refusal_number}
use Rattle.std.specs.Prelude.{fold, slice_get}
use Rattle.std.proofs.Common.{◌∙◌}
use Rattle.std.proofs.lemmas.Option.{none-some}
use Rattle.tt_plain.specs.effect.Apply.{applied}
use Rattle.tt_plain.specs.effect.Effect.{TableChange}
use Rattle.tt_plain.specs.effect.End.{answered, point_of_end}
use Rattle.tt_plain.specs.law.Bag.{pins_of}
use Rattle.tt_plain.specs.tally.Changes.{changed_tally}
use Rattle.tt_value.specs.declared.value.Row.{Row}
use Rattle.tt_plain_laws.proofs.parts.Backed.{AreBacked, IsPinned}
use Rattle.tt_plain_laws.proofs.parts.Known.{KnownChange}
use Rattle.tt_plain_laws.proofs.parts.Quiet.{IsQuietChange, IsQuietTally, quiet_backed, same_quiet}
use Rattle.tt_plain_laws.proofs.parts.Views.{pins_other}
use Rattle.tt_plain.specs.asked.Event as event
use Rattle.tt_history.specs.declared.reply.Reply.TheVariants as reply
use Rattle.tt_history.specs.declared.history.Told.TheVariants as told

module _ (carried : Carried) (asked : Asked) (due : IsDue carried asked) (contents : List (List Row)) (backed : AreBacked carried asked.program contents asked.store) where
  -- the contents and the store are backed after an effect that adds these contents
  abbrev pub BacksWith : List (List Row) → Effect → Type 0
  BacksWith more effect = AreBacked carried asked.program (contents ++ more) (applied asked.store effect)

  abbrev pub Backs : Effect → Type 0
  Backs effect = BacksWith [] effect

  -- an effect of the session that changes no row and no part
  pub quiet_backs : (new : PlainSession) (tables : List TableChange) (points : List (ℕ × ℕ)) (tally : List TallyChange) (moment : ℕ) (reply : Option Reply)
      → Every IsQuietChange tables → IsQuietTally asked.store.tally (fold changed_tally asked.store.tally tally) → Every (KnownChange (length (contents ++ []))) tally → new.pending ≡ (state_asked asked).pending
      → IsPinned carried asked.program (contents ++ []) (fold changed_tally asked.store.tally tally) asked.session new
      → ((other : ℕ) → (other ≡ asked.session → ⊥) → pins_of (fold changed_tally asked.store.tally tally) other ≡ pins_of asked.store.tally other)
      → (fold changed_tally asked.store.tally tally).round ≡ asked.store.tally.round
      → Backs (record { session = Some (asked.session, new); tables = tables; points = points; tally = tally; moment = moment; reply = reply })
  unfolding applied
  quiet_backs new tables points tally moment reply quiet still known same pinned others same_round =
      quiet_backed carried asked.program contents asked.store (record { session = Some (asked.session, new); tables = tables; points = points; tally = tally; moment = moment; reply = reply }) due.sound backed (record {
        tables = quiet;
        tally = still;
        known = known;
        own = λ session n e. let both = same_Some (asked.session, new) (session, n) e in (
          state_asked asked,
          ap (slice_get asked.store.sessions) (ap (λ (c : ℕ × PlainSession). c.0) (sym both)) ∙ due.at,
          ap (λ (c : ℕ × PlainSession). c.1.pending) (sym both) ∙ same,
        );
        pinned = λ session n e. subst (λ (c : ℕ × PlainSession). IsPinned carried asked.program (contents ++ []) (fold changed_tally asked.store.tally tally) c.0 c.1) (same_Some (asked.session, new) (session, n) e) pinned;
        round = λ round e. backed.round round (sym same_round ∙ e);
        others = λ other apart. others other (λ e. apart new (ap (λ (n : ℕ). Some (n, new)) (sym e)));
      })

  none_running : (tally : List TallyChange) (new : PlainSession) → new.running ≡ None → IsPinned carried asked.program (contents ++ []) (fold changed_tally asked.store.tally tally) asked.session new
  none_running tally new idle seen read running said = absurd (none-some seen (sym idle ∙ running))

  -- no statement is open, and the tally is left
  pub alone_backs : (new : PlainSession) (tables : List TableChange) (points : List (ℕ × ℕ)) (moment : ℕ) (reply : Option Reply) → Every IsQuietChange tables → new.pending ≡ (state_asked asked).pending → new.running ≡ None
      → Backs (record { session = Some (asked.session, new); tables = tables; points = points; tally = []; moment = moment; reply = reply })
  alone_backs new tables points moment reply quiet same idle =
      quiet_backs new tables points [] moment reply quiet (same_quiet asked.store.tally asked.store.tally refl refl refl) tt same (none_running [] new idle) (λ other apart. refl) refl

  -- or just the pins of the session go
  pub unpinned_backs : (new : PlainSession) (points : List (ℕ × ℕ)) (moment : ℕ) (reply : Option Reply) → new.pending ≡ (state_asked asked).pending → new.running ≡ None
      → Backs (record { session = Some (asked.session, new); tables = []; points = points; tally = Unpins asked.session ∷ []; moment = moment; reply = reply })
  unpinned_backs new points moment reply same idle =
      quiet_backs new [] points (Unpins asked.session ∷ []) moment reply tt (same_quiet asked.store.tally (changed_tally asked.store.tally (Unpins asked.session)) refl refl refl) (tt, tt) same
      (none_running (Unpins asked.session ∷ []) new idle) (λ other apart. pins_other asked.session [] asked.store.tally.pins tt other apart) refl

  -- ---- statements that end

  pub ended_backs : (moment : ℕ) (reply : Reply) → Backs (ended_with (record asked { moment = moment }) reply)
  unfolding ended_with
  ended_backs moment reply = alone_backs (session_done asked) [] (own_point_now (record asked { moment = moment })) moment (Some reply) tt refl refl

  pub refused_backs : (given : Option Refusal) (number : ℕ) → Gives Backs (refused_effect asked given number)
  unfolding refused_effect
  refused_backs given number =
      gives_bind Backs given _ (λ refusal e. gives_tested Backs (refusal_number refusal == number) refusal _ (λ test. ended_backs asked.moment (reply.Refused refusal)))

  pub memory_backs : Gives Backs (memory_effect asked)
  memory_backs = ended_backs asked.moment reply.Memory

  pub told_backs : (accepted starved : Option Effect) (t : Told) → (refusal_of asked ≡ None → Gives Backs accepted) → Gives Backs starved → Gives Backs (told_effect asked t accepted starved)
  unfolding told_effect
  told_backs accepted starved told.Done done memory = gives_if Backs (is_none (refusal_of asked)) accepted (λ test. done (none_is (refusal_of asked) test))
  told_backs accepted starved (told.Refused number) done memory = refused_backs (refusal_of asked) number
  told_backs accepted starved told.Memory done memory = memory

  -- ---- BEGIN, waits and reports

  pub begin_backs : (t : Told) → Gives Backs (begin_effect asked t)
  unfolding begin_effect ended_with
  begin_backs t =
      due_gives Backs event.Begin asked _ (λ test.
      told_backs (Some (begin_done asked)) None t
      (λ free. alone_backs (record (session_done asked) { transaction = true }) [] (own_point_now asked) asked.moment (Some reply.Ok) tt refl refl) tt)

  waited_backs : (request : Request) → Gives Backs (waited_by asked request)
  waited_backs (Waits w) = ended_backs (asked.moment + wait_length w) reply.Ok
  waited_backs _ = tt

  pub wait_backs : (t : Told) → Gives Backs (wait_effect asked t)
  unfolding wait_effect
  wait_backs t = due_gives Backs event.Wait asked _ (λ test. told_backs (waited_by asked (request_asked asked)) None t (λ free. waited_backs (request_asked asked)) tt)

  reported_backs : (numbers : List ℕ) (request : Request) → Gives Backs (reported_by asked numbers request)
  reported_backs numbers (Tells t) = gives_map Backs (λ rows. ended_with asked (reply.Rows rows)) (report_rows asked numbers t) (λ rows e. ended_backs asked.moment (reply.Rows rows))
  reported_backs numbers _ = tt

  report_told_backs : (t : Told) (numbers : List ℕ) → Gives Backs (report_told asked t numbers)
  report_told_backs told.Done numbers = told_backs (reported_by asked numbers (request_asked asked)) None told.Done (λ free. reported_backs numbers (request_asked asked)) tt
  report_told_backs (told.Refused number) numbers = gives_if Backs (length numbers == 0) _ (λ test. told_backs None None (told.Refused number) (λ free. tt) tt)
  report_told_backs told.Memory numbers = gives_if Backs (length numbers == 0) _ (λ test. memory_backs)

  pub report_backs : (t : Told) (numbers : List ℕ) → Gives Backs (report_effect asked t numbers)
  unfolding report_effect
  report_backs t numbers = due_gives Backs event.Report asked _ (λ test. report_told_backs t numbers)

  -- ---- queries that end

  pub answered_backs : (rows : List Row) → Backs (answered asked rows)
  answered_backs rows = unpinned_backs (session_done asked) (point_of_end asked) asked.moment (Some (reply.Rows rows)) refl refl

  -- ---- statements that are given up

  given_up_backs : (seen : PlainOpen) (reply : Reply) → Backs (given_up (asked, seen) (ended_with asked reply))
  unfolding ended_with
  given_up_backs seen reply = unpinned_backs (record (session_done asked) { marks = seen.marks_before }) (own_point_now asked) asked.moment (Some reply) refl refl

  refused_is : (given : Option Refusal) (number : ℕ) → Gives (λ (effect : Effect). (reply : Reply) × (effect ≡ ended_with asked reply)) (refused_effect asked given number)
  unfolding refused_effect
  refused_is given number =
      gives_bind _ given _ (λ refusal e. gives_tested (λ (effect : Effect). (reply : Reply) × (effect ≡ ended_with asked reply)) (refusal_number refusal == number) refusal _ (λ test. (reply.Refused refusal, refl)))

  pub abandon_backs : (seen : PlainOpen) (t : Told) → Gives Backs (abandon_effect (asked, seen) t)
  unfolding abandon_effect
  abandon_backs seen told.Done = tt
  abandon_backs seen (told.Refused number) =
      gives_bind Backs (outcome_of asked seen) _ (λ outcome e.
      gives_bind Backs (refused_effect asked (failure outcome) number) _ (λ effect f.
      let is = gives_at (λ (effect : Effect). (reply : Reply) × (effect ≡ ended_with asked reply)) (refused_effect asked (failure outcome) number) effect (refused_is (failure outcome) number) f in
      subst (λ (x : Effect). Backs (given_up (asked, seen) x)) (sym is.1) (given_up_backs seen is.0)))
  abandon_backs seen told.Memory = given_up_backs seen reply.Memory
