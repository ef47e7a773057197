-- The step of each entry that a catalog makes, one equation for each way in which it may go.
use Rattle.std.specs.Prelude.{List, None, Option, Some, false, if◌then◌else◌, is_none, option_map, refl, true, ℕ, ◌+◌, ◌==◌, ◌≡◌}
use Rattle.std.proofs.Common.{ap, ◌∙◌}
use Rattle.tt_script.specs.declared.script.Script.{Script}
use Rattle.tt_history.specs.Refusals.{refusal_number}
use Rattle.tt_history.specs.declared.history.Added.{Added}
use Rattle.tt_history.specs.declared.history.EntryKind.{EntryKind}
use Rattle.tt_history.specs.declared.history.Told.{Told}
use Rattle.tt_history.specs.declared.reply.Refusal.{Refusal}
use Rattle.tt_plain.proofs.Tests.{same_test}
use Rattle.tt_script.specs.Lines.{only_if}
use Rattle.tt_plain.specs.Answers.{◌>>=◌}
use Rattle.tt_plain.specs.asked.Asked.{Asked, request_asked, state_asked}
use Rattle.tt_plain.specs.asked.Carried.{Carried}
use Rattle.tt_plain.specs.asked.Event.{Event, first_event, is_same_event}
use Rattle.tt_plain.specs.asked.Request.{Defines, Definition}
use Rattle.tt_plain.specs.asked.Turns.{next_asked, open_asked}
use Rattle.tt_plain.specs.declared.store.Plain.{Plain}
use Rattle.tt_plain.specs.declared.store.PlainOpen.{PlainOpen}
use Rattle.tt_plain.specs.definition.Changes.{definition_changes}
use Rattle.tt_plain.specs.effect.Abandon.{abandon_effect, given_up}
use Rattle.tt_plain.specs.effect.Apply.{applied}
use Rattle.tt_plain.specs.effect.Define.{define_effect, defined, defined_by}
use Rattle.tt_plain.specs.effect.Effect.{Effect, TableChange}
use Rattle.tt_plain.specs.effect.End.{end_effect, ended_as}
use Rattle.tt_plain.specs.effect.Ending.{ended_with, memory_effect, refused_effect, told_effect, where_due}
use Rattle.tt_plain.specs.effect.Start.{begun_by, start_effect}
use Rattle.tt_plain.specs.history.Step.{effect_of, session_entry, step_of}
use Rattle.tt_plain.specs.meaning.Outcome.{Outcome, outcome_of}
use Rattle.tt_plain.specs.refusal.First.{refusal_of}
use Rattle.tt_plain.specs.tally.Changes.{TallyChange}
use Rattle.tt_history.specs.declared.history.EntryKind.TheVariants as kind
use Rattle.tt_history.specs.declared.history.Told.TheVariants as told
use Rattle.tt_history.specs.declared.reply.Reply.TheVariants as reply
use Rattle.tt_plain.specs.asked.Event as event
use Rattle.tt_history.specs.declared.reply.Refusal.TheVariants as refusal
use Rattle.tt_plain.specs.text.RefusalTable.{refusal_row, refusal_number as plain_number}
use Rattle.tt_state.specs.Chronicle.{entry_at}

-- ---- effects

due_is : (event : Event) (asked : Asked) → is_same_event event (first_event (state_asked asked).transaction (request_asked asked)) ≡ true → where_due event asked ≡ Some asked
due_is event asked e = ap (λ b. only_if b asked) e

-- both tables of the refusals have the same numbers
same_numbers : (r : Refusal) → plain_number r ≡ refusal_number r
unfolding refusal_row
same_numbers (refusal.Syntax place) = refl
same_numbers (refusal.UnknownTable place) = refl
same_numbers (refusal.TableExists place) = refl
same_numbers (refusal.UnknownColumn place) = refl
same_numbers (refusal.WrongCount place) = refl
same_numbers (refusal.TypeMismatch place) = refl
same_numbers (refusal.NullInNotNull place) = refl
same_numbers (refusal.RetentionRange place) = refl
same_numbers (refusal.KindMismatch place) = refl
same_numbers (refusal.UnknownFile place) = refl
same_numbers refusal.InFuture = refl
same_numbers refusal.UnknownStatement = refl
same_numbers refusal.StatementOpen = refl
same_numbers (refusal.NotYetMade made) = refl
same_numbers (refusal.OutsideRetention horizon) = refl
same_numbers refusal.NothingToUndrop = refl
same_numbers (refusal.LockHeld session) = refl
same_numbers refusal.ClockEnd = refl
same_numbers refusal.InTransaction = refl
same_numbers (refusal.BadData number column) = refl
same_numbers refusal.OutOfRange = refl
same_numbers (refusal.NullInRow column) = refl

refused_is : (asked : Asked) (refusal : Refusal) → refusal_of asked ≡ Some refusal → refused_effect asked (refusal_of asked) (refusal_number refusal) ≡ Some (ended_with asked (reply.Refused refusal))
unfolding refused_effect
refused_is asked refusal e =
    ap (λ (given : Option Refusal). given >>= λ r. only_if (plain_number r == refusal_number refusal) r >>= λ same. Some (ended_with asked (reply.Refused same))) e
    ∙ ap (λ b. only_if b refusal >>= λ same. Some (ended_with asked (reply.Refused same))) (ap (λ n. n == refusal_number refusal) (same_numbers refusal) ∙ same_test (refusal_number refusal))

-- ---- definitions

module _ (asked : Asked) (d : Definition) (closed : (state_asked asked).transaction ≡ false) (is : request_asked asked ≡ Defines d) where
  define_due : where_due event.Define asked ≡ Some asked
  define_due = due_is event.Define asked (ap (λ r. is_same_event event.Define (first_event (state_asked asked).transaction r)) is ∙ ap (λ b. is_same_event event.Define (first_event b (Defines d))) closed)

  pub define_done : (changes : List TableChange × List TallyChange) → refusal_of asked ≡ None → definition_changes asked d ≡ Some changes → define_effect asked told.Done ≡ Some (defined asked changes)
  unfolding define_effect told_effect
  define_done changes free e =
      ap (λ (o : Option Asked). o >>= λ due. told_effect due told.Done (defined_by due (request_asked due)) (memory_effect due)) define_due
      ∙ ap (λ r. if is_none r then defined_by asked (request_asked asked) else None) free
      ∙ ap (defined_by asked) is ∙ ap (option_map (defined asked)) e

  pub define_refused : (refusal : Refusal) → refusal_of asked ≡ Some refusal → define_effect asked (told.Refused (refusal_number refusal)) ≡ Some (ended_with asked (reply.Refused refusal))
  unfolding define_effect told_effect
  define_refused refusal e =
      ap (λ (o : Option Asked). o >>= λ due. told_effect due (told.Refused (refusal_number refusal)) (defined_by due (request_asked due)) (memory_effect due)) define_due
      ∙ refused_is asked refusal e

  pub define_starved : define_effect asked told.Memory ≡ Some (ended_with asked reply.Memory)
  unfolding define_effect told_effect
  define_starved = ap (λ (o : Option Asked). o >>= λ due. told_effect due told.Memory (defined_by due (request_asked due)) (memory_effect due)) define_due

-- ---- starts

module _ (asked : Asked) (is : is_same_event event.Start (first_event (state_asked asked).transaction (request_asked asked)) ≡ true) where
  pub start_done : (effect : Effect) → refusal_of asked ≡ None → begun_by asked (request_asked asked) ≡ Some effect → start_effect asked told.Done ≡ Some effect
  unfolding start_effect told_effect
  start_done effect free e =
      ap (λ (o : Option Asked). o >>= λ due. told_effect due told.Done (begun_by due (request_asked due)) (memory_effect due)) (due_is event.Start asked is)
      ∙ ap (λ r. if is_none r then begun_by asked (request_asked asked) else None) free ∙ e

  pub start_refused : (refusal : Refusal) → refusal_of asked ≡ Some refusal → start_effect asked (told.Refused (refusal_number refusal)) ≡ Some (ended_with asked (reply.Refused refusal))
  unfolding start_effect told_effect
  start_refused refusal e =
      ap (λ (o : Option Asked). o >>= λ due. told_effect due (told.Refused (refusal_number refusal)) (begun_by due (request_asked due)) (memory_effect due)) (due_is event.Start asked is)
      ∙ refused_is asked refusal e

  pub start_starved : start_effect asked told.Memory ≡ Some (ended_with asked reply.Memory)
  unfolding start_effect told_effect
  start_starved = ap (λ (o : Option Asked). o >>= λ due. told_effect due told.Memory (begun_by due (request_asked due)) (memory_effect due)) (due_is event.Start asked is)

-- ---- ends

pub abandon_starved : (asked : Asked) (seen : PlainOpen) → abandon_effect (asked, seen) told.Memory ≡ Some (given_up (asked, seen) (ended_with asked reply.Memory))
unfolding abandon_effect
abandon_starved asked seen = refl

pub end_is : (asked : Asked) (seen : PlainOpen) (outcome : Outcome) (effect : Effect) (gone : List ℕ) (added : List Added) → outcome_of asked seen ≡ Some outcome → ended_as asked (request_asked asked) outcome (gone, added) ≡ Some effect
    → end_effect (asked, seen) gone added ≡ Some effect
unfolding end_effect
end_is asked seen outcome effect gone added o e =
    ap (λ (x : Option Outcome). x >>= λ out. ended_as asked (request_asked asked) out (gone, added)) o ∙ e

-- ---- entries

module _ (carried : Carried) (program : Script) (store : Plain) (session index : ℕ) where
  step_by : (k : EntryKind) (effect : Effect) → session_entry carried program store session index k ≡ Some effect → effect.moment ≡ store.moment + 1
      → step_of carried program store (entry_at store.moment session index k) ≡ Some (applied store effect, effect.reply)
  unfolding step_of effect_of
  step_by k effect e now =
      ap (λ (o : Option Effect). option_map (λ (f : Effect). (applied store f, f.reply)) (o >>= λ f. only_if (f.moment == store.moment + 1) f)) e
      ∙ ap (λ b. option_map (λ (f : Effect). (applied store f, f.reply)) (only_if b effect)) (ap (λ m. m == store.moment + 1) now ∙ same_test (store.moment + 1))

  pub define_step : (asked : Asked) (t : Told) (effect : Effect) → next_asked carried program store session index ≡ Some asked → define_effect asked t ≡ Some effect → effect.moment ≡ store.moment + 1
      → step_of carried program store (entry_at store.moment session index (kind.Define t)) ≡ Some (applied store effect, effect.reply)
  unfolding session_entry
  define_step asked t effect next e now =
      step_by (kind.Define t) effect (ap (λ (o : Option Asked). o >>= λ a. define_effect a t) next ∙ e) now

  pub start_step : (asked : Asked) (t : Told) (effect : Effect) → next_asked carried program store session index ≡ Some asked → start_effect asked t ≡ Some effect → effect.moment ≡ store.moment + 1
      → step_of carried program store (entry_at store.moment session index (kind.Start t)) ≡ Some (applied store effect, effect.reply)
  unfolding session_entry
  start_step asked t effect next e now =
      step_by (kind.Start t) effect (ap (λ (o : Option Asked). o >>= λ a. start_effect a t) next ∙ e) now

  pub end_step : (asked : Asked) (seen : PlainOpen) (gone : List ℕ) (added : List Added) (effect : Effect) → open_asked carried program store session index ≡ Some (asked, seen) → end_effect (asked, seen) gone added ≡ Some effect → effect.moment ≡ store.moment + 1
      → step_of carried program store (entry_at store.moment session index (kind.End gone added)) ≡ Some (applied store effect, effect.reply)
  unfolding session_entry
  end_step asked seen gone added effect found e now =
      step_by (kind.End gone added) effect (ap (λ (o : Option (Asked × PlainOpen)). o >>= λ a. end_effect a gone added) found ∙ e) now

  pub abandon_step : (asked : Asked) (seen : PlainOpen) (t : Told) (effect : Effect) → open_asked carried program store session index ≡ Some (asked, seen) → abandon_effect (asked, seen) t ≡ Some effect → effect.moment ≡ store.moment + 1
      → step_of carried program store (entry_at store.moment session index (kind.Abandon t)) ≡ Some (applied store effect, effect.reply)
  unfolding session_entry
  abandon_step asked seen t effect found e now =
      step_by (kind.Abandon t) effect (ap (λ (o : Option (Asked × PlainOpen)). o >>= λ a. abandon_effect a t) found ∙ e) now
