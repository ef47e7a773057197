-- An entry of a session changes that session alone, and one of a worker none.
use Rattle.std.specs.Prelude.{Bool, List, None, Option, Some, [], false, if◌then◌else◌, is_none, length, refl, slice_get, slice_set, true, ℕ, ⊤, ◌&&◌, ◌+◌, ◌==◌, ◌∷◌, ◌≡◌}
use Rattle.std.proofs.Common.{ap, suc, zero}
use Rattle.std.proofs.lemmas.Option.{none-some}
use Rattle.tt_history.specs.declared.history.Added.{Added}
use Rattle.tt_history.specs.declared.history.EntryKind.{EntryKind}
use Rattle.tt_history.specs.declared.history.Told.{Told}
use Rattle.tt_history.specs.declared.reply.Refusal.{Refusal}
use Rattle.tt_history.specs.declared.reply.Reply.{Reply}
use Rattle.tt_plain.proofs.law.Gives.{Gives, gives_bind, gives_if, gives_map, gives_or, gives_tested, gives_when}
use Rattle.tt_plain.proofs.law.Turns.{due_gives, next_gives, open_gives}
use Rattle.tt_plain.specs.asked.Asked.{Asked, request_asked, state_asked}
use Rattle.tt_plain.specs.asked.Carried.{Carried}
use Rattle.tt_plain.specs.asked.Request.{Commits, Defines, Reads, Request, Tells, Waits, Writes}
use Rattle.tt_plain.specs.asked.Turns.{asked_with}
use Rattle.tt_plain.specs.declared.store.Plain.{Plain}
use Rattle.tt_plain.specs.declared.store.PlainOpen.{PlainOpen}
use Rattle.tt_plain.specs.declared.store.PlainPending.{PlainPending}
use Rattle.tt_plain.specs.declared.store.PlainSession.{PlainSession}
use Rattle.tt_plain.specs.definition.Changes.{definition_changes}
use Rattle.tt_plain.specs.effect.Abandon.{abandon_effect, failure}
use Rattle.tt_plain.specs.effect.Begin.{begin_done, begin_effect}
use Rattle.tt_plain.specs.effect.Commit.{commit_effect, commit_told, committed, committed_by}
use Rattle.tt_plain.specs.effect.Define.{define_effect, defined_by}
use Rattle.tt_plain.specs.effect.Effect.{Effect}
use Rattle.tt_plain.specs.effect.End.{EntryFacts, answered, are_facts_of, changed_by, committed_alone, end_effect, ended_as, kept}
use Rattle.tt_plain.specs.effect.Ending.{ended_with, memory_effect, refused_effect, told_effect}
use Rattle.tt_plain.specs.effect.Landing.{lands_with, round_end_effect}
use Rattle.tt_plain.specs.effect.Miss.{may_miss, round_miss_effect}
use Rattle.tt_plain.specs.effect.Purge.{may_purge, purge_effect}
use Rattle.tt_plain.specs.effect.Report.{report_effect, report_told, reported_by}
use Rattle.tt_plain.specs.effect.Rollback.{closing_effect, has_ended_statements, rollback_effect, rolled_back}
use Rattle.tt_plain.specs.effect.Round.{may_be_reclustered, miss_of, round_of}
use Rattle.tt_plain.specs.effect.RoundStart.{may_take, round_start_effect}
use Rattle.tt_plain.specs.effect.Start.{begun_by, start_effect}
use Rattle.tt_plain.specs.effect.Wait.{wait_effect, waited_by}
use Rattle.tt_plain.specs.history.Step.{of_next, of_open, purge_entry, round_entry, session_entry}
use Rattle.tt_plain.specs.meaning.Outcome.{Answers, Does, Outcome, outcome_of}
use Rattle.tt_plain.specs.opening.Opened.{change_opened, query_opened}
use Rattle.tt_plain.specs.refusal.First.{refusal_of}
use Rattle.tt_plain.specs.report.Rows.{report_rows}
use Rattle.tt_plain.specs.stored.Tables.{table_numbered}
use Rattle.tt_plain.specs.text.RefusalTable.{refusal_number}
use Rattle.tt_script.specs.declared.script.Script.{Script}
use Rattle.tt_plain.specs.asked.Event as event
use Rattle.tt_history.specs.declared.history.EntryKind.TheVariants as kind
use Rattle.tt_history.specs.declared.reply.Reply.TheVariants as reply
use Rattle.tt_history.specs.declared.history.Told.TheVariants as told

abbrev pub Touches : ℕ → Option (ℕ × PlainSession) → Type 0
Touches session None = ⊤
Touches session (Some change) = change.0 ≡ session

-- an effect of this session, or of none
abbrev pub IsOwn : ℕ → Effect → Type 0
IsOwn session effect = Touches session effect.session

-- ---- effects by which a statement ends

ended_own : (asked : Asked) (r : Reply) → IsOwn asked.session (ended_with asked r)
unfolding ended_with
ended_own asked r = refl

refused_own : (asked : Asked) (given : Option Refusal) (number : ℕ) → Gives (IsOwn asked.session) (refused_effect asked given number)
unfolding refused_effect
refused_own asked given number =
    gives_bind _ given _ (λ refusal e. gives_tested _ (refusal_number refusal == number) refusal _ (λ test. ended_own asked (reply.Refused refusal)))

told_own : (asked : Asked) (accepted starved : Option Effect) → Gives (IsOwn asked.session) accepted → Gives (IsOwn asked.session) starved
    → (t : Told) → Gives (IsOwn asked.session) (told_effect asked t accepted starved)
unfolding told_effect
told_own asked accepted starved done memory told.Done = gives_if _ (is_none (refusal_of asked)) accepted (λ test. done)
told_own asked accepted starved done memory (told.Refused number) = refused_own asked (refusal_of asked) number
told_own asked accepted starved done memory told.Memory = memory

-- ---- each kind of entry

begin_own : (asked : Asked) (t : Told) → Gives (IsOwn asked.session) (begin_effect asked t)
unfolding begin_effect
begin_own asked t = due_gives _ event.Begin asked _ (λ due. told_own asked (Some (begin_done asked)) None refl tt t)

begun_own : (asked : Asked) (request : Request) → Gives (IsOwn asked.session) (begun_by asked request)
begun_own asked (Reads q) = gives_map _ _ (query_opened asked q) (λ state e. refl)
begun_own asked (Writes d) = gives_map _ _ (change_opened asked d) (λ state e. refl)
begun_own asked _ = tt

start_own : (asked : Asked) (t : Told) → Gives (IsOwn asked.session) (start_effect asked t)
unfolding start_effect
start_own asked t =
    due_gives _ event.Start asked _ (λ due.
    told_own asked (begun_by asked (request_asked asked)) (memory_effect asked) (begun_own asked (request_asked asked)) (ended_own asked reply.Memory) t)

kept_own : (asked : Asked) (pending : PlainPending) (table : ℕ) (facts : EntryFacts) (r : Reply) → IsOwn asked.session (kept asked pending table facts r)
unfolding kept
kept_own asked pending table facts r = refl

alone_own : (asked : Asked) (pending : PlainPending) (table : ℕ) (facts : EntryFacts) (r : Reply) → IsOwn asked.session (committed_alone asked pending table facts r)
unfolding committed_alone
alone_own asked pending table facts r = refl

either_own : (session : ℕ) (test : Bool) (a b : Effect) → IsOwn session a → IsOwn session b → IsOwn session (if test then a else b)
either_own session true a b here there = here
either_own session false a b here there = there

outcome_own : (asked : Asked) (request : Request) (outcome : Outcome) (facts : EntryFacts) → Gives (IsOwn asked.session) (ended_as asked request outcome facts)
unfolding ended_with
outcome_own asked (Reads q) (Answers rows) facts = gives_when (IsOwn asked.session) (length facts.0 == 0 && length facts.1 == 0) (answered asked rows) (λ test. refl)
outcome_own asked (Writes d) (Does table removed added count) facts =
    gives_when (IsOwn asked.session) (are_facts_of asked table d removed added facts) (changed_by asked d table removed added count facts) (λ test.
    either_own asked.session (state_asked asked).transaction _ _ (kept_own asked _ table facts _) (alone_own asked _ table facts _))
outcome_own asked _ _ facts = tt

end_own : (asked : Asked) (seen : PlainOpen) (gone : List ℕ) (added : List Added) → Gives (IsOwn asked.session) (end_effect (asked, seen) gone added)
unfolding end_effect
end_own asked seen gone added = gives_bind _ (outcome_of asked seen) _ (λ outcome e. outcome_own asked (request_asked asked) outcome (gone, added))

abandon_own : (asked : Asked) (seen : PlainOpen) (t : Told) → Gives (IsOwn asked.session) (abandon_effect (asked, seen) t)
unfolding abandon_effect
abandon_own asked seen told.Done = tt
abandon_own asked seen (told.Refused number) =
    gives_bind _ (outcome_of asked seen) _ (λ outcome e.
    gives_bind _ (refused_effect asked (failure outcome) number) _ (λ effect f. refl))
abandon_own asked seen told.Memory = refl

committed_own : (asked : Asked) (request : Request) → Gives (IsOwn asked.session) (committed_by asked request)
unfolding committed
committed_own asked Commits = refl
committed_own asked (Defines d) = refl
committed_own asked _ = tt

commit_told_own : (asked : Asked) (t : Told) → Gives (IsOwn asked.session) (commit_told asked t)
commit_told_own asked told.Done = committed_own asked (request_asked asked)
commit_told_own asked (told.Refused number) = tt
commit_told_own asked told.Memory = ended_own asked reply.Memory

commit_own : (asked : Asked) (t : Told) → Gives (IsOwn asked.session) (commit_effect asked t)
unfolding commit_effect
commit_own asked t = due_gives _ event.Commit asked _ (λ due. commit_told_own asked t)

rollback_own : (asked : Asked) → Gives (IsOwn asked.session) (rollback_effect asked)
unfolding rollback_effect rolled_back
rollback_own asked = due_gives _ event.Rollback asked _ (λ due. refl)

defined_own : (asked : Asked) (request : Request) → Gives (IsOwn asked.session) (defined_by asked request)
unfolding ended_with
defined_own asked (Defines d) = gives_map _ _ (definition_changes asked d) (λ changes e. refl)
defined_own asked _ = tt

define_own : (asked : Asked) (t : Told) → Gives (IsOwn asked.session) (define_effect asked t)
unfolding define_effect
define_own asked t =
    due_gives _ event.Define asked _ (λ due.
    told_own asked (defined_by asked (request_asked asked)) (memory_effect asked) (defined_own asked (request_asked asked)) (ended_own asked reply.Memory) t)

waited_own : (asked : Asked) (request : Request) → Gives (IsOwn asked.session) (waited_by asked request)
unfolding ended_with
waited_own asked (Waits w) = refl
waited_own asked _ = tt

wait_own : (asked : Asked) (t : Told) → Gives (IsOwn asked.session) (wait_effect asked t)
unfolding wait_effect
wait_own asked t = due_gives _ event.Wait asked _ (λ due. told_own asked (waited_by asked (request_asked asked)) None (waited_own asked (request_asked asked)) tt t)

reported_own : (asked : Asked) (numbers : List ℕ) (request : Request) → Gives (IsOwn asked.session) (reported_by asked numbers request)
reported_own asked numbers (Tells t) = gives_map _ _ (report_rows asked numbers t) (λ rows e. ended_own asked (reply.Rows rows))
reported_own asked numbers _ = tt

report_told_own : (asked : Asked) (t : Told) (numbers : List ℕ) → Gives (IsOwn asked.session) (report_told asked t numbers)
report_told_own asked told.Done numbers =
    told_own asked (reported_by asked numbers (request_asked asked)) None (reported_own asked numbers (request_asked asked)) tt told.Done
report_told_own asked (told.Refused number) numbers =
    gives_if _ (length numbers == 0) _ (λ test. told_own asked None None tt tt (told.Refused number))
report_told_own asked told.Memory numbers = gives_if _ (length numbers == 0) _ (λ test. ended_own asked reply.Memory)

report_own : (asked : Asked) (t : Told) (numbers : List ℕ) → Gives (IsOwn asked.session) (report_effect asked t numbers)
unfolding report_effect
report_own asked t numbers = due_gives _ event.Report asked _ (λ due. report_told_own asked t numbers)

-- ---- entries of sessions

module _ (carried : Carried) (program : Script) (store : Plain) (session index : ℕ) where
  next_own : (f : Asked → Option Effect) → ((asked : Asked) → Gives (IsOwn asked.session) (f asked)) → Gives (IsOwn session) (of_next carried program store session index f)
  next_own f gives = next_gives carried program store session index (IsOwn session) f (λ state read turn idle. gives (asked_with program store session index read))

  open_own : (f : Asked × PlainOpen → Option Effect) → ((asked : Asked) (seen : PlainOpen) → Gives (IsOwn asked.session) (f (asked, seen)))
      → Gives (IsOwn session) (of_open carried program store session index f)
  open_own f gives =
      open_gives carried program store session index (IsOwn session) f (λ state read seen at said running counted. gives (asked_with program store session index read) seen)

  closing_own : Gives (IsOwn session) (closing_effect program store session index)
  unfolding closing_effect rolled_back
  closing_own =
      gives_bind _ (slice_get store.sessions session) _ (λ state at.
      gives_tested _ (has_ended_statements program session state && index == state.done + 1) state _ (λ test.
      gives_tested _ state.transaction state _ (λ in_transaction. refl)))

  pub session_own : (k : EntryKind) → Gives (IsOwn session) (session_entry carried program store session index k)
  unfolding session_entry
  session_own (kind.Begin t) = next_own _ (λ asked. begin_own asked t)
  session_own (kind.Start t) = next_own _ (λ asked. start_own asked t)
  session_own (kind.End gone added) = open_own _ (λ asked seen. end_own asked seen gone added)
  session_own (kind.Abandon t) = open_own _ (λ asked seen. abandon_own asked seen t)
  session_own (kind.Commit t) = next_own _ (λ asked. commit_own asked t)
  session_own kind.Rollback = gives_or _ (of_next carried program store session index rollback_effect) _ (next_own rollback_effect rollback_own) closing_own
  session_own (kind.Define t) = next_own _ (λ asked. define_own asked t)
  session_own (kind.Wait t) = next_own _ (λ asked. wait_own asked t)
  session_own (kind.Report t numbers) = next_own _ (λ asked. report_own asked t numbers)
  session_own (kind.RecluStart table parts) = tt
  session_own (kind.RecluEnd table gone added) = tt
  session_own (kind.RecluMiss table why) = tt
  session_own (kind.Purge parts) = tt
  session_own kind.Close = tt

-- ---- entries of workers

pub round_none : (store : Plain) (index : ℕ) (k : EntryKind) → Gives (λ effect. effect.session ≡ None) (round_entry store index k)
unfolding round_entry round_start_effect round_end_effect round_miss_effect
round_none store index (kind.RecluStart number parts) =
    gives_tested _ (is_none store.tally.round && index == store.tally.rounds + 1) index _ (λ next.
    gives_bind _ (table_numbered store number) _ (λ table there.
    gives_tested _ (may_be_reclustered store table && may_take store.tally number parts) table _ (λ free.
    gives_bind _ table.key _ (λ key has_key. refl))))
round_none store index (kind.RecluEnd table gone added) =
    gives_bind _ (round_of store index table) _ (λ round there.
    gives_tested _ (is_none (miss_of store round) && lands_with store.tally round gone added) round _ (λ lands. refl))
round_none store index (kind.RecluMiss table why) =
    gives_bind _ (round_of store index table) _ (λ round there.
    gives_tested _ (may_miss (miss_of store round) why) round _ (λ missed. refl))
round_none store index _ = tt

pub purge_none : (store : Plain) (index : ℕ) (k : EntryKind) → Gives (λ effect. effect.session ≡ None) (purge_entry store index k)
unfolding purge_entry purge_effect
purge_none store index (kind.Purge parts) = gives_when _ (index == store.tally.purges + 1 && may_purge store parts) _ (λ test. refl)
purge_none store index _ = tt

-- ---- the sessions behind an effect

pub set_here : {A : Type 0} (xs : List A) (place : ℕ) (x y : A) → slice_get xs place ≡ Some y → slice_get (slice_set xs place x) place ≡ Some x
set_here [] place x y e = absurd (none-some y e)
set_here (z ∷ xs) zero x y e = refl
set_here (z ∷ xs) (suc place) x y e = set_here xs place x y e

pub set_apart : {A : Type 0} (xs : List A) (place : ℕ) (x : A) (k : ℕ) (y : A) → (place ≡ k → ⊥) → slice_get xs k ≡ Some y → slice_get (slice_set xs place x) k ≡ Some y
set_apart [] place x k y apart e = absurd (none-some y e)
set_apart (z ∷ xs) zero x zero y apart e = absurd (apart refl)
set_apart (z ∷ xs) zero x (suc k) y apart e = e
set_apart (z ∷ xs) (suc place) x zero y apart e = e
set_apart (z ∷ xs) (suc place) x (suc k) y apart e = set_apart xs place x k y (λ f. apart (ap suc f)) e
