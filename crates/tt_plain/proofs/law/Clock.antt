-- When each entry is, and whether it has a reply.
use Rattle.std.specs.Prelude.{Bool, Err, List, None, Option, Result, Some, [], false, if◌then◌else◌, is_none, is_some, length, nat_lt, option_and_then, option_map, refl, slice_get, true, ℕ, ◌&&◌, ◌++◌, ◌+◌, ◌-◌, ◌==◌, ◌∷◌, ◌≡◌, ◌≤◌}
use Rattle.std.proofs.Common.{ap, arith, subst, sym, ◌∙◌}
use Rattle.std.proofs.lemmas.Bool.{and_parts, ltb-false}
use Rattle.std.proofs.lemmas.Option.{none-some, same_Some, slice_get_past}
use Rattle.tt_history.specs.declared.history.Actor.{Actor}
use Rattle.tt_history.specs.declared.history.Added.{Added}
use Rattle.tt_history.specs.declared.history.Entry.{Entry}
use Rattle.tt_history.specs.declared.history.EntryKind.{EntryKind}
use Rattle.tt_history.specs.declared.history.Told.{Told}
use Rattle.tt_history.specs.declared.reply.Refusal.{Refusal}
use Rattle.tt_history.specs.declared.reply.Reply.{Reply}
use Rattle.tt_plain.proofs.Answers.{map_some}
use Rattle.tt_plain.proofs.Tests.{none_is, same_number}
use Rattle.tt_plain.proofs.law.Free.{is_free}
use Rattle.tt_plain.proofs.law.Gives.{Gives, gives_at, gives_bind, gives_if, gives_map, gives_or, gives_tested, gives_when}
use Rattle.tt_plain.proofs.law.Turns.{due_gives, next_gives, open_gives}
use Rattle.tt_plain.specs.Answers.{◌>>=◌}
use Rattle.tt_plain.specs.asked.Asked.{Asked, request_asked, state_asked}
use Rattle.tt_plain.specs.asked.Carried.{Carried}
use Rattle.tt_plain.specs.asked.Request.{Commits, Defines, Reads, Request, Tells, Waits, Writes, request_of}
use Rattle.tt_plain.specs.asked.Turns.{asked_with, carried_out, statement_read}
use Rattle.tt_plain.specs.declared.store.Plain.{Plain}
use Rattle.tt_plain.specs.declared.store.PlainOpen.{PlainOpen}
use Rattle.tt_plain.specs.declared.store.PlainPending.{PlainPending}
use Rattle.tt_plain.specs.declared.store.PlainSession.{PlainSession}
use Rattle.tt_plain.specs.definition.Changes.{definition_changes}
use Rattle.tt_plain.specs.effect.Abandon.{abandon_effect, failure, given_up}
use Rattle.tt_plain.specs.effect.Apply.{applied}
use Rattle.tt_plain.specs.effect.Begin.{begin_done, begin_effect}
use Rattle.tt_plain.specs.effect.Commit.{commit_effect, commit_told, committed, committed_by}
use Rattle.tt_plain.specs.effect.Define.{define_effect, defined_by}
use Rattle.tt_plain.specs.effect.Effect.{Effect}
use Rattle.tt_plain.specs.effect.End.{EntryFacts, answered, are_facts_of, changed_by, committed_alone, end_effect, ended_as, kept}
use Rattle.tt_plain.specs.effect.Ending.{ended_with, memory_effect, own_point_now, refused_effect, session_done, told_effect}
use Rattle.tt_plain.specs.effect.Landing.{lands_with, round_end_effect}
use Rattle.tt_plain.specs.effect.Miss.{may_miss, round_miss_effect}
use Rattle.tt_plain.specs.effect.Purge.{may_purge, purge_effect}
use Rattle.tt_plain.specs.effect.Report.{report_effect, report_told, reported_by}
use Rattle.tt_plain.specs.effect.Rollback.{closing_effect, has_ended_statements, rollback_effect, rolled_back}
use Rattle.tt_plain.specs.effect.Round.{may_be_reclustered, miss_of, round_of, worker_effect}
use Rattle.tt_plain.specs.effect.RoundStart.{may_take, round_start_effect}
use Rattle.tt_plain.specs.effect.Start.{begun_by, start_effect}
use Rattle.tt_plain.specs.effect.Wait.{wait_effect, waited_by}
use Rattle.tt_plain.specs.history.Replay.{Run, replay_from, replay_of}
use Rattle.tt_plain.specs.history.Replies.{carries_reply, commit_ends, ends_one_of, ends_statement, start_ends}
use Rattle.tt_plain.specs.history.Step.{actor_entry, effect_of, of_next, of_open, purge_entry, round_entry, session_entry, step_of}
use Rattle.tt_plain.specs.law.Goes.{RepliesStandAtEnds}
use Rattle.tt_plain.specs.law.Sound.{LegalStaysInTime}
use Rattle.tt_plain.specs.meaning.Outcome.{Answers, Does, Outcome, outcome_of}
use Rattle.tt_plain.specs.opening.Opened.{change_opened, query_opened}
use Rattle.tt_plain.specs.refusal.{where_true}
use Rattle.tt_plain.specs.refusal.ClockEnd.{last_moment, passes_end, wait_length}
use Rattle.tt_plain.specs.refusal.First.{refusal_of}
use Rattle.tt_plain.specs.report.Rows.{report_rows}
use Rattle.tt_plain.specs.stored.Empty.{empty_store}
use Rattle.tt_plain.specs.stored.Points.{count_in}
use Rattle.tt_plain.specs.stored.Tables.{table_numbered}
use Rattle.tt_plain.specs.tally.Changes.{TallyChange}
use Rattle.tt_plain.specs.text.RefusalTable.{refusal_number}
use Rattle.tt_script.specs.Program.{span_of, text_at}
use Rattle.tt_script.specs.declared.script.Script.{Script}
use Rattle.tt_script.specs.declared.script.SessionText.{SessionText}
use Rattle.tt_sql.specs.declared.statement.Statement.{Statement}
use Rattle.tt_sql.specs.machine.ExpressionTrees.{behind}
use Rattle.tt_sql.specs.text.StatementOf.{statement_of}
use Rattle.tt_history.specs.declared.history.Actor.TheVariants as actor
use Rattle.tt_plain.specs.asked.Event as event
use Rattle.tt_history.specs.declared.history.EntryKind.TheVariants as kind
use Rattle.tt_history.specs.declared.reply.Refusal.TheVariants as refusal
use Rattle.tt_history.specs.declared.reply.Reply.TheVariants as reply
use Rattle.tt_history.specs.declared.history.Told.TheVariants as told

-- An effect is not before the moment that is asked, and after it only within the days of the calendar; and it has a reply, or none.

pub record IsTimed (moment : ℕ) (answers : Bool) (effect : Effect) : Type 0 where
  pub later : moment ≤ effect.moment
  pub most : (cap : ℕ) → last_moment ≤ cap → moment ≤ cap → effect.moment ≤ cap
  pub replies : is_some effect.reply ≡ answers

-- ---- effects by which a statement ends

pub ended_timed : (asked : Asked) (reply : Reply) → IsTimed asked.moment true (ended_with asked reply)
unfolding ended_with
ended_timed asked reply = record { later = omega arith; most = λ cap days below. below; replies = refl }

refused_timed : (asked : Asked) (given : Option Refusal) (number : ℕ) → Gives (IsTimed asked.moment true) (refused_effect asked given number)
unfolding refused_effect
refused_timed asked given number =
    gives_bind _ given _ (λ refusal e. gives_tested _ (refusal_number refusal == number) refusal _ (λ test. ended_timed asked (reply.Refused refusal)))

told_timed : (asked : Asked) (accepted starved : Option Effect) (answers : Told → Bool) → ((number : ℕ) → answers (told.Refused number) ≡ true)
    → (refusal_of asked ≡ None → Gives (IsTimed asked.moment (answers told.Done)) accepted) → Gives (IsTimed asked.moment (answers told.Memory)) starved
    → (t : Told) → Gives (IsTimed asked.moment (answers t)) (told_effect asked t accepted starved)
unfolding told_effect
told_timed asked accepted starved answers refused done memory told.Done =
    gives_if _ (is_none (refusal_of asked)) accepted (λ test. done (none_is (refusal_of asked) test))
told_timed asked accepted starved answers refused done memory (told.Refused number) =
    subst (λ (b : Bool). Gives (IsTimed asked.moment b) (refused_effect asked (refusal_of asked) number)) (sym (refused number)) (refused_timed asked (refusal_of asked) number)
told_timed asked accepted starved answers refused done memory told.Memory = memory

-- ---- each kind of entry

begin_timed : (asked : Asked) (t : Told) → Gives (IsTimed asked.moment true) (begin_effect asked t)
unfolding begin_effect ended_with
begin_timed asked t =
    due_gives _ event.Begin asked _ (λ due.
    told_timed asked (Some (begin_done asked)) None (λ _. true) (λ number. refl) (λ free. record { later = omega arith; most = λ cap days below. below; replies = refl }) tt t)

begun_timed : (asked : Asked) (request : Request) → Gives (IsTimed asked.moment false) (begun_by asked request)
begun_timed asked (Reads q) = gives_map _ _ (query_opened asked q) (λ state e. record { later = omega arith; most = λ cap days below. below; replies = refl })
begun_timed asked (Writes d) = gives_map _ _ (change_opened asked d) (λ state e. record { later = omega arith; most = λ cap days below. below; replies = refl })
begun_timed asked _ = tt

start_timed : (asked : Asked) (t : Told) → Gives (IsTimed asked.moment (start_ends t)) (start_effect asked t)
unfolding start_effect
start_timed asked t =
    due_gives _ event.Start asked _ (λ due.
    told_timed asked (begun_by asked (request_asked asked)) (memory_effect asked) start_ends (λ number. refl) (λ free. begun_timed asked (request_asked asked)) (ended_timed asked reply.Memory) t)

kept_timed : (asked : Asked) (pending : PlainPending) (table : ℕ) (facts : EntryFacts) (r : Reply) → IsTimed asked.moment true (kept asked pending table facts r)
unfolding kept
kept_timed asked pending table facts r = record { later = omega arith; most = λ cap days below. below; replies = refl }

alone_timed : (asked : Asked) (pending : PlainPending) (table : ℕ) (facts : EntryFacts) (r : Reply) → IsTimed asked.moment true (committed_alone asked pending table facts r)
unfolding committed_alone
alone_timed asked pending table facts r = record { later = omega arith; most = λ cap days below. below; replies = refl }

either_timed : (moment : ℕ) (answers test : Bool) (a b : Effect) → IsTimed moment answers a → IsTimed moment answers b → IsTimed moment answers (if test then a else b)
either_timed moment answers true a b here there = here
either_timed moment answers false a b here there = there

outcome_timed : (asked : Asked) (request : Request) (outcome : Outcome) (facts : EntryFacts) → Gives (IsTimed asked.moment true) (ended_as asked request outcome facts)
outcome_timed asked (Reads q) (Answers rows) facts = gives_when (IsTimed asked.moment true) (length facts.0 == 0 && length facts.1 == 0) (answered asked rows) (λ test. record { later = omega arith; most = λ cap days below. below; replies = refl })
outcome_timed asked (Writes d) (Does table removed added count) facts =
    gives_when _ (are_facts_of asked table d removed added facts) (changed_by asked d table removed added count facts) (λ test.
    either_timed asked.moment true (state_asked asked).transaction _ _ (kept_timed asked _ table facts _) (alone_timed asked _ table facts _))
outcome_timed asked _ _ facts = tt

end_timed : (asked : Asked) (seen : PlainOpen) (gone : List ℕ) (added : List Added) → Gives (IsTimed asked.moment true) (end_effect (asked, seen) gone added)
unfolding end_effect
end_timed asked seen gone added = gives_bind _ (outcome_of asked seen) _ (λ outcome e. outcome_timed asked (request_asked asked) outcome (gone, added))

given_up_timed : (asked : Asked) (seen : PlainOpen) (effect : Effect) → IsTimed asked.moment true effect → IsTimed asked.moment true (given_up (asked, seen) effect)
given_up_timed asked seen effect timed = record { later = timed.later; most = timed.most; replies = timed.replies }

abandon_timed : (asked : Asked) (seen : PlainOpen) (t : Told) → Gives (IsTimed asked.moment true) (abandon_effect (asked, seen) t)
unfolding abandon_effect
abandon_timed asked seen told.Done = tt
abandon_timed asked seen (told.Refused number) =
    gives_bind _ (outcome_of asked seen) _ (λ outcome e.
    gives_bind _ (refused_effect asked (failure outcome) number) _ (λ effect f.
    given_up_timed asked seen effect (gives_at _ (refused_effect asked (failure outcome) number) effect (refused_timed asked (failure outcome) number) f)))
abandon_timed asked seen told.Memory = given_up_timed asked seen (ended_with asked reply.Memory) (ended_timed asked reply.Memory)

committed_timed : (asked : Asked) (request : Request) → Gives (IsTimed asked.moment (commit_ends request told.Done)) (committed_by asked request)
unfolding committed
committed_timed asked Commits = record { later = omega arith; most = λ cap days below. below; replies = refl }
committed_timed asked (Defines d) = record { later = omega arith; most = λ cap days below. below; replies = refl }
committed_timed asked _ = tt

commit_told_timed : (asked : Asked) (t : Told) → Gives (IsTimed asked.moment (commit_ends (request_asked asked) t)) (commit_told asked t)
commit_told_timed asked told.Done = committed_timed asked (request_asked asked)
commit_told_timed asked (told.Refused number) = tt
commit_told_timed asked told.Memory = ended_timed asked reply.Memory

commit_timed : (asked : Asked) (t : Told) → Gives (IsTimed asked.moment (commit_ends (request_asked asked) t)) (commit_effect asked t)
unfolding commit_effect
commit_timed asked t = due_gives _ event.Commit asked _ (λ due. commit_told_timed asked t)

rolled_back_timed : (asked : Asked) (state : PlainSession) (points : List (ℕ × ℕ)) (r : Option Reply) → IsTimed asked.moment (is_some r) (rolled_back asked state points r)
unfolding rolled_back
rolled_back_timed asked state points r = record { later = omega arith; most = λ cap days below. below; replies = refl }

rollback_timed : (asked : Asked) → Gives (IsTimed asked.moment true) (rollback_effect asked)
unfolding rollback_effect
rollback_timed asked = due_gives _ event.Rollback asked _ (λ due. rolled_back_timed asked (session_done asked) (own_point_now asked) (Some reply.Ok))

defined_timed : (asked : Asked) (request : Request) → Gives (IsTimed asked.moment true) (defined_by asked request)
unfolding ended_with
defined_timed asked (Defines d) = gives_map _ _ (definition_changes asked d) (λ changes e. record { later = omega arith; most = λ cap days below. below; replies = refl })
defined_timed asked _ = tt

define_timed : (asked : Asked) (t : Told) → Gives (IsTimed asked.moment true) (define_effect asked t)
unfolding define_effect
define_timed asked t =
    due_gives _ event.Define asked _ (λ due.
    told_timed asked (defined_by asked (request_asked asked)) (memory_effect asked) (λ _. true) (λ number. refl) (λ free. defined_timed asked (request_asked asked)) (ended_timed asked reply.Memory) t)

-- a wait is refused where it would pass the end of the calendar
within_days : (moment : ℕ) (test : Bool) (waits : ℕ) → test ≡ nat_lt last_moment (moment + waits) → where_true test refusal.ClockEnd ≡ None → moment + waits ≤ last_moment
within_days moment true waits e free = absurd (none-some refusal.ClockEnd (sym free))
within_days moment false waits e free = omega (arith, ltb-false last_moment (moment + waits) (sym e))

waited_timed : (asked : Asked) (request : Request) → where_true (passes_end asked.moment request) refusal.ClockEnd ≡ None → Gives (IsTimed asked.moment true) (waited_by asked request)
unfolding ended_with
waited_timed asked (Waits w) free =
    let inside = within_days asked.moment (passes_end asked.moment (Waits w)) (wait_length w) refl free in
    record { later = omega arith; most = λ cap days below. omega (arith, inside, days); replies = refl }
waited_timed asked _ free = tt

wait_timed : (asked : Asked) (t : Told) → Gives (IsTimed asked.moment true) (wait_effect asked t)
unfolding wait_effect
wait_timed asked t =
    due_gives _ event.Wait asked _ (λ due.
    told_timed asked (waited_by asked (request_asked asked)) None (λ _. true) (λ number. refl) (λ free. waited_timed asked (request_asked asked) (is_free asked free).clock) tt t)

reported_timed : (asked : Asked) (numbers : List ℕ) (request : Request) → Gives (IsTimed asked.moment true) (reported_by asked numbers request)
reported_timed asked numbers (Tells t) = gives_map _ _ (report_rows asked numbers t) (λ rows e. ended_timed asked (reply.Rows rows))
reported_timed asked numbers _ = tt

report_told_timed : (asked : Asked) (t : Told) (numbers : List ℕ) → Gives (IsTimed asked.moment true) (report_told asked t numbers)
report_told_timed asked told.Done numbers =
    told_timed asked (reported_by asked numbers (request_asked asked)) None (λ _. true) (λ number. refl) (λ free. reported_timed asked numbers (request_asked asked)) tt told.Done
report_told_timed asked (told.Refused number) numbers =
    gives_if _ (length numbers == 0) _ (λ test. told_timed asked None None (λ _. true) (λ k. refl) (λ free. tt) tt (told.Refused number))
report_told_timed asked told.Memory numbers = gives_if _ (length numbers == 0) _ (λ test. ended_timed asked reply.Memory)

report_timed : (asked : Asked) (t : Told) (numbers : List ℕ) → Gives (IsTimed asked.moment true) (report_effect asked t numbers)
unfolding report_effect
report_timed asked t numbers = due_gives _ event.Report asked _ (λ due. report_told_timed asked t numbers)

-- ---- entries of sessions

module _ (carried : Carried) (program : Script) (store : Plain) (session index : ℕ) where
  -- an entry has a reply where it ends a statement that there is
  abbrev Timed : EntryKind → Effect → Type 0
  Timed k effect = IsTimed (store.moment + 1) (ends_one_of (statement_read carried program session index) k) effect

  next_timed : (k : EntryKind) (f : Asked → Option Effect)
      → ((read : Result Statement ℕ) → Gives (IsTimed (store.moment + 1) (ends_statement (request_of read) k)) (f (asked_with program store session index read)))
      → Gives (Timed k) (of_next carried program store session index f)
  next_timed k f gives =
      next_gives carried program store session index (Timed k) f (λ state read turn idle.
      subst (λ (r : Option (Result Statement ℕ)). Gives (IsTimed (store.moment + 1) (ends_one_of r k)) (f (asked_with program store session index read))) (sym turn.said) (gives read))

  open_timed : (k : EntryKind) (f : Asked × PlainOpen → Option Effect)
      → ((read : Result Statement ℕ) (seen : PlainOpen) → Gives (IsTimed (store.moment + 1) (ends_statement (request_of read) k)) (f (asked_with program store session index read, seen)))
      → Gives (Timed k) (of_open carried program store session index f)
  open_timed k f gives =
      open_gives carried program store session index (Timed k) f (λ state read seen at said running counted.
      subst (λ (r : Option (Result Statement ℕ)). Gives (IsTimed (store.moment + 1) (ends_one_of r k)) (f (asked_with program store session index read, seen))) (sym said) (gives read seen))

  -- behind the last statement there is none
  none_behind : (lines : Option SessionText) (done : ℕ) → done ≡ count_in lines → option_map (λ span. carried_out carried (statement_of (text_at program span))) (option_and_then (λ l. slice_get l.statements ((done + 1) - 1)) lines) ≡ None
  none_behind None done e = refl
  none_behind (Some lines) done e =
      rw (slice_get_past lines.statements (done + 1 - 1) (omega (arith, e))) refl

  unread : (done : ℕ) → done ≡ count_in (slice_get program.sessions session) → index ≡ done + 1 → statement_read carried program session index ≡ None
  unfolding statement_read
  unread done e counted =
      subst (λ (i : ℕ). option_map (λ span. carried_out carried (statement_of (text_at program span))) (span_of program session (i - 1)) ≡ None) (sym counted) (none_behind (slice_get program.sessions session) done e)

  closing_timed : Gives (Timed kind.Rollback) (closing_effect program store session index)
  unfolding closing_effect
  closing_timed =
      gives_bind _ (slice_get store.sessions session) _ (λ state at.
      gives_tested _ (has_ended_statements program session state && index == state.done + 1) state _ (λ test.
      gives_tested _ state.transaction state _ (λ in_transaction.
      let both = and_parts (has_ended_statements program session state) (index == state.done + 1) test in
      let ended = and_parts (is_none state.running) (state.done == count_in (slice_get program.sessions session)) both.0 in
      subst (λ (r : Option (Result Statement ℕ)). IsTimed (store.moment + 1) (ends_one_of r kind.Rollback) (rolled_back (asked_with program store session index (Err 0)) state [] None))
      (sym (unread state.done (same_number _ _ ended.1) (same_number _ _ both.1)))
      (rolled_back_timed (asked_with program store session index (Err 0)) state [] None))))

  session_timed : (k : EntryKind) → Gives (Timed k) (session_entry carried program store session index k)
  unfolding session_entry
  session_timed (kind.Begin t) = next_timed (kind.Begin t) _ (λ read. begin_timed (asked_with program store session index read) t)
  session_timed (kind.Start t) = next_timed (kind.Start t) _ (λ read. start_timed (asked_with program store session index read) t)
  session_timed (kind.End gone added) = open_timed (kind.End gone added) _ (λ read seen. end_timed (asked_with program store session index read) seen gone added)
  session_timed (kind.Abandon t) = open_timed (kind.Abandon t) _ (λ read seen. abandon_timed (asked_with program store session index read) seen t)
  session_timed (kind.Commit t) = next_timed (kind.Commit t) _ (λ read. commit_timed (asked_with program store session index read) t)
  session_timed kind.Rollback =
      gives_or _ (of_next carried program store session index rollback_effect) _ (next_timed kind.Rollback rollback_effect (λ read. rollback_timed (asked_with program store session index read))) closing_timed
  session_timed (kind.Define t) = next_timed (kind.Define t) _ (λ read. define_timed (asked_with program store session index read) t)
  session_timed (kind.Wait t) = next_timed (kind.Wait t) _ (λ read. wait_timed (asked_with program store session index read) t)
  session_timed (kind.Report t numbers) = next_timed (kind.Report t numbers) _ (λ read. report_timed (asked_with program store session index read) t numbers)
  session_timed (kind.RecluStart table parts) = tt
  session_timed (kind.RecluEnd table gone added) = tt
  session_timed (kind.RecluMiss table why) = tt
  session_timed (kind.Purge parts) = tt
  session_timed kind.Close = tt

-- ---- entries of workers

worker_timed : (store : Plain) (changes : List TallyChange) → IsTimed (store.moment + 1) false (worker_effect store changes)
worker_timed store changes = record { later = omega arith; most = λ cap days below. below; replies = refl }

round_timed : (store : Plain) (index : ℕ) (k : EntryKind) → Gives (IsTimed (store.moment + 1) false) (round_entry store index k)
unfolding round_entry round_start_effect round_end_effect round_miss_effect
round_timed store index (kind.RecluStart number parts) =
    gives_tested _ (is_none store.tally.round && index == store.tally.rounds + 1) index _ (λ next.
    gives_bind _ (table_numbered store number) _ (λ table there.
    gives_tested _ (may_be_reclustered store table && may_take store.tally number parts) table _ (λ free.
    gives_bind _ table.key _ (λ key has_key. worker_timed store _))))
round_timed store index (kind.RecluEnd table gone added) =
    gives_bind _ (round_of store index table) _ (λ round there.
    gives_tested _ (is_none (miss_of store round) && lands_with store.tally round gone added) round _ (λ lands. worker_timed store _))
round_timed store index (kind.RecluMiss table why) =
    gives_bind _ (round_of store index table) _ (λ round there.
    gives_tested _ (may_miss (miss_of store round) why) round _ (λ missed. worker_timed store _))
round_timed store index _ = tt

purge_timed : (store : Plain) (index : ℕ) (k : EntryKind) → Gives (IsTimed (store.moment + 1) false) (purge_entry store index k)
unfolding purge_entry purge_effect
purge_timed store index (kind.Purge parts) = gives_when _ (index == store.tally.purges + 1 && may_purge store parts) _ (λ test. worker_timed store _)
purge_timed store index _ = tt

actor_timed : (carried : Carried) (program : Script) (store : Plain) (entry : Entry) (a : Actor)
    → Gives (IsTimed (store.moment + 1) (carries_reply carried program entry a)) (actor_entry carried program store a entry.index entry.kind)
actor_timed carried program store entry (actor.Session session) = session_timed carried program store session entry.index entry.kind
actor_timed carried program store entry actor.Recluster = round_timed store entry.index entry.kind
actor_timed carried program store entry actor.Purge = purge_timed store entry.index entry.kind

pub effect_timed : (carried : Carried) (program : Script) (store : Plain) (entry : Entry)
    → Gives (IsTimed (store.moment + 1) (carries_reply carried program entry entry.actor)) (effect_of carried program store entry)
unfolding effect_of
effect_timed carried program store entry =
    gives_bind _ (actor_entry carried program store entry.actor entry.index entry.kind) _ (λ effect e.
    gives_when _ (effect.moment == entry.moment) effect (λ test.
    gives_at _ (actor_entry carried program store entry.actor entry.index entry.kind) effect (actor_timed carried program store entry entry.actor) e))

-- ---- the laws

pub replies_stand : RepliesStandAtEnds
unfolding step_of
replies_stand carried program store entry next e =
    let found = map_some (λ (effect : Effect). (applied store effect, effect.reply)) (effect_of carried program store entry) next e in
    let timed = gives_at _ (effect_of carried program store entry) found.0 (effect_timed carried program store entry) found.1 in
    ap (λ (n : Plain × Option Reply). is_some n.1) (sym found.2) ∙ timed.replies

-- a step's moment
pub step_moment : (carried : Carried) (program : Script) (store : Plain) (entry : Entry) (next : Plain × Option Reply) (cap : ℕ)
    → step_of carried program store entry ≡ Some next → last_moment ≤ cap → store.moment + 1 ≤ cap → next.0.moment ≤ cap
unfolding step_of applied
step_moment carried program store entry next cap e days below =
    let found = map_some (λ (effect : Effect). (applied store effect, effect.reply)) (effect_of carried program store entry) next e in
    let timed = gives_at _ (effect_of carried program store entry) found.0 (effect_timed carried program store entry) found.1 in
    subst (λ (n : Plain × Option Reply). n.0.moment ≤ cap) found.2 (timed.most cap days below)

pub replay_none : (carried : Carried) (program : Script) (entries : List Entry) → replay_from carried program None entries ≡ None
unfolding replay_from
replay_none carried program [] = refl
replay_none carried program (entry ∷ entries) = replay_none carried program entries

run_in_time : (carried : Carried) (program : Script) (before run : Run) (passed : ℕ) (entries : List Entry) → before.0.moment ≤ last_moment + passed
    → replay_from carried program (Some before) entries ≡ Some run → run.0.moment ≤ last_moment + (passed + length entries)
unfolding replay_from
run_in_time carried program before run passed [] now e = subst (λ (r : Run). r.0.moment ≤ last_moment + (passed + 0)) (same_Some before run e) (omega (arith, now))
run_in_time carried program before run passed (entry ∷ entries) now e =
    goes (λ next here f. run_in_time carried program next run (passed + 1) entries here f) (step_of carried program before.0 entry) refl e
  where
    goes : ((next : Run) → next.0.moment ≤ last_moment + (passed + 1) → replay_from carried program (Some next) entries ≡ Some run → run.0.moment ≤ last_moment + (passed + 1 + length entries))
        → (step : Option (Plain × Option Reply)) → step_of carried program before.0 entry ≡ step
        → replay_from carried program (step >>= λ next. Some (next.0, before.1 ++ next.1 ∷ [])) entries ≡ Some run → run.0.moment ≤ last_moment + (passed + length (entry ∷ entries))
    goes behind None is f = absurd (none-some run (sym (replay_none carried program entries) ∙ f))
    goes behind (Some next) is f =
        omega (arith, behind (next.0, before.1 ++ next.1 ∷ []) (step_moment carried program before.0 entry next (last_moment + (passed + 1)) is (omega arith) (omega (arith, now))) f)

pub legal_in_time : LegalStaysInTime
unfolding replay_of empty_store
legal_in_time carried program history run start e =
    subst (λ (n : ℕ). run.0.moment ≤ last_moment + n) (omega arith) (run_in_time carried program (empty_store program, []) run 0 history (omega (arith, start)) e)
