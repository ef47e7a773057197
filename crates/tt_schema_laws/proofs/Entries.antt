-- Each entry that is allowed makes only tables with columns.
use Rattle.std.specs.Prelude.{Bool, Err, List, None, Ok, Option, Result, Some, false, if◌then◌else◌, is_none, length, refl, slice_get, true, ℕ, ◌&&◌, ◌+◌, ◌-◌, ◌==◌, ◌≡◌}
use Rattle.std.proofs.Common.{subst, ◌∙◌}
use Rattle.tt_history.specs.declared.history.Actor.{Actor}
use Rattle.tt_history.specs.declared.history.Actor.TheVariants as actor
use Rattle.tt_history.specs.declared.history.Added.{Added}
use Rattle.tt_history.specs.declared.history.Entry.{Entry}
use Rattle.tt_history.specs.declared.history.EntryKind.{EntryKind}
use Rattle.tt_history.specs.declared.history.EntryKind.TheVariants as kind
use Rattle.tt_history.specs.declared.history.Told.{Told}
use Rattle.tt_history.specs.declared.history.Told.TheVariants as told
use Rattle.tt_history.specs.declared.reply.Refusal.{Refusal}
use Rattle.tt_script.specs.Program.{span_of, text_at}
use Rattle.tt_script.specs.declared.script.Script.{Script}
use Rattle.tt_sql.specs.declared.change.Dml.{Dml}
use Rattle.tt_sql.specs.declared.statement.Statement.{Statement}
use Rattle.tt_sql.specs.text.StatementOf.{statement_of}
use Rattle.tt_sql.proofs.text.StatementOf.{is_text_of}
use Rattle.tt_value.specs.declared.value.Row.{Row}
use Rattle.tt_plain.proofs.Answers.{bind_some, map_some, only_if_some}
use Rattle.tt_plain.proofs.Tests.{none_is}
use Rattle.tt_plain.proofs.law.Free.{is_free}
use Rattle.tt_plain.proofs.law.Gives.{Gives, gives_at, gives_bind, gives_if, gives_map, gives_or, gives_tested, gives_when}
use Rattle.tt_plain.proofs.law.Turns.{due_gives, next_gives, open_gives}
use Rattle.tt_plain.specs.asked.Asked.{Asked, request_asked, state_asked}
use Rattle.tt_plain.specs.asked.Carried.{Carried}
use Rattle.tt_plain.specs.asked.Event as event
use Rattle.tt_plain.specs.asked.Request.{Commits, Defines, Reads, Request, Tells, Waits, Writes}
use Rattle.tt_plain.specs.asked.Turns.{asked_with, carried_out, statement_read}
use Rattle.tt_plain.specs.declared.store.Plain.{Plain}
use Rattle.tt_plain.specs.declared.store.PlainOpen.{PlainOpen}
use Rattle.tt_plain.specs.definition.Changes.{definition_changes}
use Rattle.tt_plain.specs.effect.Abandon.{abandon_effect, failure}
use Rattle.tt_plain.specs.effect.Begin.{begin_effect}
use Rattle.tt_plain.specs.effect.Commit.{commit_effect, committed, committed_by}
use Rattle.tt_plain.specs.effect.Define.{define_effect, defined, defined_by}
use Rattle.tt_plain.specs.effect.Effect.{Effect}
use Rattle.tt_plain.specs.effect.End.{EntryFacts, are_facts_of, committed_alone, count_reply, end_effect, ended_as, kept, pending_after}
use Rattle.tt_plain.specs.effect.Ending.{ended_with, refused_effect, told_effect}
use Rattle.tt_plain.specs.effect.Landing.{lands_with, round_end_effect}
use Rattle.tt_plain.specs.effect.Miss.{may_miss, round_miss_effect}
use Rattle.tt_plain.specs.effect.Purge.{may_purge, purge_effect}
use Rattle.tt_plain.specs.effect.Report.{report_effect, reported_by}
use Rattle.tt_plain.specs.effect.Rollback.{closing_effect, has_ended_statements, rollback_effect, rolled_back}
use Rattle.tt_plain.specs.effect.Round.{may_be_reclustered, miss_of, round_of}
use Rattle.tt_plain.specs.effect.RoundStart.{may_take, round_start_effect}
use Rattle.tt_plain.specs.effect.Start.{begun_by, start_effect}
use Rattle.tt_plain.specs.effect.Wait.{wait_effect, waited_by}
use Rattle.tt_plain.specs.history.Step.{actor_entry, effect_of, of_next, of_open, purge_entry, round_entry, session_entry}
use Rattle.tt_plain.specs.law.Lists.{Every}
use Rattle.tt_plain.specs.meaning.Outcome.{Answers, Does, Outcome, outcome_of}
use Rattle.tt_plain.specs.opening.Opened.{change_opened, query_opened}
use Rattle.tt_plain.specs.refusal.First.{refusal_of}
use Rattle.tt_plain.specs.report.Rows.{report_rows}
use Rattle.tt_plain.specs.stored.Tables.{table_numbered}
use Rattle.tt_plain.specs.text.RefusalTable.{refusal_number}
use Rattle.tt_schema_laws.specs.Columns.{HasColumns}
use Rattle.tt_schema_laws.proofs.Changes.{MakesColumns, version_makes, versions_make}
use Rattle.tt_schema_laws.proofs.Definitions.{IsWrittenRead, MakesDefined, definition_makes}

-- ---- effects that make no table

module _ (asked : Asked) where
  refused_makes : (given : Option Refusal) (number : ℕ) → Gives MakesColumns (refused_effect asked given number)
  unfolding refused_effect ended_with
  refused_makes given number = gives_bind MakesColumns given _ (λ refusal is. gives_tested MakesColumns (refusal_number refusal == number) refusal _ (λ same. tt))

  told_makes : (t : Told) (accepted starved : Option Effect) → (refusal_of asked ≡ None → Gives MakesColumns accepted) → Gives MakesColumns starved → Gives MakesColumns (told_effect asked t accepted starved)
  unfolding told_effect
  told_makes told.Done accepted starved free none = gives_if MakesColumns (is_none (refusal_of asked)) accepted (λ test. free (none_is (refusal_of asked) test))
  told_makes (told.Refused number) accepted starved free none = refused_makes (refusal_of asked) number
  told_makes told.Memory accepted starved free none = none

  begun_makes : (request : Request) → Gives MakesColumns (begun_by asked request)
  begun_makes (Reads q) = gives_map MakesColumns _ (query_opened asked q) (λ state is. tt)
  begun_makes (Writes d) = gives_map MakesColumns _ (change_opened asked d) (λ state is. tt)
  begun_makes _ = tt

  start_makes : (t : Told) → Gives MakesColumns (start_effect asked t)
  unfolding start_effect ended_with
  start_makes t = due_gives MakesColumns event.Start asked _ (λ due. told_makes t _ _ (λ free. begun_makes (request_asked asked)) tt)

  begin_makes : (t : Told) → Gives MakesColumns (begin_effect asked t)
  unfolding begin_effect ended_with
  begin_makes t = due_gives MakesColumns event.Begin asked _ (λ due. told_makes t _ _ (λ free. tt) tt)

  waited_makes : (request : Request) → Gives MakesColumns (waited_by asked request)
  unfolding ended_with
  waited_makes (Waits w) = tt
  waited_makes _ = tt

  wait_makes : (t : Told) → Gives MakesColumns (wait_effect asked t)
  unfolding wait_effect
  wait_makes t = due_gives MakesColumns event.Wait asked _ (λ due. told_makes t _ _ (λ free. waited_makes (request_asked asked)) tt)

  reported_makes : (numbers : List ℕ) (request : Request) → Gives MakesColumns (reported_by asked numbers request)
  unfolding ended_with
  reported_makes numbers (Tells t) = gives_map MakesColumns _ (report_rows asked numbers t) (λ rows is. tt)
  reported_makes numbers _ = tt

  report_makes : (t : Told) (numbers : List ℕ) → Gives MakesColumns (report_effect asked t numbers)
  unfolding report_effect ended_with
  report_makes told.Done numbers = due_gives MakesColumns event.Report asked _ (λ due. told_makes told.Done _ _ (λ free. reported_makes numbers (request_asked asked)) tt)
  report_makes (told.Refused number) numbers = due_gives MakesColumns event.Report asked _ (λ due. gives_if MakesColumns (length numbers == 0) _ (λ none. told_makes (told.Refused number) None None (λ free. tt) tt))
  report_makes told.Memory numbers = due_gives MakesColumns event.Report asked _ (λ due. gives_if MakesColumns (length numbers == 0) _ (λ none. tt))

  committed_makes : (request : Request) → Gives MakesColumns (committed_by asked request)
  unfolding committed
  committed_makes Commits = versions_make asked.store asked.moment (state_asked asked).pending
  committed_makes (Defines d) = versions_make asked.store asked.moment (state_asked asked).pending
  committed_makes _ = tt

  commit_makes : (t : Told) → Gives MakesColumns (commit_effect asked t)
  unfolding commit_effect ended_with
  commit_makes told.Done = due_gives MakesColumns event.Commit asked _ (λ due. committed_makes (request_asked asked))
  commit_makes (told.Refused number) = due_gives MakesColumns event.Commit asked _ (λ due. tt)
  commit_makes told.Memory = due_gives MakesColumns event.Commit asked _ (λ due. tt)

  rollback_makes : Gives MakesColumns (rollback_effect asked)
  unfolding rollback_effect rolled_back
  rollback_makes = due_gives MakesColumns event.Rollback asked _ (λ due. tt)

  defined_makes : (request : Request) → request_asked asked ≡ request → Every HasColumns asked.store.tables → IsWrittenRead asked.read → refusal_of asked ≡ None → Gives MakesColumns (defined_by asked request)
  unfolding ended_with
  defined_makes (Defines d) e all written free =
      gives_map MakesColumns (defined asked) (definition_changes asked d) (λ changes is.
      gives_at (MakesDefined asked all) (definition_changes asked d) changes (definition_makes asked all (is_free asked free).counts written d e) is)
  defined_makes _ e all written free = tt

  define_makes : (t : Told) → Every HasColumns asked.store.tables → IsWrittenRead asked.read → Gives MakesColumns (define_effect asked t)
  unfolding define_effect ended_with
  define_makes t all written =
      due_gives MakesColumns event.Define asked _ (λ due. told_makes t _ _ (λ free. defined_makes (request_asked asked) refl all written free) tt)

  -- ---- ends

  changed_makes : (d : Dml) (table count : ℕ) (removed added : List Row) (facts : EntryFacts) (transaction : Bool) → MakesColumns (if transaction then kept asked (pending_after (state_asked asked) table removed added) table facts (count_reply d count) else committed_alone asked (pending_after (state_asked asked) table removed added) table facts (count_reply d count))
  unfolding kept committed_alone
  changed_makes d table count removed added facts true = tt
  changed_makes d table count removed added facts false = version_makes asked.store asked.moment (pending_after (state_asked asked) table removed added)

  ended_makes : (request : Request) (outcome : Outcome) (facts : EntryFacts) → Gives MakesColumns (ended_as asked request outcome facts)
  ended_makes (Reads q) (Answers rows) facts = gives_when MakesColumns (length facts.0 == 0 && length facts.1 == 0) _ (λ test. tt)
  ended_makes (Writes d) (Does table removed added count) facts =
      gives_when MakesColumns (are_facts_of asked table d removed added facts) _ (λ test. changed_makes d table count removed added facts (state_asked asked).transaction)
  ended_makes _ _ facts = tt

  module _ (seen : PlainOpen) where
    end_makes : (gone : List ℕ) (added : List Added) → Gives MakesColumns (end_effect (asked, seen) gone added)
    unfolding end_effect
    end_makes gone added = gives_bind MakesColumns (outcome_of asked seen) _ (λ outcome is. ended_makes (request_asked asked) outcome (gone, added))

    abandon_makes : (t : Told) → Gives MakesColumns (abandon_effect (asked, seen) t)
    unfolding abandon_effect ended_with
    abandon_makes told.Done = tt
    abandon_makes (told.Refused number) =
        gives_bind MakesColumns (outcome_of asked seen) _ (λ outcome is.
        gives_bind MakesColumns (refused_effect asked (failure outcome) number) _ (λ effect same. gives_at MakesColumns (refused_effect asked (failure outcome) number) effect (refused_makes (failure outcome) number) same))
    abandon_makes told.Memory = tt

-- ---- entries

module _ (store : Plain) where
  round_makes : (index : ℕ) (k : EntryKind) → Gives MakesColumns (round_entry store index k)
  unfolding round_entry round_start_effect round_end_effect round_miss_effect
  round_makes index (kind.RecluStart number parts) =
      gives_tested MakesColumns (is_none store.tally.round && index == store.tally.rounds + 1) index _ (λ next.
      gives_bind MakesColumns (table_numbered store number) _ (λ table there.
      gives_tested MakesColumns (may_be_reclustered store table && may_take store.tally number parts) table _ (λ free.
      gives_bind MakesColumns table.key _ (λ key has_key. tt))))
  round_makes index (kind.RecluEnd table gone added) =
      gives_bind MakesColumns (round_of store index table) _ (λ round there.
      gives_tested MakesColumns (is_none (miss_of store round) && lands_with store.tally round gone added) round _ (λ lands. tt))
  round_makes index (kind.RecluMiss table why) =
      gives_bind MakesColumns (round_of store index table) _ (λ round there.
      gives_tested MakesColumns (may_miss (miss_of store round) why) round _ (λ missed. tt))
  round_makes index _ = tt

  purge_makes : (index : ℕ) (k : EntryKind) → Gives MakesColumns (purge_entry store index k)
  unfolding purge_entry purge_effect
  purge_makes index (kind.Purge parts) = gives_when MakesColumns (index == store.tally.purges + 1 && may_purge store parts) _ (λ test. tt)
  purge_makes index _ = tt

-- what is read of a text is a statement that the grammar gives
ok_carried : (carried : Carried) (read : Result Statement ℕ) (s : Statement) → carried_out carried read ≡ Ok s → read ≡ Ok s
ok_carried carried (Err place) s e = cc
ok_carried carried (Ok other) s e = ok_if (carried.statements other) other s e
  where
    ok_if : (test : Bool) (other s : Statement) → if◌then◌else◌ {A = Result Statement ℕ} test (Ok other) (Err 0) ≡ Ok s → ◌≡◌ {A = Result Statement ℕ} (Ok other) (Ok s)
    ok_if true other s e = e
    ok_if false other s e = cc

read_written : (carried : Carried) (program : Script) (session index : ℕ) (read : Result Statement ℕ) → statement_read carried program session index ≡ Some read → IsWrittenRead read
unfolding statement_read
read_written carried program session index read said s is =
    let span = map_some (λ span. carried_out carried (statement_of (text_at program span))) (span_of program session (index - 1)) read said in
    (is_text_of (text_at program span.0) s (ok_carried carried (statement_of (text_at program span.0)) s (span.2 ∙ is))).written

module _ (carried : Carried) (program : Script) (store : Plain) (all : Every HasColumns store.tables) where
  module _ (session index : ℕ) where
    next_makes : (f : Asked → Option Effect) → ((read : Result Statement ℕ) → IsWrittenRead read → Gives MakesColumns (f (asked_with program store session index read))) → Gives MakesColumns (of_next carried program store session index f)
    next_makes f gives = next_gives carried program store session index MakesColumns f (λ state read turn idle. gives read (read_written carried program session index read turn.said))

    open_makes : (f : Asked × PlainOpen → Option Effect) → ((read : Result Statement ℕ) (seen : PlainOpen) → Gives MakesColumns (f (asked_with program store session index read, seen))) → Gives MakesColumns (of_open carried program store session index f)
    open_makes f gives = open_gives carried program store session index MakesColumns f (λ state read seen at said running counted. gives read seen)

    closing_makes : Gives MakesColumns (closing_effect program store session index)
    unfolding closing_effect rolled_back
    closing_makes =
        gives_bind MakesColumns (slice_get store.sessions session) _ (λ state at.
        gives_tested MakesColumns (has_ended_statements program session state && index == state.done + 1) state _ (λ test.
        gives_tested MakesColumns state.transaction state _ (λ in_transaction. tt)))

    session_makes : (k : EntryKind) → Gives MakesColumns (session_entry carried program store session index k)
    unfolding session_entry
    session_makes (kind.Begin t) = next_makes _ (λ read written. begin_makes (asked_with program store session index read) t)
    session_makes (kind.Start t) = next_makes _ (λ read written. start_makes (asked_with program store session index read) t)
    session_makes (kind.End gone added) = open_makes _ (λ read seen. end_makes (asked_with program store session index read) seen gone added)
    session_makes (kind.Abandon t) = open_makes _ (λ read seen. abandon_makes (asked_with program store session index read) seen t)
    session_makes (kind.Commit t) = next_makes _ (λ read written. commit_makes (asked_with program store session index read) t)
    session_makes kind.Rollback =
        gives_or MakesColumns (of_next carried program store session index rollback_effect) (closing_effect program store session index)
        (next_makes rollback_effect (λ read written. rollback_makes (asked_with program store session index read))) closing_makes
    session_makes (kind.Define t) = next_makes _ (λ read written. define_makes (asked_with program store session index read) t all written)
    session_makes (kind.Wait t) = next_makes _ (λ read written. wait_makes (asked_with program store session index read) t)
    session_makes (kind.Report t numbers) = next_makes _ (λ read written. report_makes (asked_with program store session index read) t numbers)
    session_makes (kind.RecluStart table parts) = tt
    session_makes (kind.RecluEnd table gone added) = tt
    session_makes (kind.RecluMiss table why) = tt
    session_makes (kind.Purge parts) = tt
    session_makes kind.Close = tt

  actor_makes : (actor_of : Actor) (index : ℕ) (k : EntryKind) → Gives MakesColumns (actor_entry carried program store actor_of index k)
  actor_makes (actor.Session session) index k = session_makes session index k
  actor_makes actor.Recluster index k = round_makes store index k
  actor_makes actor.Purge index k = purge_makes store index k

pub entry_makes : (carried : Carried) (program : Script) (store : Plain) (entry : Entry) (effect : Effect) → Every HasColumns store.tables → effect_of carried program store entry ≡ Some effect → MakesColumns effect
unfolding effect_of
entry_makes carried program store entry effect all e =
    let found = bind_some (actor_entry carried program store entry.actor entry.index entry.kind) _ effect e in
    let same = only_if_some (found.0.moment == entry.moment) found.0 effect found.2 in
    subst MakesColumns same.1 (gives_at MakesColumns (actor_entry carried program store entry.actor entry.index entry.kind) found.0 (actor_makes carried program store all entry.actor entry.index entry.kind) found.1)
