-- The end of a query or a change.
use Rattle.std.specs.List.{list_all}
use Rattle.std.specs.Prelude.{Bool, List, None, Option, Some, [], filter, if◌then◌else◌, length, nat_lt, unwrap_or, ℕ, ◌&&◌, ◌++◌, ◌+◌, ◌==◌, ◌∷◌}
use Rattle.tt_value.specs.declared.value.Row.{Row}
use Rattle.tt_value.specs.values.Bags.{bag_plus}
use Rattle.tt_sql.specs.declared.change.Dml.{Dml}
use Rattle.tt_history.specs.declared.history.Added.{Added}
use Rattle.tt_history.specs.declared.reply.Reply.{Reply}
use Rattle.tt_layout.specs.Numbers.{has}
use Rattle.tt_plain.specs.declared.store.PlainOpen.{PlainOpen}
use Rattle.tt_plain.specs.declared.store.PlainPending.{PlainPending}
use Rattle.tt_plain.specs.declared.store.PlainSession.{PlainSession}
use Rattle.tt_script.specs.Lines.{only_if}
use Rattle.tt_plain.specs.Answers.{◌>>=◌}
use Rattle.tt_plain.specs.asked.Asked.{Asked, request_asked, state_asked}
use Rattle.tt_plain.specs.asked.Request.{Reads, Request, Writes}
use Rattle.tt_plain.specs.effect.Commit.{version_committed}
use Rattle.tt_plain.specs.effect.Effect.{Effect}
use Rattle.tt_plain.specs.effect.Ending.{own_point_now, session_done, session_effect}
use Rattle.tt_plain.specs.meaning.Outcome.{Answers, Does, Outcome, outcome_of}
use Rattle.tt_plain.specs.opening.Marks.{marks_exclusively}
use Rattle.tt_plain.specs.opening.Seen.{pending_of}
use Rattle.tt_plain.specs.tally.Changes.{AddsParts, Keeps, Unpins}
use Rattle.tt_plain.specs.tally.Layouts.{is_ascending, parts_seen}
use Rattle.tt_plain.specs.tally.Parts.{are_next_parts, numbers_added, rows_in_added, rows_in_parts}
use Rattle.tt_plain.specs.tally.Pending.{layout_begun, lists_after}
use Rattle.tt_sql.specs.declared.change.Dml.TheVariants as dml
use Rattle.tt_history.specs.declared.reply.Reply.TheVariants as reply

-- ---- a query

-- In a transaction its point is that of the transaction's end.
abbrev pub point_of_end : Asked → List (ℕ × ℕ)
point_of_end asked = if (state_asked asked).transaction then [] else own_point_now asked

-- a query has no facts of parts
abbrev pub answered : Asked → List Row → Effect
answered asked rows =
    record (session_effect asked (session_done asked) (point_of_end asked) (Some (reply.Rows rows))) { tally = Unpins asked.session ∷ [] }

-- ---- a change

-- the facts that an entry tells of a change: the parts that are gone and those that are added
abbrev pub EntryFacts : Type 0
EntryFacts = List ℕ × List Added

-- an UPDATE or a DELETE may remove parts that the session sees of the table now, each once; an INSERT or a COPY none
abbrev pub may_remove : Asked → ℕ → Dml → List ℕ → Bool
may_remove asked table d gone =
    if marks_exclusively d then is_ascending gone && list_all (has (parts_seen asked.store.tally asked.session table)) gone
    else length gone == 0

-- The parts are changed by as many rows as the statement changes: those that are added have the rows of those that are
-- gone, less the removed rows, and the added ones.
unfoldable pub are_facts_of : Asked → ℕ → Dml → (removed added : List Row) → EntryFacts → Bool
are_facts_of asked table d removed added facts =
    may_remove asked table d facts.0 && are_next_parts asked.store.tally facts.1
    && rows_in_added facts.1 + length removed == rows_in_parts asked.store.tally facts.0 + length added

abbrev pub count_reply : Dml → ℕ → Reply
count_reply (dml.Insert i) count = reply.Inserted count
count_reply (dml.Update u) count = reply.Updated count
count_reply (dml.Delete d) count = reply.Deleted count
count_reply (dml.Copy c) count = reply.Inserted count

abbrev pub nothing_pending : ℕ → PlainPending
nothing_pending table = record { table = table; gone = []; added = [] }

-- what is pending of a table after one more change
abbrev pub pending_after : PlainSession → ℕ → (removed added : List Row) → PlainPending
pending_after state table removed added =
    let before = unwrap_or (pending_of state table) (nothing_pending table) in
    record { table = table; gone = bag_plus before.gone removed; added = bag_plus before.added added }

-- in ascending order of the tables
abbrev pub with_pending : PlainPending → List PlainPending → List PlainPending
with_pending pending all =
    filter (λ (other : PlainPending). nat_lt other.table pending.table) all ++ pending
    ∷ filter (λ (other : PlainPending). nat_lt pending.table other.table) all

-- In a transaction the change is pending. Its marks stay, and its point is still to come.
unfoldable pub kept : Asked → PlainPending → ℕ → EntryFacts → Reply → Effect
kept asked pending table facts reply =
    record (session_effect asked (record (session_done asked) { pending = with_pending pending (state_asked asked).pending }) [] (Some reply)) {
      tally =
          AddsParts table facts.1 ∷ Keeps (lists_after asked.store.tally asked.session table facts.0 (numbers_added facts.1))
          ∷ Unpins asked.session ∷ [];
    }

-- Outside a transaction the change is committed at once, and its mark ends.
unfoldable pub committed_alone : Asked → PlainPending → ℕ → EntryFacts → Reply → Effect
committed_alone asked pending table facts reply =
    record (session_effect asked (record (session_done asked) { marks = [] }) (own_point_now asked) (Some reply)) {
      tables = version_committed asked.store asked.moment pending;
      tally =
          AddsParts table facts.1 ∷ layout_begun asked.store.tally asked.moment table facts.0 (numbers_added facts.1)
          ++ Unpins asked.session ∷ [];
    }

abbrev pub changed_by : Asked → Dml → ℕ → (removed added : List Row) → ℕ → EntryFacts → Effect
changed_by asked d table removed added count facts =
    if (state_asked asked).transaction then kept asked (pending_after (state_asked asked) table removed added) table facts (count_reply d count)
    else committed_alone asked (pending_after (state_asked asked) table removed added) table facts (count_reply d count)

-- ---- both

-- what ends with a refusal is abandoned
abbrev pub ended_as : Asked → Request → Outcome → EntryFacts → Option Effect
ended_as asked (Reads q) (Answers rows) facts = only_if (length facts.0 == 0 && length facts.1 == 0) (answered asked rows)
ended_as asked (Writes d) (Does table removed added count) facts =
    only_if (are_facts_of asked table d removed added facts) (changed_by asked d table removed added count facts)
ended_as asked _ _ facts = None

unfoldable pub end_effect : Asked × PlainOpen → (gone : List ℕ) (added : List Added) → Option Effect
end_effect found gone added = do
  outcome ← outcome_of found.0 found.1
  ended_as found.0 (request_asked found.0) outcome (gone, added)
