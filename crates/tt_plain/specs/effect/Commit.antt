-- The commit of a transaction, and of a single change: the rows that are pending become a version of their table.
use Rattle.std.specs.Prelude.{List, None, Option, Some, [], false, flat_map, if◌then◌else◌, length, map, ℕ, ◌&&◌, ◌++◌, ◌==◌, ◌∷◌}
use Rattle.tt_history.specs.declared.history.Told.{Told}
use Rattle.tt_plain.specs.declared.store.Plain.{Plain}
use Rattle.tt_plain.specs.declared.store.PlainPending.{PlainPending}
use Rattle.tt_plain.specs.declared.store.PlainSession.{PlainSession}
use Rattle.tt_plain.specs.declared.store.PlainTable.{PlainTable}
use Rattle.tt_plain.specs.Answers.{◌>>=◌}
use Rattle.tt_plain.specs.asked.Asked.{Asked, own_point, request_asked, state_asked}
use Rattle.tt_plain.specs.asked.Request.{Commits, Defines, Request}
use Rattle.tt_plain.specs.effect.Effect.{Effect, NewVersion, TableChange}
use Rattle.tt_plain.specs.effect.Ending.{memory_effect, own_point_now, session_done, where_due}
use Rattle.tt_plain.specs.opening.Seen.{rows_with}
use Rattle.tt_plain.specs.stored.Points.{no_point_yet, waiting_places}
use Rattle.tt_plain.specs.stored.Tables.{current_rows, table_numbered}
use Rattle.tt_plain.specs.tally.Changes.{EndsPending}
use Rattle.tt_plain.specs.tally.Pending.{layouts_committed}
use Rattle.tt_plain.specs.asked.Event as event
use Rattle.tt_history.specs.declared.reply.Reply.TheVariants as reply
use Rattle.tt_history.specs.declared.history.Told.TheVariants as told

abbrev pub version_begun : ℕ → PlainPending → Option PlainTable → List TableChange
version_begun moment pending None = []
version_begun moment pending (Some table) = NewVersion table.number moment (rows_with (current_rows table) pending) ∷ []

-- a version begins unless nothing is pending
abbrev pub version_committed : Plain → ℕ → PlainPending → List TableChange
version_committed store moment pending =
    if length pending.gone == 0 && length pending.added == 0 then []
    else version_begun moment pending (table_numbered store pending.table)

abbrev pub session_committed : PlainSession → PlainSession
session_committed state = record state { transaction = false; pending = []; marks = [] }

-- the statements of the transaction have its end as their point
abbrev pub points_settled : Asked → List (ℕ × ℕ)
points_settled asked = map (λ place. (place, asked.moment)) (waiting_places asked.program asked.store asked.session)

-- all that is pending of the session begins at once, and the transaction and the session's marks end
unfoldable pub committed : Asked → Effect
committed asked =
    record {
      session = Some (asked.session, session_committed (state_asked asked));
      tables = flat_map (version_committed asked.store asked.moment) (state_asked asked).pending;
      points = points_settled asked;
      tally = layouts_committed asked.store.tally asked.moment asked.session ++ EndsPending asked.session ∷ [];
      moment = asked.moment;
      reply = None;
    }

-- the statement COMMIT
abbrev pub commit_done : Asked → Effect
commit_done asked =
    record (committed asked) {
      session = Some (asked.session, session_committed (session_done asked));
      points = points_settled asked ++ own_point_now asked;
      reply = Some reply.Ok;
    }

-- the commit in front of a definition, which has an entry then and no point
abbrev pub commit_before : Asked → Effect
commit_before asked = record (committed asked) { points = points_settled asked ++ (own_point asked, no_point_yet) ∷ [] }

abbrev pub committed_by : Asked → Request → Option Effect
committed_by asked Commits = Some (commit_done asked)
committed_by asked (Defines d) = Some (commit_before asked)
committed_by asked _ = None

-- A commit is never refused. Where it finds no memory its statement ends with that, and the transaction stays open.
abbrev pub commit_told : Asked → Told → Option Effect
commit_told asked told.Done = committed_by asked (request_asked asked)
commit_told asked (told.Refused number) = None
commit_told asked told.Memory = memory_effect asked

unfoldable pub commit_effect : Asked → Told → Option Effect
commit_effect asked told = do
  due ← where_due event.Commit asked
  commit_told due told
