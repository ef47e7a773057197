-- Which entries carry a reply: those by which a statement ends.
use Rattle.std.specs.Prelude.{Bool, None, Option, Result, Some, false, not, true, ℕ}
use Rattle.tt_script.specs.declared.script.Script.{Script}
use Rattle.tt_sql.specs.declared.statement.Statement.{Statement}
use Rattle.tt_history.specs.declared.history.Actor.{Actor}
use Rattle.tt_history.specs.declared.history.Entry.{Entry}
use Rattle.tt_history.specs.declared.history.EntryKind.{EntryKind}
use Rattle.tt_history.specs.declared.history.Told.{Told}
use Rattle.tt_plain.specs.asked.Carried.{Carried}
use Rattle.tt_plain.specs.asked.Request.{Begins, Commits, Defines, Reads, Request, RollsBack, Tells, Unreadable, Waits, Writes, request_of}
use Rattle.tt_plain.specs.asked.Turns.{statement_read}
use Rattle.tt_history.specs.declared.history.Actor.TheVariants as actor
use Rattle.tt_history.specs.declared.history.EntryKind.TheVariants as kind
use Rattle.tt_history.specs.declared.history.Told.TheVariants as told

-- a commit in front of a definition ends none
abbrev pub is_definition : Request → Bool
is_definition (Unreadable place) = false
is_definition (Reads q) = false
is_definition (Writes d) = false
is_definition (Defines d) = true
is_definition (Tells t) = false
is_definition Begins = false
is_definition Commits = false
is_definition RollsBack = false
is_definition (Waits w) = false

abbrev pub commit_ends : Request → Told → Bool
commit_ends request told.Done = not (is_definition request)
commit_ends request (told.Refused number) = true
commit_ends request told.Memory = true

abbrev pub start_ends : Told → Bool
start_ends told.Done = false
start_ends (told.Refused number) = true
start_ends told.Memory = true

-- an entry of a statement
abbrev pub ends_statement : Request → EntryKind → Bool
ends_statement request (kind.Begin told) = true
ends_statement request (kind.Start told) = start_ends told
ends_statement request (kind.End gone added) = true
ends_statement request (kind.Abandon told) = true
ends_statement request (kind.Commit told) = commit_ends request told
ends_statement request kind.Rollback = true
ends_statement request (kind.Define told) = true
ends_statement request (kind.Wait told) = true
ends_statement request (kind.Report told numbers) = true
ends_statement request (kind.RecluStart table parts) = false
ends_statement request (kind.RecluEnd table gone added) = false
ends_statement request (kind.RecluMiss table why) = false
ends_statement request (kind.Purge parts) = false
ends_statement request kind.Close = false

-- The rollback behind a session's last statement is an entry of none, and no worker's entry is one of a statement.
abbrev pub ends_one_of : Option (Result Statement ℕ) → EntryKind → Bool
ends_one_of None k = false
ends_one_of (Some read) k = ends_statement (request_of read) k

abbrev pub carries_reply : Carried → Script → Entry → Actor → Bool
carries_reply carried program entry (actor.Session session) = ends_one_of (statement_read carried program session entry.index) entry.kind
carries_reply carried program entry actor.Recluster = false
carries_reply carried program entry actor.Purge = false
