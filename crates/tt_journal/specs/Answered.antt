-- The lines of entries whose statements were answered by a list of replies, in order.
use Rattle.std.specs.Prelude.{Bool, List, None, Option, [], drop, false, if◌then◌else◌, is_some, not, slice_get, true, ℕ, ◌&&◌, ◌++◌, ◌-◌, ◌==◌, ◌∷◌}
use Rattle.tt_script.specs.Program.{span_of}
use Rattle.tt_script.specs.declared.script.Script.{Script}
use Rattle.tt_history.specs.declared.history.Actor.{Actor}
use Rattle.tt_history.specs.declared.history.Entry.{Entry}
use Rattle.tt_history.specs.declared.history.EntryKind.{EntryKind}
use Rattle.tt_history.specs.declared.history.Told.{Told}
use Rattle.tt_history.specs.declared.reply.Reply.{Reply}
use Rattle.tt_plain.specs.history.Replies.{start_ends}
use Rattle.tt_plain.specs.text.Journal.{journal_line}
use Rattle.tt_plain.specs.text.Transcript.{told_reply}
use Rattle.tt_history.specs.declared.history.Actor.TheVariants as actor
use Rattle.tt_history.specs.declared.history.EntryKind.TheVariants as kind
use Rattle.tt_history.specs.declared.history.Told.TheVariants as told

abbrev pub is_of_session : ℕ → Actor → Bool
is_of_session session (actor.Session other) = other == session
is_of_session session actor.Recluster = false
is_of_session session actor.Purge = false

-- the session's first entry of these is one of its statement of this index
unfoldable pub goes_on : ℕ → ℕ → List Entry → Bool
goes_on session index [] = false
goes_on session index (entry ∷ entries) =
    if is_of_session session entry.actor then entry.index == index else goes_on session index entries

abbrev pub has_statement : Script → ℕ → ℕ → Bool
has_statement program session index = is_some (span_of program session (index - 1))

-- A commit that is done ends its statement unless that goes on, with its definition.
abbrev pub commit_ends : ℕ → ℕ → Told → List Entry → Bool
commit_ends session index told.Done later = not (goes_on session index later)
commit_ends session index (told.Refused number) later = true
commit_ends session index told.Memory later = true

-- an entry of a statement that there is, with these behind it
unfoldable pub kind_ends : ℕ → ℕ → EntryKind → List Entry → Bool
kind_ends session index (kind.Begin told) later = true
kind_ends session index (kind.Start told) later = start_ends told
kind_ends session index (kind.End gone added) later = true
kind_ends session index (kind.Abandon told) later = true
kind_ends session index (kind.Commit told) later = commit_ends session index told later
kind_ends session index kind.Rollback later = true
kind_ends session index (kind.Define told) later = true
kind_ends session index (kind.Wait told) later = true
kind_ends session index (kind.Report told numbers) later = true
kind_ends session index (kind.RecluStart table parts) later = false
kind_ends session index (kind.RecluEnd table gone added) later = false
kind_ends session index (kind.RecluMiss table why) later = false
kind_ends session index (kind.Purge parts) later = false
kind_ends session index kind.Close later = false

abbrev pub actor_ends : Script → Actor → Entry → List Entry → Bool
actor_ends program (actor.Session session) entry later = has_statement program session entry.index && kind_ends session entry.index entry.kind later
actor_ends program actor.Recluster entry later = false
actor_ends program actor.Purge entry later = false

-- by an entry with these behind it a statement ends
abbrev pub ends_here : Script → Entry → List Entry → Bool
ends_here program entry later = actor_ends program entry.actor entry later

-- the reply of an entry, which is the first one, where it ends its statement; and the replies of those behind it
abbrev pub next_reply : Script → Entry → List Entry → List Reply → Option Reply
next_reply program entry later replies = if ends_here program entry later then slice_get replies 0 else None

abbrev pub later_replies : Script → Entry → List Entry → List Reply → List Reply
later_replies program entry later replies = if ends_here program entry later then drop 1 replies else replies

-- each entry's line with its reply
unfoldable pub answered_lines : Script → List Entry → List Reply → List ℕ
answered_lines program [] replies = []
answered_lines program (entry ∷ later) replies =
    journal_line program entry ++ told_reply program (next_reply program entry later replies)
    ++ answered_lines program later (later_replies program entry later replies)
