-- The line of an entry.
use Rattle.std.specs.Prelude.{List, None, Option, Some, [], codes, decimal, flat_map, slice_get, ℕ, ◌++◌, ◌∷◌}
use Rattle.tt_script.specs.declared.script.Script.{Script}
use Rattle.tt_script.specs.declared.script.SessionText.{SessionText}
use Rattle.tt_history.specs.declared.history.Actor.{Actor}
use Rattle.tt_history.specs.declared.history.Added.{Added}
use Rattle.tt_history.specs.declared.history.Entry.{Entry}
use Rattle.tt_history.specs.declared.history.EntryKind.{EntryKind}
use Rattle.tt_history.specs.declared.history.Miss.{Miss}
use Rattle.tt_history.specs.declared.history.Told.{Told}
use Rattle.tt_history.specs.declared.history.Actor.TheVariants as actor
use Rattle.tt_history.specs.declared.history.EntryKind.TheVariants as kind
use Rattle.tt_history.specs.declared.history.Miss.TheVariants as miss
use Rattle.tt_history.specs.declared.history.Told.TheVariants as told

abbrev pub line_feed : List ℕ
line_feed = 10 ∷ []

abbrev pub name_of : Option SessionText → List ℕ
name_of None = []
name_of (Some lines) = lines.name

-- a session is written by its name
abbrev pub session_text : Script → ℕ → List ℕ
session_text program session = name_of (slice_get program.sessions session)

abbrev pub actor_text : Script → Actor → List ℕ
actor_text program (actor.Session session) = session_text program session
actor_text program actor.Recluster = codes "@recluster"
actor_text program actor.Purge = codes "@purge"

abbrev pub told_text : Told → List ℕ
told_text told.Done = []
told_text (told.Refused number) = codes " refused " ++ decimal number
told_text told.Memory = codes " memory"

-- ` -number` for each part that is taken away, and ` +number:rows:bytes` for each that is added
abbrev pub gone_text : List ℕ → List ℕ
gone_text parts = flat_map (λ number. codes " -" ++ decimal number) parts

abbrev pub part_text : Added → List ℕ
part_text part = codes " +" ++ decimal part.number ++ codes ":" ++ decimal part.rows ++ codes ":" ++ decimal part.bytes

abbrev pub added_text : List Added → List ℕ
added_text parts = flat_map part_text parts

abbrev pub numbers_text : List ℕ → List ℕ
numbers_text numbers = flat_map (λ number. codes " " ++ decimal number) numbers

abbrev pub miss_text : Script → Miss → List ℕ
miss_text program miss.Dropped = codes " dropped"
miss_text program miss.Suspended = codes " suspended"
miss_text program (miss.Held session) = codes " held " ++ session_text program session
miss_text program (miss.Gone number) = codes " gone " ++ decimal number
miss_text program miss.Memory = codes " memory"

abbrev pub kind_text : Script → EntryKind → List ℕ
kind_text program (kind.Begin told) = codes "begin" ++ told_text told
kind_text program (kind.Start told) = codes "start" ++ told_text told
kind_text program (kind.End gone added) = codes "end" ++ gone_text gone ++ added_text added
kind_text program (kind.Abandon told) = codes "abandon" ++ told_text told
kind_text program (kind.Commit told) = codes "commit" ++ told_text told
kind_text program kind.Rollback = codes "rollback"
kind_text program (kind.Define told) = codes "define" ++ told_text told
kind_text program (kind.Wait told) = codes "wait" ++ told_text told
kind_text program (kind.Report told numbers) = codes "report" ++ told_text told ++ numbers_text numbers
kind_text program (kind.RecluStart table parts) = codes "recluster " ++ decimal table ++ gone_text parts
kind_text program (kind.RecluEnd table gone added) = codes "landed " ++ decimal table ++ gone_text gone ++ added_text added
kind_text program (kind.RecluMiss table why) = codes "missed " ++ decimal table ++ miss_text program why
kind_text program (kind.Purge parts) = codes "purge" ++ gone_text parts
kind_text program kind.Close = codes "close"

-- `@moment actor index word`
unfoldable pub journal_line : Script → Entry → List ℕ
journal_line program entry =
    codes "@" ++ decimal entry.moment ++ codes " " ++ actor_text program entry.actor ++ codes " " ++ decimal entry.index
    ++ codes " " ++ kind_text program entry.kind ++ line_feed
