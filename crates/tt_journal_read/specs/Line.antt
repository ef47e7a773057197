-- The lines of a program's journal: which entry each is of, and which entries have one.
use Rattle.std.specs.Prelude.{List, [], length, map, ℕ, ⊤, ◌<◌, ◌^◌, ◌≡◌, ◌≤◌}
use Rattle.tt_script.specs.Program.{IsProgram}
use Rattle.tt_script.specs.declared.script.Script.{Script}
use Rattle.tt_history.specs.declared.history.Actor.{Actor}
use Rattle.tt_history.specs.declared.history.Added.{Added}
use Rattle.tt_history.specs.declared.history.Entry.{Entry}
use Rattle.tt_history.specs.declared.history.EntryKind.{EntryKind}
use Rattle.tt_history.specs.declared.history.Miss.{Miss}
use Rattle.tt_history.specs.declared.history.Told.{Told}
use Rattle.tt_layout.specs.Numbers.{IsAscending}
use Rattle.tt_plain.specs.law.Lists.{Every}
use Rattle.tt_plain.specs.text.Journal.{journal_line}
use Rattle.tt_journal_read.specs.declared.JournalError.{JournalError}
use Rattle.tt_history.specs.declared.history.Actor.TheVariants as actor
use Rattle.tt_journal_read.specs.declared.JournalError.TheVariants as error
use Rattle.tt_history.specs.declared.history.EntryKind.TheVariants as kind
use Rattle.tt_history.specs.declared.history.Miss.TheVariants as miss
use Rattle.tt_history.specs.declared.history.Told.TheVariants as told

-- ---- which entries have a line

-- a number of 64 bits
abbrev pub IsWide : ℕ → Type 0
IsWide n = n < 2 ^ 64

abbrev pub IsSession : Script → ℕ → Type 0
IsSession program session = session < length program.sessions

-- a worker is told by its own word
abbrev pub IsActor : Script → Actor → Type 0
IsActor program (actor.Session session) = IsSession program session
IsActor program actor.Recluster = ⊤
IsActor program actor.Purge = ⊤

abbrev pub IsTold : Told → Type 0
IsTold told.Done = ⊤
IsTold (told.Refused number) = number < 2 ^ 8
IsTold told.Memory = ⊤

-- a commit is never refused
abbrev pub IsUnrefused : Told → Type 0
IsUnrefused told.Done = ⊤
IsUnrefused (told.Refused number) = ⊥
IsUnrefused told.Memory = ⊤

-- what is given up has failed
abbrev pub IsFailure : Told → Type 0
IsFailure told.Done = ⊥
IsFailure (told.Refused number) = number < 2 ^ 8
IsFailure told.Memory = ⊤

-- a report that is done has at most two numbers, and one that is not has none
abbrev pub IsReport : Told → List ℕ → Type 0
IsReport told.Done numbers = (length numbers ≤ 2) × Every IsWide numbers
IsReport (told.Refused number) numbers = (number < 2 ^ 8) × (numbers ≡ [])
IsReport told.Memory numbers = numbers ≡ []

-- numbers of parts ascend
pub record AreParts (parts : List ℕ) : Type 0 where
  pub wide : Every IsWide parts
  pub ascend : IsAscending parts

pub record IsAdded (part : Added) : Type 0 where
  pub number : IsWide part.number
  pub rows : part.rows < 2 ^ 32
  pub bytes : IsWide part.bytes

pub record AreAdded (parts : List Added) : Type 0 where
  pub wide : Every IsAdded parts
  pub ascend : IsAscending (map (λ (part : Added). part.number) parts)

abbrev pub IsMiss : Script → Miss → Type 0
IsMiss program miss.Dropped = ⊤
IsMiss program miss.Suspended = ⊤
IsMiss program (miss.Held session) = IsSession program session
IsMiss program (miss.Gone number) = IsWide number
IsMiss program miss.Memory = ⊤

abbrev pub IsKind : Script → EntryKind → Type 0
IsKind program (kind.Begin told) = IsTold told
IsKind program (kind.Start told) = IsTold told
IsKind program (kind.End gone added) = AreParts gone × AreAdded added
IsKind program (kind.Abandon told) = IsFailure told
IsKind program (kind.Commit told) = IsUnrefused told
IsKind program kind.Rollback = ⊤
IsKind program (kind.Define told) = IsTold told
IsKind program (kind.Wait told) = IsTold told
IsKind program (kind.Report told numbers) = IsReport told numbers
IsKind program (kind.RecluStart table parts) = (table < 2 ^ 32) × AreParts parts
IsKind program (kind.RecluEnd table gone added) = (table < 2 ^ 32) × AreParts gone × AreAdded added
IsKind program (kind.RecluMiss table why) = (table < 2 ^ 32) × IsMiss program why
IsKind program (kind.Purge parts) = AreParts parts
IsKind program kind.Close = ⊤

-- an entry that a line can tell
pub record IsSpelled (program : Script) (entry : Entry) : Type 0 where
  pub moment : IsWide entry.moment
  pub actor : IsActor program entry.actor
  pub index : IsWide entry.index
  pub kind : IsKind program entry.kind

-- ---- lines

-- the bytes are the line of this entry
pub record IsLineOf (program : Script) (line : List ℕ) (entry : Entry) : Type 0 where
  pub spelled : IsSpelled program entry
  pub text : journal_line program entry ≡ line

-- no entry has these bytes as its line, where they are refused
abbrev pub IsNoLine : Script → List ℕ → JournalError → Type 0
IsNoLine program line error.BadJournal = (entry : Entry) → IsLineOf program line entry → ⊥
IsNoLine program line error.Memory = ⊤

-- the entry is the only one with this line
abbrev pub IsAlone : Script → List ℕ → Entry → Type 0
IsAlone program line entry = (other : Entry) → IsLineOf program line other → other ≡ entry

-- ---- laws

-- each entry that can be told has a line of its own
abbrev pub LinesDiffer : Type 0
LinesDiffer =
    (program : Script) (entry : Entry) → IsProgram program → IsSpelled program entry
    → IsAlone program (journal_line program entry) entry
