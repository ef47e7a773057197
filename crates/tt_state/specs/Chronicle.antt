-- What contracts see of a catalog, and what a call that makes an entry does to it.
use Rattle.std.specs.Prelude.{List, Option, Result, Some, [], ℕ, ◌++◌, ◌+◌, ◌∷◌, ◌≡◌}
use Rattle.tt_value.specs.declared.value.Row.{Row}
use Rattle.tt_script.specs.declared.script.Script.{Script}
use Rattle.tt_history.specs.declared.history.Actor.TheVariants as actor
use Rattle.tt_history.specs.declared.history.Entry.{Entry}
use Rattle.tt_history.specs.declared.history.EntryKind.{EntryKind}
use Rattle.tt_history.specs.declared.reply.Reply.{Reply}
use Rattle.tt_plain.specs.declared.store.Plain.{Plain}
use Rattle.tt_plain.specs.declared.store.PlainOpen.{PlainOpen}
use Rattle.tt_sql.specs.declared.statement.Statement.{Statement}
use Rattle.tt_plain.specs.asked.Turns.{asked_with, next_asked, open_asked}
use Rattle.tt_plain.specs.history.Contents.{contents_of}
use Rattle.tt_plain.specs.history.Replay.{store_after}
use Rattle.tt_plain.specs.history.Step.{step_of}
use Rattle.tt_built.specs.Built.{built}
use Rattle.tt_state.specs.declared.part.StoredPart.{StoredPart}
use Rattle.tt_state.specs.Kept.{Kept, stored_at}

-- the program and the most rows of a part that the catalog was made with, its history, and what it keeps
pub record Chronicle : Type 0 where
  pub program : Script
  pub cap : ℕ
  pub history : List Entry
  pub kept : Kept

-- the plain store to which the history leads
abbrev pub store_of : Chronicle → Plain
store_of chronicle = store_after built chronicle.program chronicle.history

-- the rows of each part that it has added, by number
abbrev pub rows_of : Chronicle → List (List Row)
rows_of chronicle = contents_of built chronicle.program chronicle.history

-- an entry of a session's statement, at the next moment
abbrev pub entry_at : ℕ → ℕ → ℕ → EntryKind → Entry
entry_at moment session index kind = record { moment = moment + 1; actor = actor.Session session; index = index; kind = kind }

-- A part that is stored before and after is the same.
abbrev pub KeepsParts : List StoredPart → List StoredPart → Type 0
KeepsParts old new = (number : ℕ) (part now : StoredPart) → stored_at old number ≡ Some part → stored_at new number ≡ Some now → now ≡ part

-- A call makes one entry: the history is longer by it, its reply is that of the plain store's step, and no stored part changes.
pub record MadeEntry (old new : Chronicle) (entry : Entry) (told : Option Reply) : Type 0 where
  pub same_program : new.program ≡ old.program
  pub same_cap : new.cap ≡ old.cap
  pub longer : new.history ≡ old.history ++ entry ∷ []
  pub step : step_of built old.program (store_of old) entry ≡ Some (store_of new, told)
  pub parts : KeepsParts old.kept.parts new.kept.parts

-- the session's next statement, and what was read of its text
abbrev pub IsNextRead : Chronicle → ℕ → ℕ → Result Statement ℕ → Type 0
IsNextRead chronicle session index read =
    next_asked built chronicle.program (store_of chronicle) session index ≡ Some (asked_with chronicle.program (store_of chronicle) session index read)

-- the session's open statement, what was read of its text, and what it sees
abbrev pub IsOpenRead : Chronicle → ℕ → ℕ → Result Statement ℕ → PlainOpen → Type 0
IsOpenRead chronicle session index read seen =
    open_asked built chronicle.program (store_of chronicle) session index ≡ Some (asked_with chronicle.program (store_of chronicle) session index read, seen)
