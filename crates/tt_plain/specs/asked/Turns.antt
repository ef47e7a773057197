-- Which statement of a session an entry is of: the next one, or the one that is open.
use Rattle.std.specs.Prelude.{Bool, Err, Ok, Option, Result, Some, if◌then◌else◌, is_none, option_map, slice_get, ℕ, ◌&&◌, ◌+◌, ◌-◌, ◌==◌}
use Rattle.tt_script.specs.declared.script.Script.{Script}
use Rattle.tt_script.specs.Program.{span_of, text_at}
use Rattle.tt_sql.specs.declared.statement.Statement.{Statement}
use Rattle.tt_sql.specs.text.StatementOf.{statement_of}
use Rattle.tt_plain.specs.declared.store.Plain.{Plain}
use Rattle.tt_plain.specs.declared.store.PlainOpen.{PlainOpen}
use Rattle.tt_plain.specs.declared.store.PlainSession.{PlainSession}
use Rattle.tt_script.specs.Lines.{only_if}
use Rattle.tt_plain.specs.Answers.{◌>>=◌}
use Rattle.tt_plain.specs.asked.Asked.{Asked}
use Rattle.tt_plain.specs.asked.Carried.{Carried}

-- A statement that uses a part which is not carried out yet is refused like a text that is none, at place 0.
abbrev pub carried_out : Carried → Result Statement ℕ → Result Statement ℕ
carried_out carried (Err place) = Err place
carried_out carried (Ok s) = if carried.statements s then Ok s else Err 0

-- what is read of a session's statement, counted from 1
unfoldable pub statement_read : Carried → Script → ℕ → ℕ → Option (Result Statement ℕ)
statement_read carried program session index =
    option_map (λ span. carried_out carried (statement_of (text_at program span))) (span_of program session (index - 1))

abbrev pub asked_with : Script → Plain → ℕ → ℕ → Result Statement ℕ → Asked
asked_with program store session index read =
    record { program = program; store = store; session = session; index = index; moment = store.moment + 1; read = read }

abbrev pub is_idle_before : ℕ → PlainSession → Bool
is_idle_before index state = is_none state.running && index == state.done + 1

-- the session's next statement, where none is open and it has this index
unfoldable pub next_asked : Carried → Script → Plain → ℕ → ℕ → Option Asked
next_asked carried program store session index = do
  state ← slice_get store.sessions session
  idle ← only_if (is_idle_before index state) state
  read ← statement_read carried program session index
  Some (asked_with program store session index read)

-- the session's open statement with what it sees, where it has this index
unfoldable pub open_asked : Carried → Script → Plain → ℕ → ℕ → Option (Asked × PlainOpen)
open_asked carried program store session index = do
  state ← slice_get store.sessions session
  seen ← state.running
  same ← only_if (seen.index == index) seen
  read ← statement_read carried program session index
  Some (asked_with program store session index read, same)
