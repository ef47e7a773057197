-- How many entries the statements of a program may make, and how many they may still make.
use Rattle.std.specs.Prelude.{List, [], if◌then◌else◌, is_some, length, sum_by, ℕ, ◌*◌, ◌+◌, ◌-◌, ◌∷◌}
use Rattle.tt_script.specs.declared.script.Script.{Script}
use Rattle.tt_script.specs.declared.script.SessionText.{SessionText}
use Rattle.tt_plain.specs.declared.store.PlainSession.{PlainSession}
use Rattle.tt_plain.specs.stored.Points.{statement_count}

-- the statements of all sessions
abbrev pub statements_in : List SessionText → ℕ
statements_in sessions = sum_by statement_count sessions

-- three entries for each statement, and one for each session
abbrev pub entry_limit : Script → ℕ
entry_limit program = 3 * statements_in program.sessions + length program.sessions

-- how many entries a session may still make
abbrev pub owed_by : SessionText → PlainSession → ℕ
owed_by lines state = 3 * (statement_count lines - state.done) + 1 - (if is_some state.running then 1 else 0)

-- and all sessions
abbrev pub owed : List SessionText → List PlainSession → ℕ
owed [] states = 0
owed (lines ∷ others) [] = 0
owed (lines ∷ others) (state ∷ states) = owed_by lines state + owed others states
