-- The program that the bytes of a script spell, or the place of its first faulty line.
use Rattle.std.specs.Prelude.{ℕ, ◌+◌, false, List, [], ◌∷◌, length, take, drop, Option, Some, None, Result, Ok, Err, slice_get, unwrap_or}
use Rattle.tt_script.specs.declared.script.Script.{Script}
use Rattle.tt_script.specs.declared.script.SessionText.{SessionText}
use Rattle.tt_script.specs.Body.{statements_in}
use Rattle.tt_script.specs.Program.{all_statements}
use Rattle.tt_script.specs.Lines.{lines_of, said, line_place, start_on, session_on, first_faulty}

-- the moment on the first line, and else 0
abbrev pub start_in : List (List ℕ) → ℕ
start_in [] = 0
start_in (line ∷ lines) = unwrap_or (start_on (said line)) 0

-- the session of lines that begin at this place, if there is one: what follows from the name on its line
abbrev pub session_or : Option (List ℕ) → ℕ → Option (List ℕ × ℕ) → Option (List ℕ × ℕ)
session_or None body other = other
session_or (Some name) body other = Some (name, body)

-- the name of the first session, and where its body begins
abbrev pub session_in : ℕ → List (List ℕ) → Option (List ℕ × ℕ)
session_in at [] = None
session_in at (line ∷ lines) = session_or (session_on (said line)) (at + length line) (session_in (at + length line) lines)

-- the sessions of a text, with their statements; a body goes on to the text's end
abbrev pub sessions_at : List ℕ → Option (List ℕ × ℕ) → List SessionText
sessions_at text None = []
sessions_at text (Some session) = record { name = session.0; statements = statements_in session.1 (drop session.1 text) } ∷ []

abbrev pub sessions_of : List ℕ → List SessionText
sessions_of text = sessions_at text (session_in 0 (lines_of text))

-- This, unless a statement too many stands in the text: then where the line begins in which it begins.
abbrev pub within_limit : {Y : Type 0} → List ℕ → Y → Option (ℕ × ℕ) → Result Y ℕ
within_limit text y None = Ok y
within_limit text y (Some span) = Err (line_place 0 (lines_of text) span.0)

-- the sessions of a text, with at most 100,000 statements in all
abbrev pub sessions_read : List ℕ → Result (List SessionText) ℕ
sessions_read text = within_limit text (sessions_of text) (slice_get (all_statements (sessions_of text)) 100000)

-- the script of these sessions
abbrev pub script_of : List ℕ → List SessionText → Script
script_of bytes sessions = record { start = start_in (lines_of bytes); text = bytes; sessions = sessions; files = []; turns = [] }

-- A faulty line, and a statement too many in the lines in front of it: the earlier line is given.
abbrev pub judged : List ℕ → Option ℕ → Result (List SessionText) ℕ → Result Script ℕ
judged bytes faulty (Err place) = Err place
judged bytes (Some place) (Ok sessions) = Err place
judged bytes None (Ok sessions) = Ok (script_of bytes sessions)

-- the lines in front of the first faulty one
abbrev pub front_of : List ℕ → List ℕ
front_of bytes = take (unwrap_or (first_faulty false 0 (lines_of bytes)) (length bytes)) bytes

unfoldable pub answer_of : List ℕ → Result Script ℕ
answer_of bytes = judged bytes (first_faulty false 0 (lines_of bytes)) (sessions_read (front_of bytes))
