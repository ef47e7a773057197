-- What holds of each program, whatever script it was read from.
use Rattle.std.specs.Prelude.{◌≡◌, ◌≢◌, ℕ, ◌<◌, ◌≤◌, Bool, true, ◌||◌, ◌&&◌, ◌==◌, nat_le, List, length, All, AllPairs, Option, slice_get, slice_range}
use Rattle.std.specs.List.{flat_map, list_all}
use Rattle.std.specs.Option.{option_and_then, option_map}
use Rattle.std.specs.Str.{IsCharBoundary}
use Rattle.std.specs.Char.{is_ascii_alphanumeric}
use Rattle.tt_script.specs.declared.script.Script.{Script}
use Rattle.tt_script.specs.declared.script.SessionText.{SessionText}
use Rattle.tt_script.specs.declared.script.FileText.{FileText}
use Rattle.tt_script.specs.declared.script.Turn.{Turn}
use Rattle.tt_script.specs.declared.script.Turn.TheVariants.{Session, Recluster, Sweep, Purge}
use Rattle.tt_script.specs.Lines.{is_session_name}

-- a span lies in the text, does not end before it begins, and begins and ends between characters
pub record IsSpan (text : List ℕ) (span : ℕ × ℕ) : Type 0 where
  pub ordered : span.0 ≤ span.1
  pub within : span.1 ≤ length text
  pub begins_between : IsCharBoundary text span.0
  pub ends_between : IsCharBoundary text span.1

pub record IsSession (text : List ℕ) (session : SessionText) : Type 0 where
  pub name : is_session_name session.name ≡ true
  pub statements : All (IsSpan text) session.statements

-- an ASCII letter, a digit, `.`, `_` or `-`
abbrev pub is_file_byte : ℕ → Bool
is_file_byte byte = is_ascii_alphanumeric byte || byte == 46 || byte == 95 || byte == 45

abbrev pub is_file_name : List ℕ → Bool
is_file_name name = nat_le 1 (length name) && nat_le (length name) 64 && list_all is_file_byte name

pub record IsFile (text : List ℕ) (file : FileText) : Type 0 where
  pub name : is_file_name file.name ≡ true
  pub content : IsSpan text (file.start, file.«end»)

-- a turn of a session is that of one of so many
abbrev pub IsTurn : ℕ → Turn → Type 0
IsTurn sessions (Session session) = session < sessions
IsTurn sessions Recluster = Unit {0}
IsTurn sessions Sweep = Unit {0}
IsTurn sessions Purge = Unit {0}

abbrev pub all_statements : List SessionText → List (ℕ × ℕ)
all_statements sessions = flat_map (λ session. session.statements) sessions

pub record IsProgram (script : Script) : Type 0 where
  pub start : script.start ≤ 253402300799999
  pub few_sessions : length script.sessions ≤ 64
  pub few_statements : length (all_statements script.sessions) ≤ 100000
  pub few_files : length script.files ≤ 1024
  pub sessions : All (IsSession script.text) script.sessions
  pub session_names : AllPairs (λ (a b : SessionText). a.name ≢ b.name) script.sessions
  pub files : All (IsFile script.text) script.files
  pub file_names : AllPairs (λ (a b : FileText). a.name ≢ b.name) script.files
  pub turns : All (IsTurn (length script.sessions)) script.turns

-- where a session's statement stands, both counted from 0
abbrev pub span_of : Script → ℕ → ℕ → Option (ℕ × ℕ)
span_of script session statement = option_and_then (λ lines. slice_get lines.statements statement) (slice_get script.sessions session)

abbrev pub text_at : Script → ℕ × ℕ → List ℕ
text_at script span = slice_range script.text span.0 span.1

-- the text of a session's statement, both counted from 0, if there is one
abbrev pub statement_text : Script → ℕ → ℕ → Option (List ℕ)
statement_text script session statement = option_map (text_at script) (span_of script session statement)
