-- A session's next text says what becomes of its statement, and the text of a program is its script.
use Rattle.std.proofs.Common.{◌≡◌, ℕ, ◌+◌, ◌-◌, false, List, [], Option, Some, None, Result, Ok, Err, sym, ap, ◌∙◌, arith}
use Rattle.std.specs.Option.{option_map}
use Rattle.std.specs.Prelude.{refl}
use Rattle.tt_script.specs.declared.script.Script.{Script}
use Rattle.tt_script.specs.declared.script.SessionText.{SessionText}
use Rattle.tt_script.specs.Program.{span_of, text_at}
use Rattle.tt_script.specs.Script.{judged, sessions_read, script_of, front_of, answer_of}
use Rattle.tt_script.specs.Lines.{lines_of, first_faulty}
use Rattle.tt_sql.specs.declared.statement.Statement.{Statement}
use Rattle.tt_sql.specs.text.StatementOf.{statement_of}
use Rattle.tt_plain.proofs.Answers.{map_some}
use Rattle.tt_plain.specs.asked.Turns.{carried_out, statement_read}
use Rattle.tt_built.specs.Built.{built}
use Rattle.tt_state.specs.Chronicle.{Chronicle, IsNextRead, store_of}
use Rattle.tt_run.proofs.TurnsLaws.{idle_next}
use Rattle.tt_run.specs.Sessions.{IsIdle}

-- what is read of a text
read_of : (program : Script) (session place : ℕ) (text : List ℕ) → Some text ≡ option_map (text_at program) (span_of program session place) → statement_read built program session (place + 1) ≡ Some (carried_out built (statement_of text))
unfolding statement_read
read_of program session place text e =
    let same : place + 1 - 1 ≡ place = omega arith in
    let span = map_some (text_at program) (span_of program session place) text (sym e) in
    ap (λ p. option_map (λ span. carried_out built (statement_of (text_at program span))) (span_of program session p)) same
    ∙ ap (option_map (λ span. carried_out built (statement_of (text_at program span)))) span.1
    ∙ ap (λ t. Some (carried_out built (statement_of t))) span.2

-- what becomes of an idle session's next statement
pub next_read : (chronicle : Chronicle) (session place : ℕ) (text : List ℕ) (read : Result Statement ℕ) → IsIdle (store_of chronicle) session place → Some text ≡ option_map (text_at chronicle.program) (span_of chronicle.program session place) → read ≡ statement_of text → IsNextRead chronicle session (place + 1) (carried_out built read)
next_read chronicle session place text read idle e is =
    idle_next chronicle session place (carried_out built read) idle (read_of chronicle.program session place text e ∙ ap (λ r. Some (carried_out built r)) (sym is))

-- ---- the text of a program is the script that it was read from, which has no turns

same_ok : (a b : Script) → ◌≡◌ {A = Result Script ℕ} (Ok a) (Ok b) → a ≡ b
same_ok a b e = cc

pub script_text : (bytes : List ℕ) (script : Script) → answer_of bytes ≡ Ok script → script.text ≡ bytes
unfolding answer_of
script_text bytes script e = by (first_faulty false 0 (lines_of bytes)) (sessions_read (front_of bytes)) e
  where
    by : (faulty : Option ℕ) (sessions : Result (List SessionText) ℕ) → judged bytes faulty sessions ≡ Ok script → script.text ≡ bytes
    by faulty (Err place) e = cc
    by (Some place) (Ok sessions) e = cc
    by None (Ok sessions) e = ap (λ (s : Script). s.text) (sym (same_ok (script_of bytes sessions) script e))

pub no_turns : (bytes : List ℕ) (script : Script) → answer_of bytes ≡ Ok script → script.turns ≡ []
unfolding answer_of
no_turns bytes script e = by (first_faulty false 0 (lines_of bytes)) (sessions_read (front_of bytes)) e
  where
    by : (faulty : Option ℕ) (sessions : Result (List SessionText) ℕ) → judged bytes faulty sessions ≡ Ok script → script.turns ≡ []
    by faulty (Err place) e = cc
    by (Some place) (Ok sessions) e = cc
    by None (Ok sessions) e = ap (λ (s : Script). s.turns) (sym (same_ok (script_of bytes sessions) script e))
