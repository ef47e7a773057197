-- A session's next statement, and its open one: what is known of them where an entry is made.
use Rattle.std.specs.Prelude.{Bool, Err, List, None, Ok, Option, Result, Some, false, if◌then◌else◌, is_none, length, refl, slice_get, true, ℕ, ◌+◌, ◌-◌, ◌<◌, ◌==◌, ◌≡◌}
use Rattle.std.proofs.Common.{ap, arith, sym, ◌∙◌}
use Rattle.std.proofs.lemmas.Bool.{and_parts, false≢true}
use Rattle.std.proofs.lemmas.List.{length-map}
use Rattle.std.proofs.lemmas.Option.{same_Some, slice_get_within}
use Rattle.tt_script.specs.declared.script.Script.{Script}
use Rattle.tt_script.specs.declared.script.SessionText.{SessionText}
use Rattle.tt_script.specs.Program.{span_of, text_at}
use Rattle.tt_sql.specs.declared.statement.Statement.{Statement}
use Rattle.tt_sql.specs.text.StatementOf.{statement_of}
use Rattle.tt_script.specs.Lines.{only_if}
use Rattle.tt_plain.specs.asked.Asked.{Asked}
use Rattle.tt_plain.specs.asked.Turns.{asked_with, carried_out, is_idle_before, next_asked, open_asked, statement_read}
use Rattle.tt_plain.specs.declared.store.Plain.{Plain}
use Rattle.tt_plain.specs.declared.store.PlainOpen.{PlainOpen}
use Rattle.tt_plain.specs.declared.store.PlainSession.{PlainSession}
use Rattle.tt_plain.specs.law.Sound.{IsSound}
use Rattle.tt_plain.proofs.Answers.{and_then_some, bind_some, map_some, only_if_some}
use Rattle.tt_plain.proofs.Tests.{none_is, same_number}
use Rattle.tt_built.specs.Built.{built, is_built}
use Rattle.tt_built.proofs.Reaches.{statements_built}
use Rattle.tt_state.proofs.Histories.{early, stands_sound}
use Rattle.tt_state.proofs.Owed.{ids_of_program, point_within}
use Rattle.tt_state.specs.Chronicle.{Chronicle, store_of}
use Rattle.tt_state.specs.Keeps.{StandsFor, session_of}
use Rattle.tt_state.specs.declared.state.SessionState.{SessionState}
use Rattle.tt_state.specs.Kept.{Kept}
use Rattle.tt_state.specs.Moves.{IsReady}

-- the statement of this index is the one behind those that are done, and the program has it
pub record IsTurn (program : Script) (store : Plain) (session index : ℕ) (lines : SessionText) (state : PlainSession) : Type 0 where
  pub lines_are : slice_get program.sessions session ≡ Some lines
  pub state_is : slice_get store.sessions session ≡ Some state
  pub counted : index ≡ state.done + 1
  pub within : state.done < length lines.statements

-- it is the next one, and none is open
pub record IsNext (program : Script) (store : Plain) (session index : ℕ) (asked : Asked) : Type 0 where
  pub lines : SessionText
  pub state : PlainSession
  pub turn : IsTurn program store session index lines state
  pub idle : state.running ≡ None
  pub said : statement_read built program session index ≡ Some asked.read

-- it is the open one
pub record IsOpen (program : Script) (store : Plain) (session index : ℕ) (asked : Asked) (seen : PlainOpen) : Type 0 where
  pub lines : SessionText
  pub state : PlainSession
  pub turn : IsTurn program store session index lines state
  pub running : state.running ≡ Some seen
  pub numbered : seen.index ≡ index
  pub said : statement_read built program session index ≡ Some asked.read

-- a statement that was read is one of the session's
said_within : (program : Script) (session index : ℕ) (read : Result Statement ℕ) → statement_read built program session index ≡ Some read
    → (lines : SessionText) × (slice_get program.sessions session ≡ Some lines) × (index - 1 < length lines.statements)
unfolding statement_read
said_within program session index read e =
    let span = map_some (λ (span : ℕ × ℕ). carried_out built (statement_of (text_at program span))) (span_of program session (index - 1)) read e in
    let lines = and_then_some (λ (lines : SessionText). slice_get lines.statements (index - 1)) (slice_get program.sessions session) span.0 span.1 in
    (lines.0, lines.1, slice_get_within lines.0.statements (index - 1) span.0 lines.2)

pub is_next : (program : Script) (store : Plain) (session index : ℕ) (asked : Asked) → next_asked built program store session index ≡ Some asked → IsNext program store session index asked
unfolding next_asked
is_next program store session index asked e =
    let found = bind_some (slice_get store.sessions session) _ asked e in
    let idle = bind_some (only_if (is_idle_before index found.0) found.0) _ asked found.2 in
    let test = only_if_some (is_idle_before index found.0) found.0 idle.0 idle.1 in
    let both = and_parts (is_none found.0.running) (index == found.0.done + 1) test.0 in
    let read = bind_some (statement_read built program session index) _ asked idle.2 in
    let is : asked_with program store session index read.0 ≡ asked = same_Some (asked_with program store session index read.0) asked read.2 in
    let said = said_within program session index read.0 read.1 in
    let counted : index ≡ found.0.done + 1 = same_number index (found.0.done + 1) both.1 in
    record {
      lines = said.0;
      state = found.0;
      turn = record { lines_are = said.1; state_is = found.1; counted = counted; within = omega (arith, counted, said.2) };
      idle = none_is found.0.running both.0;
      said = read.1 ∙ ap (λ (a : Asked). Some a.read) is;
    }

pub is_open : (program : Script) (store : Plain) (session index : ℕ) (asked : Asked) (seen : PlainOpen) → IsSound built program store → open_asked built program store session index ≡ Some (asked, seen) → IsOpen program store session index asked seen
unfolding open_asked
is_open program store session index asked seen sound e =
    let found = bind_some (slice_get store.sessions session) _ (asked, seen) e in
    let running = bind_some found.0.running _ (asked, seen) found.2 in
    let same = bind_some (only_if (running.0.index == index) running.0) _ (asked, seen) running.2 in
    let test = only_if_some (running.0.index == index) running.0 same.0 same.1 in
    let read = bind_some (statement_read built program session index) _ (asked, seen) same.2 in
    let is : (asked_with program store session index read.0, same.0) ≡ (asked, seen) = same_Some (asked_with program store session index read.0, same.0) (asked, seen) read.2 in
    let is_asked : asked_with program store session index read.0 ≡ asked = ap (λ (p : Asked × PlainOpen). p.0) is in
    let is_seen : running.0 ≡ seen = test.1 ∙ ap (λ (p : Asked × PlainOpen). p.1) is in
    let said = said_within program session index read.0 read.1 in
    let numbered : seen.index ≡ index = ap (λ (s : PlainOpen). s.index) (sym is_seen) ∙ same_number running.0.index index test.0 in
    let opened : found.0.running ≡ Some seen = running.1 ∙ ap (λ (s : PlainOpen). Some s) is_seen in
    let counted : index ≡ found.0.done + 1 = sym numbered ∙ ((sound.each session found.0 found.1).running seen opened).counted in
    record {
      lines = said.0;
      state = found.0;
      turn = record { lines_are = said.1; state_is = found.1; counted = counted; within = omega (arith, counted, said.2) };
      running = opened;
      numbered = numbered;
      said = read.1 ∙ ap (λ (a : Asked). Some a.read) is_asked;
    }

abbrev read_if : Bool → Statement → Result Statement ℕ
read_if test s = if test then Ok s else Err 0

abbrev is_read : Result Statement ℕ → Bool
is_read (Ok s) = true
is_read (Err place) = false

abbrev ok_or : Statement → Result Statement ℕ → Statement
ok_or other (Ok s) = s
ok_or other (Err place) = other

-- what is read is carried out
pub said_built : (program : Script) (session index : ℕ) (s : Statement) → statement_read built program session index ≡ Some (Ok s) → is_built s ≡ true
unfolding statement_read
said_built program session index s e =
    let span = map_some (λ (span : ℕ × ℕ). carried_out built (statement_of (text_at program span))) (span_of program session (index - 1)) (Ok s) e in
    by (statement_of (text_at program span.0)) span.2
  where
    tested : (other : Statement) (b : Bool) → built.statements other ≡ b → read_if b other ≡ Ok s → built.statements s ≡ true
    tested other true is f = ap (λ r. built.statements (ok_or other r)) (sym f) ∙ is
    tested other false is f = absurd (false≢true (ap is_read f))

    by : (read : Result Statement ℕ) → carried_out built read ≡ Ok s → is_built s ≡ true
    by (Err place) f = absurd (false≢true (ap is_read f))
    by (Ok other) f = sym (statements_built s) ∙ tested other (built.statements other) refl f

-- a statement at its turn may make its entry
pub ready : (chronicle : Chronicle) (kept : Kept) (room session index : ℕ) (lines : SessionText) (state : PlainSession) → StandsFor chronicle kept room → IsTurn chronicle.program (store_of chronicle) session index lines state → IsReady chronicle.program kept session index
ready chronicle kept room session index lines state stands turn =
    let sound = stands_sound chronicle kept room stands in
    let store = store_of chronicle in
    record {
      first = omega (arith, turn.counted);
      known = slice_get_within chronicle.program.sessions session lines turn.lines_are;
      present = omega (arith, slice_get_within store.sessions session state turn.state_is, ap (λ (ss : List SessionState). length ss) stands.sessions.sessions, length-map store.sessions session_of);
      point = omega (
        arith,
        ap (λ (ps : List (Option ℕ)). length ps) stands.sessions.points,
        sound.points,
        ids_of_program chronicle.program,
        turn.counted,
        point_within chronicle.program.sessions session (index - 1) lines turn.lines_are (omega (arith, turn.counted, turn.within)),
      );
      moment = omega (arith, stands.sessions.moment, early chronicle kept room stands);
    }
