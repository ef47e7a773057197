-- What is kept where a statement has ended or begun, and nothing else has changed but its pins and its marks.
use Rattle.std.specs.Prelude.{None, Option, Some, [], false, refl, unwrap_or, slice_get, slice_set, ℕ, ◌+◌, ◌≡◌, Result}
use Rattle.std.proofs.Common.{ap, ◌∙◌, arith}
use Rattle.tt_sql.specs.declared.statement.Statement.{Statement}
use Rattle.tt_history.specs.declared.history.EntryKind.{EntryKind}
use Rattle.tt_history.specs.declared.reply.Reply.{Reply}
use Rattle.tt_plain.specs.asked.Asked.{Asked}
use Rattle.tt_plain.specs.asked.Turns.{asked_with}
use Rattle.tt_plain.specs.declared.store.Plain.{Plain}
use Rattle.tt_plain.specs.declared.store.PlainSession.{PlainSession}
use Rattle.tt_plain.specs.effect.Apply.{applied}
use Rattle.tt_plain.specs.effect.Ending.{ended_with}
use Rattle.tt_plain.specs.history.Contents.{contents_with, parts_added}
use Rattle.tt_plain.specs.history.Step.{step_of}
use Rattle.tt_plain.specs.stored.Points.{point_place}
use Rattle.tt_plain.specs.stored.Sessions.{new_session, session_at}
use Rattle.tt_plain.proofs.law.Lists.{every_at}
use Rattle.tt_built.specs.Built.{built}
use Rattle.tt_state.proofs.Goes.{GoesOn, alone_now, ended_less, idle_now, parts_stay, same_marks, sessions_now, tables_stay}
use Rattle.tt_state.proofs.Histories.{contents_same}
use Rattle.tt_state.proofs.TrueFacts.{IsTrueEntry}
use Rattle.tt_state.proofs.Turns.{IsNext}
use Rattle.tt_state.specs.Chronicle.{Chronicle, entry_at, rows_of, store_of}
use Rattle.tt_state.specs.Keeps.{KeepsSessions, StandsFor}
use Rattle.tt_state.specs.Kept.{Kept}
use Rattle.tt_state.specs.Moves.{with_ended}

-- the state of a session that is there
pub state_is : (store : Plain) (session : ℕ) (state : PlainSession) → slice_get store.sessions session ≡ Some state → session_at store session ≡ state
state_is store session state at = ap (λ (o : Option PlainSession). unwrap_or o new_session) at

-- a session without a transaction
pub closed_at : (store : Plain) (kept : Kept) (session : ℕ) (state : PlainSession) → KeepsSessions store kept → slice_get store.sessions session ≡ Some state → state.transaction ≡ false
closed_at store kept session state keeps at = every_at (λ (s : PlainSession). s.transaction ≡ false) store.sessions session state keeps.alone at

module _ (chronicle : Chronicle) (kept : Kept) (room session index : ℕ) (read : Result Statement ℕ) (stands : StandsFor chronicle kept room) (next : IsNext chronicle.program (store_of chronicle) session index (asked_with chronicle.program (store_of chronicle) session index read)) where
  abbrev store : Plain
  store = store_of chronicle

  abbrev asked : Asked
  asked = asked_with chronicle.program store session index read

  abbrev ended : Reply → Plain
  ended reply = applied store (ended_with asked reply)

  abbrev done : PlainSession
  done = record (session_at store session) { done = index; running = None }

  -- a statement that is refused, or finds no memory
  pub ended_goes : (k : EntryKind) (reply : Reply) → step_of built chronicle.program store (entry_at store.moment session index k) ≡ Some (ended reply, Some reply) → parts_added k ≡ []
      → IsTrueEntry built chronicle.program chronicle.cap (rows_of chronicle) store (entry_at store.moment session index k)
      → GoesOn chronicle kept (with_ended chronicle.program kept session index) (entry_at store.moment session index k) (ended reply) (Some reply)
  unfolding applied ended_with
  ended_goes k reply step none true_entry =
      let at : session_at store session ≡ next.state = state_is store session next.state next.turn.state_is in
      record {
        step = step;
        less = ended_less chronicle.program store (ended reply) session index next.lines next.state done next.turn refl refl refl;
        few = omega arith;
        true_entry = true_entry;
        parts = parts_stay kept.parts kept.parts refl;
        tables = tables_stay store.tables store.tally store.tally (rows_of chronicle) (contents_with built chronicle.program (rows_of chronicle) (store, entry_at store.moment session index k)) kept (with_ended chronicle.program kept session index)
            stands.tables refl refl (contents_same built chronicle.program (rows_of chronicle) (store, entry_at store.moment session index k) none) refl refl refl;
        sessions = record {
          moment = ap (λ m. m + 1) stands.sessions.moment;
          sessions = sessions_now chronicle.program store (ended reply) session index next.lines next.state done next.turn refl kept.sessions stands.sessions.sessions;
          marks = same_marks chronicle.program store (ended reply) session index next.lines next.state done next.turn refl kept.marks stands.sessions.marks (ap (λ (s : PlainSession). s.marks) at);
          pins = stands.sessions.pins;
          idle = idle_now chronicle.program store (ended reply) session index next.lines next.state done next.turn refl stands.sessions.idle (λ none. stands.sessions.idle session next.state next.turn.state_is next.idle) (λ other ne. refl);
          points = ap (λ ps. slice_set ps (point_place chronicle.program session index) (Some (kept.moment + 1))) stands.sessions.points ∙ ap (λ m. slice_set store.points (point_place chronicle.program session index) (Some (m + 1))) stands.sessions.moment;
          alone = alone_now chronicle.program store (ended reply) session index next.lines next.state done next.turn refl stands.sessions.alone (ap (λ (s : PlainSession). s.transaction) at ∙ closed_at store kept session next.state stands.sessions next.turn.state_is);
          settled = stands.sessions.settled;
        };
      }
