-- Entries that a catalog made go on with its replies, and move their own session alone.
use Rattle.std.specs.Prelude.{Bool, List, None, Option, Result, Some, [], false, is_none, option_map, refl, slice_get, true, unwrap_or, ℕ, ◌&&◌, ◌++◌, ◌+◌, ◌-◌, ◌==◌, ◌∷◌, ◌≡◌, ◌≢◌}
use Rattle.std.proofs.Common.{ap, append_assoc, subst, sym, ◌∙◌}
use Rattle.tt_script.specs.declared.script.Script.{Script}
use Rattle.tt_sql.specs.declared.statement.Statement.{Statement}
use Rattle.tt_history.specs.declared.history.Entry.{Entry}
use Rattle.tt_history.specs.declared.history.EntryKind.{EntryKind}
use Rattle.tt_history.specs.declared.reply.Reply.{Reply}
use Rattle.tt_plain.proofs.Tests.{same_test}
use Rattle.tt_script.specs.Lines.{only_if}
use Rattle.tt_plain.specs.Answers.{◌>>=◌}
use Rattle.tt_plain.specs.asked.Turns.{asked_with, is_idle_before, next_asked, statement_read}
use Rattle.tt_plain.specs.declared.store.Plain.{Plain}
use Rattle.tt_plain.specs.declared.store.PlainOpen.{PlainOpen}
use Rattle.tt_plain.specs.declared.store.PlainSession.{PlainSession}
use Rattle.tt_plain.specs.history.Replay.{replay_of}
use Rattle.tt_plain.specs.history.Step.{step_of}
use Rattle.tt_plain.specs.law.Lists.{Every}
use Rattle.tt_plain.specs.stored.Sessions.{new_session, session_at}
use Rattle.tt_plain.specs.text.Transcript.{given_replies}
use Rattle.tt_built.specs.Built.{built}
use Rattle.tt_state.proofs.Histories.{replay_longer, store_is}
use Rattle.tt_state.specs.Chronicle.{Chronicle, IsNextRead, MadeEntry, entry_at, store_of}
use Rattle.tt_history.specs.declared.history.Actor.TheVariants as actor
use Rattle.tt_run.proofs.Left.{alone_behind, idle_behind, others_behind}
use Rattle.tt_run.specs.Sessions.{AreInOrder, AreOf, IsIdle, IsSingle}
use Rattle.tt_run.specs.Turns.{GoesOn, HasReplies, InTurn, IsAlone, IsAnswered, Moves}

given-some : (told : List (Option Reply)) (answer : Reply) → given_replies (told ++ Some answer ∷ []) ≡ given_replies told ++ answer ∷ []
given-some [] answer = refl
given-some (None ∷ told) answer = given-some told answer
given-some (Some r ∷ told) answer = ap (λ rs. r ∷ rs) (given-some told answer)

given-none : (told : List (Option Reply)) → given_replies (told ++ None ∷ []) ≡ given_replies told
given-none [] = refl
given-none (None ∷ told) = given-none told
given-none (Some r ∷ told) = ap (λ rs. r ∷ rs) (given-none told)

-- ---- the order of entries

all_of : (session : ℕ) (own : List Entry) (entry : Entry) → AreOf session own → entry.actor ≡ actor.Session session → AreOf session (own ++ entry ∷ [])
all_of session [] entry of is = (is, tt)
all_of session (first ∷ own) entry of is = (of.0, all_of session own entry of.1 is)

turn_goes_on : (old new : Chronicle) (entry : Entry) (session : ℕ) → entry.actor ≡ actor.Session session → new.program ≡ old.program → new.history ≡ old.history ++ entry ∷ [] → InTurn old session → InTurn new session
turn_goes_on old new entry session is same longer turn = record {
  before = turn.before;
  own = turn.own ++ entry ∷ [];
  parts = longer ∙ ap (λ (h : List Entry). h ++ entry ∷ []) turn.parts ∙ append_assoc turn.before turn.own (entry ∷ []);
  first = subst (λ (p : Script). AreInOrder p session turn.before) (sym same) turn.first;
  of = all_of session turn.own entry turn.of is;
}

made_moves : (old new : Chronicle) (session index : ℕ) (kind : EntryKind) (told : Option Reply) → IsSingle kind → MadeEntry old new (entry_at (store_of old).moment session index kind) told → Moves old new session
made_moves old new session index kind told single made = record {
  same_program = made.same_program;
  same_cap = made.same_cap;
  others = λ other ne. others_behind old.program (store_of old) session index ((store_of old).moment + 1) kind (store_of new) told single made.step other ne;
  turn = turn_goes_on old new (entry_at (store_of old).moment session index kind) session refl made.same_program made.longer;
}

then_moves : (old middle new : Chronicle) (session : ℕ) → Moves old middle session → Moves middle new session → Moves old new session
then_moves old middle new session first second = record {
  same_program = second.same_program ∙ first.same_program;
  same_cap = second.same_cap ∙ first.same_cap;
  others = λ other ne. second.others other ne ∙ first.others other ne;
  turn = λ turn. second.turn (first.turn turn);
}

-- ---- replies

-- the run of the catalog after an entry
made_run : (old new : Chronicle) (entry : Entry) (answer : Option Reply) (replies : List Reply) → MadeEntry old new entry answer → (has : HasReplies old replies)
    → replay_of built new.program new.history ≡ Some (store_of new, has.run.1 ++ answer ∷ [])
made_run old new entry answer replies made has =
    let here : step_of built old.program has.run.0 entry ≡ Some (store_of new, answer) =
    ap (λ (s : Plain). step_of built old.program s entry) (sym (store_is built old.program old.history has.run has.replayed)) ∙ made.step in
    ap (λ (p : Script). replay_of built p new.history) made.same_program
    ∙ ap (λ (h : List Entry). replay_of built old.program h) made.longer
    ∙ replay_longer built old.program old.history entry has.run (store_of new, answer) has.replayed here

pub made_goes_on : (old new : Chronicle) (session index : ℕ) (kind : EntryKind) → IsSingle kind → MadeEntry old new (entry_at (store_of old).moment session index kind) None → GoesOn old new session
made_goes_on old new session index kind single made = record {
  moves = made_moves old new session index kind None single made;
  keeps = λ replies has. record {
    run = (store_of new, has.run.1 ++ None ∷ []);
    replayed = made_run old new (entry_at (store_of old).moment session index kind) None replies made has;
    given = given-none has.run.1 ∙ has.given;
  };
  alone = λ alone. alone_behind old.program (store_of old) session index ((store_of old).moment + 1) kind (store_of new) None single alone made.step;
}

pub made_answers : (old new : Chronicle) (session index : ℕ) (kind : EntryKind) (answer : Reply) → IsSingle kind → MadeEntry old new (entry_at (store_of old).moment session index kind) (Some answer) → IsAnswered old new session index answer
made_answers old new session index kind answer single made = record {
  moves = made_moves old new session index kind (Some answer) single made;
  adds = λ replies has. record {
    run = (store_of new, has.run.1 ++ Some answer ∷ []);
    replayed = made_run old new (entry_at (store_of old).moment session index kind) (Some answer) replies made has;
    given = given-some has.run.1 answer ∙ ap (λ rs. rs ++ answer ∷ []) has.given;
  };
  idle = λ alone. idle_behind old.program (store_of old) session index ((store_of old).moment + 1) kind (store_of new) answer single alone made.step;
}

pub then_answers : (old middle new : Chronicle) (session index : ℕ) (answer : Reply) → GoesOn old middle session → IsAnswered middle new session index answer → IsAnswered old new session index answer
then_answers old middle new session index answer begun answered = record {
  moves = then_moves old middle new session begun.moves answered.moves;
  adds = λ replies has. answered.adds replies (begun.keeps replies has);
  idle = λ alone. answered.idle (begun.alone alone);
}

-- ---- a session between its statements

pub idle_alone : (chronicle : Chronicle) (session done : ℕ) → IsIdle (store_of chronicle) session done → IsAlone chronicle session
idle_alone chronicle session done idle = ap (λ (o : Option PlainSession). (unwrap_or o new_session).transaction) idle.there ∙ idle.transaction

-- an idle session's next statement
pub idle_next : (chronicle : Chronicle) (session done : ℕ) (read : Result Statement ℕ) → IsIdle (store_of chronicle) session done → statement_read built chronicle.program session (done + 1) ≡ Some read → IsNextRead chronicle session (done + 1) read
unfolding next_asked
idle_next chronicle session done read idle said =
    let store = store_of chronicle in
    let test : is_idle_before (done + 1) idle.state ≡ true =
    ap (λ (o : Option PlainOpen). is_none o && done + 1 == idle.state.done + 1) idle.running ∙ ap (λ n. done + 1 == n + 1) idle.counted ∙ same_test (done + 1) in
    ap (λ (o : Option PlainSession). o >>= λ state. only_if (is_idle_before (done + 1) state) state >>= λ idle. statement_read built chronicle.program session (done + 1) >>= λ r. Some (asked_with chronicle.program store session (done + 1) r)) idle.there
    ∙ ap (λ b. only_if b idle.state >>= λ idle. statement_read built chronicle.program session (done + 1) >>= λ r. Some (asked_with chronicle.program store session (done + 1) r)) test
    ∙ ap (λ (o : Option (Result Statement ℕ)). o >>= λ r. Some (asked_with chronicle.program store session (done + 1) r)) said
