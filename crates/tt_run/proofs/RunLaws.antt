-- The beginning and the end of a run, session after session.
use Rattle.std.specs.List.{enumerate_from, list_all}
use Rattle.std.specs.Prelude.{Bool, List, None, Option, Some, [], false, is_none, length, map, not, refl, slice_get, true, unwrap_or, ℕ, ◌&&◌, ◌++◌, ◌+◌, ◌<◌, ◌==◌, ◌∷◌, ◌≡◌, ◌≤◌}
use Rattle.std.proofs.Common.{ap, arith, inl, inr, subst, suc, sym, zero, ◌∙◌}
use Rattle.std.proofs.lemmas.Bool.{cases_lt}
use Rattle.std.proofs.lemmas.List.Sums.{sum_by-cons}
use Rattle.std.proofs.lemmas.Option.{none-some, same_Some, slice_get_within}
use Rattle.tt_script.specs.declared.script.Script.{Script}
use Rattle.tt_script.specs.declared.script.SessionText.{SessionText}
use Rattle.tt_history.specs.declared.history.Entry.{Entry}
use Rattle.tt_plain.proofs.Tests.{same_test}
use Rattle.tt_plain.specs.declared.store.Plain.{Plain}
use Rattle.tt_plain.specs.declared.store.PlainOpen.{PlainOpen}
use Rattle.tt_plain.specs.declared.store.PlainSession.{PlainSession}
use Rattle.tt_plain.specs.history.Complete.{all_finished, is_finished}
use Rattle.tt_plain.specs.history.Replay.{replay_from, replay_of, store_after}
use Rattle.tt_plain.specs.stored.Empty.{empty_store}
use Rattle.tt_plain.specs.stored.Points.{count_in, statement_count}
use Rattle.tt_plain.specs.stored.Sessions.{new_session, session_at}
use Rattle.tt_built.specs.Built.{built}
use Rattle.tt_state.specs.Chronicle.{Chronicle, store_of}
use Rattle.tt_state.specs.Owed.{statements_in}
use Rattle.tt_run.specs.Sessions.{AreInOrder, HasFinished, IsIdle}
use Rattle.tt_run.specs.Turns.{AreDone, AreNew, HasReplies, InTurn, KeepsOthers}

-- ---- the beginning

pub begun : (chronicle : Chronicle) → chronicle.history ≡ [] → HasReplies chronicle []
unfolding replay_of replay_from
begun chronicle none = record { run = (empty_store chronicle.program, []); replayed = ap (λ (h : List Entry). replay_of built chronicle.program h) none; given = refl }

new_at : (all : List SessionText) (session : ℕ) → session < length all → slice_get (map (λ (_ : SessionText). new_session) all) session ≡ Some new_session
new_at [] session less = absurd (omega (arith, less))
new_at (first ∷ all) zero less = refl
new_at (first ∷ all) (suc session) less = new_at all session (omega (arith, less))

empty_new : (program : Script) → AreNew program (empty_store program) 0
unfolding empty_store
empty_new program session from less = record { state = new_session; there = new_at program.sessions session less; counted = refl; running = refl; transaction = refl }

pub all_new : (program : Script) (chronicle : Chronicle) → chronicle.program ≡ program → chronicle.history ≡ [] → AreNew program (store_of chronicle) 0
unfolding store_after
all_new program chronicle same none =
    subst (λ (s : Plain). AreNew program s 0) (ap empty_store (sym same) ∙ ap (λ (h : List Entry). store_after built chronicle.program h) (sym none)) (empty_new program)

pub none_done : (program : Script) (store : Plain) → AreDone program store 0
none_done program store = λ session lines less at. absurd (omega (arith, less))

-- ---- a session's turn

append_nil : {A : Type 0} (xs : List A) → xs ++ [] ≡ xs
append_nil [] = refl
append_nil (x ∷ xs) = ap (λ ys. x ∷ ys) (append_nil xs)

-- so far it has no entry
pub turn_begins : (program : Script) (chronicle : Chronicle) (session : ℕ) → chronicle.program ≡ program → AreInOrder program session chronicle.history → InTurn chronicle session
turn_begins program chronicle session same order = record {
  before = chronicle.history;
  own = [];
  parts = sym (append_nil chronicle.history);
  first = subst (λ (p : Script). AreInOrder p session chronicle.history) (sym same) order;
  of = tt;
}

-- its statements are done, and it is finished
idle_finished : (program : Script) (store : Plain) (session : ℕ) (lines : SessionText) → slice_get program.sessions session ≡ Some lines → IsIdle store session (length lines.statements) → (state : PlainSession) → slice_get store.sessions session ≡ Some state → is_finished program session state ≡ true
idle_finished program store session lines at idle state there =
    let same : state ≡ idle.state = same_Some state idle.state (sym there ∙ idle.there) in
    ap (is_finished program session) same
    ∙ ap (λ (o : Option PlainOpen). (is_none o && idle.state.done == count_in (slice_get program.sessions session)) && not idle.state.transaction) idle.running
    ∙ ap (λ b. idle.state.done == count_in (slice_get program.sessions session) && not b) idle.transaction
    ∙ ap (λ b. b && true) (ap (λ n. n == count_in (slice_get program.sessions session)) idle.counted ∙ ap (λ (o : Option SessionText). length lines.statements == count_in o) at ∙ same_test (length lines.statements))

pub turn_ends : (program : Script) (chronicle : Chronicle) (session : ℕ) (lines : SessionText) → chronicle.program ≡ program → slice_get program.sessions session ≡ Some lines → InTurn chronicle session → IsIdle (store_of chronicle) session (length lines.statements) → AreInOrder program (session + 1) chronicle.history
turn_ends program chronicle session lines same at turn idle =
    let finished : is_finished chronicle.program session (session_at (store_of chronicle) session) ≡ true =
    ap (λ (o : Option PlainSession). is_finished chronicle.program session (unwrap_or o new_session)) idle.there
    ∙ idle_finished chronicle.program (store_of chronicle) session lines (ap (λ (p : Script). slice_get p.sessions session) same ∙ at) idle idle.state idle.there in
    let ordered : AreInOrder chronicle.program (suc session) chronicle.history = (turn, finished) in
    let count : suc session ≡ session + 1 = omega arith in
    subst (λ n. AreInOrder program n chronicle.history) count (subst (λ (p : Script). AreInOrder p (suc session) chronicle.history) same ordered)

-- the later ones are new
pub next_new : (program : Script) (old new : Plain) (session : ℕ) → AreNew program old session → KeepsOthers old new session → AreNew program new (session + 1)
next_new program old new session before others = λ later from known.
    let idle = before later (omega (arith, from)) known in
    record {
      state = idle.state;
      there = others later (λ e. omega (arith, e, from)) ∙ idle.there;
      counted = idle.counted;
      running = idle.running;
      transaction = idle.transaction;
    }

stays_idle : (old new : Plain) (session done : ℕ) → slice_get new.sessions session ≡ slice_get old.sessions session → IsIdle old session done → IsIdle new session done
stays_idle old new session done same idle =
    record { state = idle.state; there = same ∙ idle.there; counted = idle.counted; running = idle.running; transaction = idle.transaction }

-- and one more is done
pub one_more_done : (program : Script) (old new : Plain) (session : ℕ) (lines : SessionText) → slice_get program.sessions session ≡ Some lines → AreDone program old session → KeepsOthers old new session → IsIdle new session (length lines.statements) → AreDone program new (session + 1)
one_more_done program old new session lines at done others idle = λ other texts less found. elim (cases_lt other session) [
  | inl before ↦ stays_idle old new other (length texts.statements) (others other (λ e. omega (arith, e, before))) (done other texts before found)
  | inr from ↦
      let same : session ≡ other = omega (arith, less, from) in
      let lines_are : lines ≡ texts = same_Some lines texts (sym at ∙ ap (λ s. slice_get program.sessions s) same ∙ found) in
      subst (λ s. IsIdle new s (length texts.statements)) same (subst (λ (l : SessionText). IsIdle new session (length l.statements)) lines_are idle)
]

-- ---- numbers of statements

few_in : (all : List SessionText) (session : ℕ) (lines : SessionText) → slice_get all session ≡ Some lines → length lines.statements ≤ statements_in all
few_in [] session lines e = absurd (none-some lines e)
few_in (first ∷ all) zero lines e =
    let same : length first.statements ≡ length lines.statements = ap (λ (l : SessionText). length l.statements) (same_Some first lines e) in
    omega (arith, sum_by-cons statement_count first all, same)
few_in (first ∷ all) (suc session) lines e = omega (arith, sum_by-cons statement_count first all, few_in all session lines e)

pub few_statements_in : (program : Script) (session : ℕ) (lines : SessionText) → slice_get program.sessions session ≡ Some lines → statements_in program.sessions ≤ 100000 → length lines.statements ≤ 100000
few_statements_in program session lines e few = omega (arith, few_in program.sessions session lines e)

-- ---- the end

done_from : (program : Script) (number : ℕ) (states : List PlainSession) → ((place : ℕ) (state : PlainSession) → slice_get states place ≡ Some state → is_finished program (number + place) state ≡ true)
    → list_all (λ found. is_finished program found.0 found.1) (enumerate_from number states) ≡ true
done_from program number [] done = refl
done_from program number (state ∷ states) done =
    let here : is_finished program number state ≡ true = ap (λ n. is_finished program n state) (omega arith) ∙ done 0 state refl in
    let later : list_all (λ found. is_finished program found.0 found.1) (enumerate_from (number + 1) states) ≡ true =
    done_from program (number + 1) states (λ place other at. ap (λ n. is_finished program n other) (omega arith) ∙ done (suc place) other at) in
    rw (here, later) refl

lines_at : (all : List SessionText) (session : ℕ) → session < length all → (lines : SessionText) × (slice_get all session ≡ Some lines)
lines_at [] session less = absurd (omega (arith, less))
lines_at (first ∷ all) zero less = (first, refl)
lines_at (first ∷ all) (suc session) less = lines_at all session (omega (arith, less))

-- sessions that are done have nothing left to do
pub all_are_finished : (program : Script) (store : Plain) → length store.sessions ≡ length program.sessions → AreDone program store (length program.sessions) → all_finished program store ≡ true
all_are_finished program store same done =
    done_from program 0 store.sessions (λ place state at.
    let known : place < length program.sessions = omega (arith, same, slice_get_within store.sessions place state at) in
    let lines = lines_at program.sessions place known in
    ap (λ n. is_finished program n state) (omega arith)
    ∙ idle_finished program store place lines.0 lines.1 (done place lines.0 known lines.1) state at)
