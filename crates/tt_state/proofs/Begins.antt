-- A catalog without tables stands for its program and an empty history.
use Rattle.std.specs.FinMap as finite
use Rattle.std.specs.Ordering.{nat_cmp}
use Rattle.std.specs.Cmp.Lexicographic.{slice_cmp}
use Rattle.std.specs.Prelude.{List, [], false, map, refl, slice_get, unwrap_or, ℕ, ◌∷◌, ◌≡◌, ◌≤◌, length}
use Rattle.std.proofs.Common.{ap, arith, suc, sym, zero}
use Rattle.tt_script.specs.declared.script.Script.{Script}
use Rattle.tt_script.specs.declared.script.SessionText.{SessionText}
use Rattle.tt_script.specs.Program.{IsProgram}
use Rattle.tt_plain.specs.declared.store.PlainSession.{PlainSession}
use Rattle.tt_plain.specs.history.Contents.{contents_of}
use Rattle.tt_plain.specs.history.Replay.{pairs_of, replay_from, replay_of, store_after}
use Rattle.tt_plain.specs.law.Lists.{Every}
use Rattle.tt_plain.specs.stored.Empty.{empty_store}
use Rattle.tt_plain.specs.stored.Sessions.{new_session}
use Rattle.tt_built.specs.Built.{built}
use Rattle.tt_state.proofs.Lists.{map_twice}
use Rattle.tt_state.proofs.Owed.{owed_first}
use Rattle.tt_state.proofs.TrueFacts.{no_facts}
use Rattle.tt_state.specs.Keeps.{KeepsSessions, KeepsTables, StandsFor, mark_of, session_of}
use Rattle.tt_state.specs.Moves.{first_kept}
use Rattle.tt_state.specs.Owed.{entry_limit, owed}

all_new : (lines : List SessionText) (k : ℕ) → unwrap_or (slice_get (map (λ (_ : SessionText). new_session) lines) k) new_session ≡ new_session
all_new [] k = refl
all_new (first ∷ lines) zero = refl
all_new (first ∷ lines) (suc k) = all_new lines k

all_alone : (lines : List SessionText) → Every (λ (state : PlainSession). state.transaction ≡ false) (map (λ (_ : SessionText). new_session) lines)
all_alone [] = tt
all_alone (first ∷ lines) = (refl, all_alone lines)

first_tables : (program : Script) → KeepsTables (empty_store program).tables (empty_store program).tally [] (first_kept program)
unfolding empty_store
first_tables program = record {
  tables = refl;
  names = λ name. finite.get-empty (slice_cmp nat_cmp) name;
  facts = refl;
  whole = refl;
  parts = tt;
  contents = refl;
  layouts = tt;
}

first_sessions : (program : Script) → KeepsSessions (empty_store program) (first_kept program)
unfolding empty_store
first_sessions program = record {
  moment = refl;
  sessions = sym (map_twice session_of (λ (_ : SessionText). new_session) program.sessions);
  marks = λ session. ap (λ (s : PlainSession). map (mark_of session) s.marks) (sym (all_new program.sessions session));
  pins = λ session. refl;
  idle = λ session state at none. refl;
  points = refl;
  alone = all_alone program.sessions;
  settled = refl;
}

owed_store : (program : Script) → owed program.sessions (empty_store program).sessions ≡ entry_limit program
unfolding empty_store
owed_store program = owed_first program

no_tables : (program : Script) → length (empty_store program).tables ≤ 0
unfolding empty_store
no_tables program = omega arith

pub begins : (program : Script) (cap room : ℕ) → IsProgram program → (1 ≤ cap) × (cap ≤ 65536) → entry_limit program ≤ room → StandsFor (record { program = program; cap = cap; history = []; kept = first_kept program }) (first_kept program) room
unfolding store_after contents_of pairs_of replay_of replay_from
begins program cap room limits capped roomy = record {
  legal = record { run = (empty_store program, []); replayed = refl };
  true_facts = no_facts built program cap;
  tables = first_tables program;
  sessions = first_sessions program;
  limits = limits;
  capped = capped;
  few = no_tables program;
  counted = omega (arith, owed_store program);
  roomy = omega (arith, owed_store program, roomy);
}
