-- How many entries are owed at the beginning, and that each statement that begins or ends owes fewer.
use Rattle.std.specs.Prelude.{List, None, Some, [], codes, cond, decimal, flat_map, is_some, length, map, refl, slice_get, slice_set, take, true, false, ℕ, ◌*◌, ◌+◌, ◌++◌, ◌-◌, ◌<◌, ◌∷◌, ◌≡◌, ◌≤◌}
use Rattle.std.specs.List.{sum_by}
use Rattle.std.proofs.Common.{ap, arith, length-append, subst, suc, zero}
use Rattle.std.proofs.lemmas.List.FromFn.{length-map-range_with_len}
use Rattle.std.proofs.lemmas.List.Sums.{sum_by-cons}
use Rattle.std.proofs.lemmas.Option.{none-some, same_Some}
use Rattle.tt_script.specs.declared.script.Script.{Script}
use Rattle.tt_script.specs.declared.script.SessionText.{SessionText}
use Rattle.tt_script.specs.Program.{IsProgram, all_statements}
use Rattle.tt_plain.specs.declared.store.PlainSession.{PlainSession}
use Rattle.tt_plain.specs.stored.Points.{ids_of, query_ids, statement_count}
use Rattle.tt_plain.specs.stored.Sessions.{new_session}
use Rattle.tt_state.specs.Owed.{entry_limit, owed, owed_by, statements_in}

pub owed-set : (all : List SessionText) (states : List PlainSession) (place : ℕ) (lines : SessionText) (old new : PlainSession) → slice_get all place ≡ Some lines → slice_get states place ≡ Some old
    → owed all (slice_set states place new) + owed_by lines old ≡ owed all states + owed_by lines new
owed-set [] states place lines old new l s = absurd (none-some lines l)
owed-set (first ∷ all) [] place lines old new l s = absurd (none-some old s)
owed-set (first ∷ all) (state ∷ states) zero lines old new l s =
    let same : first ≡ lines = same_Some first lines l in
    let was : state ≡ old = same_Some state old s in
    subst (λ (x : SessionText). owed_by first new + owed all states + owed_by x old ≡ owed_by first state + owed all states + owed_by x new) same
    (subst (λ (y : PlainSession). owed_by first new + owed all states + owed_by first y ≡ owed_by first state + owed all states + owed_by first new) was (omega arith))
owed-set (first ∷ all) (state ∷ states) (suc place) lines old new l s =
    omega (arith, owed-set all states place lines old new l s)

-- an end, and a start, owes fewer
pub fewer_owed : (lines : SessionText) (state new : PlainSession) → new.running ≡ None → new.done ≡ state.done + 1 → state.done < statement_count lines → owed_by lines new < owed_by lines state
fewer_owed lines state new idle counted within =
    rw idle (elim (is_some state.running) as (λ b. 3 * (statement_count lines - new.done) + 1 - 0 < 3 * (statement_count lines - state.done) + 1 - cond b 1 0) [ true ↦ omega arith | false ↦ omega arith ])

pub one_less_owed : (lines : SessionText) (state new : PlainSession) → state.running ≡ None → is_some new.running ≡ true → new.done ≡ state.done → owed_by lines new < owed_by lines state
one_less_owed lines state new idle opened counted = rw (idle, opened) (omega arith)

owed_new : (all : List SessionText) → owed all (map (λ _. new_session) all) ≡ 3 * statements_in all + length all
owed_new [] = refl
owed_new (lines ∷ all) = omega (arith, owed_new all, sum_by-cons statement_count lines all)

pub owed_first : (program : Script) → owed program.sessions (map (λ _. new_session) program.sessions) ≡ entry_limit program
owed_first program = owed_new program.sessions

statements_counted : (sessions : List SessionText) → statements_in sessions ≡ length (all_statements sessions)
statements_counted [] = refl
statements_counted (lines ∷ sessions) = omega (arith, sum_by-cons statement_count lines sessions, statements_counted sessions, length-append lines.statements (all_statements sessions))

pub few_statements : (program : Script) → IsProgram program → statements_in program.sessions ≤ 100000
few_statements program limits = omega (arith, statements_counted program.sessions, limits.few_statements)

ids_counted : (sessions : List SessionText) → length (flat_map ids_of sessions) ≡ statements_in sessions
ids_counted [] = refl
ids_counted (lines ∷ sessions) =
    omega (
      arith,
      sum_by-cons statement_count lines sessions,
      ids_counted sessions,
      length-append (ids_of lines) (flat_map ids_of sessions),
      length-map-range_with_len (λ (index : ℕ). lines.name ++ codes "-" ++ decimal index) 1 (length lines.statements),
    )

-- there is a query id for each statement
pub ids_of_program : (program : Script) → length (query_ids program) ≡ statements_in program.sessions
unfolding query_ids
ids_of_program program = ids_counted program.sessions

-- the place of a statement's point is before the end
pub point_within : (all : List SessionText) (session before : ℕ) (lines : SessionText) → slice_get all session ≡ Some lines → before < length lines.statements → sum_by statement_count (take session all) + before < statements_in all
point_within [] session before lines found less = absurd (none-some lines found)
point_within (first ∷ all) zero before lines found less =
    let e : length first.statements ≡ length lines.statements = ap (λ (l : SessionText). length l.statements) (same_Some first lines found) in
    omega (arith, sum_by-cons statement_count first all, e, less)
point_within (first ∷ all) (suc session) before lines found less =
    omega (arith, sum_by-cons statement_count first all, sum_by-cons statement_count first (take session all), point_within all session before lines found less)
