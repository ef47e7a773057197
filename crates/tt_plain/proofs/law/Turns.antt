-- An entry of a session's next statement, and of its open one: what is asked by it.
use Rattle.std.specs.Prelude.{None, Option, Result, Some, is_none, slice_get, true, ℕ, ◌+◌, ◌==◌, ◌≡◌}
use Rattle.std.proofs.lemmas.Bool.{and_parts}
use Rattle.tt_script.specs.declared.script.Script.{Script}
use Rattle.tt_sql.specs.declared.statement.Statement.{Statement}
use Rattle.tt_plain.specs.declared.store.Plain.{Plain}
use Rattle.tt_plain.specs.declared.store.PlainOpen.{PlainOpen}
use Rattle.tt_plain.specs.declared.store.PlainSession.{PlainSession}
use Rattle.tt_plain.specs.Answers.{◌>>=◌}
use Rattle.tt_plain.specs.asked.Asked.{Asked, request_asked, state_asked}
use Rattle.tt_plain.specs.asked.Carried.{Carried}
use Rattle.tt_plain.specs.asked.Event.{Event, first_event, is_same_event}
use Rattle.tt_plain.specs.asked.Turns.{asked_with, is_idle_before, next_asked, open_asked, statement_read}
use Rattle.tt_plain.specs.effect.Effect.{Effect}
use Rattle.tt_plain.specs.effect.Ending.{where_due}
use Rattle.tt_plain.specs.history.Step.{of_next, of_open}
use Rattle.tt_plain.proofs.Tests.{none_is, same_number}
use Rattle.tt_plain.proofs.law.Gives.{Gives, gives_bind, gives_later, gives_tested}

-- what is said of a session at its statement
pub record IsTurn (carried : Carried) (program : Script) (store : Plain) (session index : ℕ) (state : PlainSession) (read : Result Statement ℕ) : Type 0 where
  pub state_is : slice_get store.sessions session ≡ Some state
  pub counted : index ≡ state.done + 1
  pub said : statement_read carried program session index ≡ Some read

module _ (carried : Carried) (program : Script) (store : Plain) (session index : ℕ) where
  next_asked_gives : (Q : Asked → Type 0)
      → ((state : PlainSession) (read : Result Statement ℕ) → IsTurn carried program store session index state read → state.running ≡ None → Q (asked_with program store session index read))
      → Gives Q (next_asked carried program store session index)
  unfolding next_asked
  next_asked_gives Q gives =
      gives_bind Q (slice_get store.sessions session) _ (λ state at.
      gives_tested Q (is_idle_before index state) state _ (λ test.
      let both = and_parts (is_none state.running) (index == state.done + 1) test in
      gives_bind Q (statement_read carried program session index) _ (λ read said.
      gives state read (record { state_is = at; counted = same_number index (state.done + 1) both.1; said = said }) (none_is state.running both.0))))

  -- what an entry of the next statement gives, and one of the open statement
  pub next_gives : (P : Effect → Type 0) (f : Asked → Option Effect)
      → ((state : PlainSession) (read : Result Statement ℕ) → IsTurn carried program store session index state read → state.running ≡ None → Gives P (f (asked_with program store session index read)))
      → Gives P (of_next carried program store session index f)
  next_gives P f gives =
      gives_later P (next_asked carried program store session index) f (next_asked_gives (λ asked. Gives P (f asked)) gives)

  open_asked_gives : (Q : Asked × PlainOpen → Type 0)
      → ((state : PlainSession) (read : Result Statement ℕ) (seen : PlainOpen) → slice_get store.sessions session ≡ Some state → statement_read carried program session index ≡ Some read → state.running ≡ Some seen → seen.index ≡ index → Q (asked_with program store session index read, seen))
      → Gives Q (open_asked carried program store session index)
  unfolding open_asked
  open_asked_gives Q gives =
      gives_bind Q (slice_get store.sessions session) _ (λ state at.
      gives_bind Q state.running _ (λ seen running.
      gives_tested Q (seen.index == index) seen _ (λ test.
      gives_bind Q (statement_read carried program session index) _ (λ read said.
      gives state read seen at said running (same_number seen.index index test)))))

  pub open_gives : (P : Effect → Type 0) (f : Asked × PlainOpen → Option Effect)
      → ((state : PlainSession) (read : Result Statement ℕ) (seen : PlainOpen) → slice_get store.sessions session ≡ Some state → statement_read carried program session index ≡ Some read → state.running ≡ Some seen → seen.index ≡ index → Gives P (f (asked_with program store session index read, seen)))
      → Gives P (of_open carried program store session index f)
  open_gives P f gives =
      gives_later P (open_asked carried program store session index) f (open_asked_gives (λ found. Gives P (f found)) gives)

-- the statement, where its next event is of this kind
pub due_gives : (P : Effect → Type 0) (event : Event) (asked : Asked) (f : Asked → Option Effect) → (is_same_event event (first_event (state_asked asked).transaction (request_asked asked)) ≡ true → Gives P (f asked)) → Gives P (where_due event asked >>= f)
due_gives P event asked f gives = gives_tested P (is_same_event event (first_event (state_asked asked).transaction (request_asked asked))) asked f gives
