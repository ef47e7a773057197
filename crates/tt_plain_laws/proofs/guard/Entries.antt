-- Each entry that is allowed keeps the guards.
use Rattle.std.specs.Prelude.{Err, List, None, Option, Result, Some, [], is_none, refl, slice_get, unwrap_or, ℕ, ◌&&◌, ◌+◌, ◌==◌, ◌≡◌}
use Rattle.std.proofs.Common.{ap, subst, sym, ◌∙◌}
use Rattle.std.proofs.lemmas.Bool.{and_parts}
use Rattle.std.proofs.lemmas.Option.{none-some}
use Rattle.tt_history.specs.declared.history.Actor.{Actor}
use Rattle.tt_history.specs.declared.history.EntryKind.{EntryKind}
use Rattle.tt_plain.proofs.Answers.{bind_some, only_if_some}
use Rattle.tt_plain.proofs.Tests.{none_is}
use Rattle.tt_plain.proofs.law.Gives.{Gives, gives_at, gives_bind, gives_or, gives_tested, gives_when}
use Rattle.tt_plain.proofs.law.Turns.{next_gives, open_gives}
use Rattle.tt_plain.proofs.law.session.Alone.{IsDue}
use Rattle.tt_plain.specs.asked.Asked.{Asked}
use Rattle.tt_plain.specs.asked.Carried.{Carried}
use Rattle.tt_plain.specs.asked.Turns.{asked_with}
use Rattle.tt_plain.specs.declared.store.Plain.{Plain}
use Rattle.tt_plain.specs.declared.store.PlainOpen.{PlainOpen}
use Rattle.tt_plain.specs.declared.store.PlainSession.{PlainSession}
use Rattle.tt_plain.specs.effect.Effect.{Effect}
use Rattle.tt_plain.specs.effect.Landing.{lands_with, round_end_effect}
use Rattle.tt_plain.specs.effect.Miss.{may_miss, round_miss_effect}
use Rattle.tt_plain.specs.effect.Purge.{may_purge, purge_effect}
use Rattle.tt_plain.specs.effect.Rollback.{closing_effect, has_ended_statements, rollback_effect}
use Rattle.tt_plain.specs.effect.Round.{may_be_reclustered, miss_of, round_of, worker_effect}
use Rattle.tt_plain.specs.effect.RoundStart.{may_take, round_start_effect}
use Rattle.tt_plain.specs.history.Step.{actor_entry, effect_of, of_next, of_open, purge_entry, round_entry, session_entry}
use Rattle.tt_plain.specs.law.Sound.{IsSound}
use Rattle.tt_plain.specs.stored.Points.{count_in}
use Rattle.tt_plain.specs.stored.Sessions.{new_session, session_at}
use Rattle.tt_plain.specs.stored.Tables.{table_numbered}
use Rattle.tt_plain.specs.tally.Changes.{TallyChange}
use Rattle.tt_script.specs.declared.script.Script.{Script}
use Rattle.tt_sql.specs.declared.statement.Statement.{Statement}
use Rattle.tt_plain_laws.proofs.guard.Defines.{define_keeps}
use Rattle.tt_plain_laws.proofs.guard.Ends.{commit_keeps, end_keeps}
use Rattle.tt_plain_laws.proofs.guard.Kept.{KeepsGuards, effect_guarded}
use Rattle.tt_plain_laws.proofs.guard.Sessions.{abandon_keeps, begin_keeps, report_keeps, rollback_keeps, rolled_back_keeps, wait_keeps}
use Rattle.tt_plain_laws.proofs.guard.Starts.{start_keeps}
use Rattle.tt_plain_laws.specs.Guarded.{AreGuarded, EntriesKeepGuards}
use Rattle.tt_history.specs.declared.history.Actor.TheVariants as actor
use Rattle.tt_history.specs.declared.history.EntryKind.TheVariants as kind

-- ---- workers

worker_keeps : (store : Plain) (tally : List TallyChange) → KeepsGuards store (worker_effect store tally)
worker_keeps store tally = record { own = λ session new e next is. absurd (none-some (session, new) e); others = λ other state at apart. tt }

module _ (store : Plain) where
  abbrev Keeps : Effect → Type 0
  Keeps effect = KeepsGuards store effect

  round_keeps : (index : ℕ) (k : EntryKind) → Gives Keeps (round_entry store index k)
  unfolding round_entry round_start_effect round_end_effect round_miss_effect
  round_keeps index (kind.RecluStart number parts) =
      gives_tested Keeps (is_none store.tally.round && index == store.tally.rounds + 1) index _ (λ next.
      gives_bind Keeps (table_numbered store number) _ (λ table there.
      gives_tested Keeps (may_be_reclustered store table && may_take store.tally number parts) table _ (λ free.
      gives_bind Keeps table.key _ (λ key has_key. worker_keeps store _))))
  round_keeps index (kind.RecluEnd table gone added) =
      gives_bind Keeps (round_of store index table) _ (λ round there.
      gives_tested Keeps (is_none (miss_of store round) && lands_with store.tally round gone added) round _ (λ lands. worker_keeps store _))
  round_keeps index (kind.RecluMiss table why) =
      gives_bind Keeps (round_of store index table) _ (λ round there.
      gives_tested Keeps (may_miss (miss_of store round) why) round _ (λ missed. worker_keeps store _))
  round_keeps index _ = tt

  purge_keeps : (index : ℕ) (k : EntryKind) → Gives Keeps (purge_entry store index k)
  unfolding purge_entry purge_effect
  purge_keeps index (kind.Purge parts) = gives_when Keeps (index == store.tally.purges + 1 && may_purge store parts) _ (λ test. worker_keeps store _)
  purge_keeps index _ = tt

-- ---- sessions

module _ (carried : Carried) (program : Script) (store : Plain) (sound : IsSound carried program store) (guarded : AreGuarded store) where
  module _ (session index : ℕ) where
    same_state : (state : PlainSession) → slice_get store.sessions session ≡ Some state → session_at store session ≡ state
    same_state state at = ap (λ (s : Option PlainSession). unwrap_or s new_session) at

    due_of : (state : PlainSession) (read : Result Statement ℕ) → slice_get store.sessions session ≡ Some state → IsDue carried (asked_with program store session index read)
    due_of state read at = record { sound = sound; next = refl; at = at ∙ ap Some (sym (same_state state at)) }

    next_keeps : (f : Asked → Option Effect)
        → ((read : Result Statement ℕ) → IsDue carried (asked_with program store session index read) → (session_at store session).running ≡ None → Gives (Keeps store) (f (asked_with program store session index read)))
        → Gives (Keeps store) (of_next carried program store session index f)
    next_keeps f gives =
        next_gives carried program store session index (Keeps store) f (λ state read turn idle.
        gives read (due_of state read turn.state_is) (ap (λ (s : PlainSession). s.running) (same_state state turn.state_is) ∙ idle))

    open_keeps : (f : Asked × PlainOpen → Option Effect)
        → ((read : Result Statement ℕ) (seen : PlainOpen) → IsDue carried (asked_with program store session index read) → (session_at store session).running ≡ Some seen → Gives (Keeps store) (f (asked_with program store session index read, seen)))
        → Gives (Keeps store) (of_open carried program store session index f)
    open_keeps f gives =
        open_gives carried program store session index (Keeps store) f (λ state read seen at said running counted.
        gives read seen (due_of state read at) (ap (λ (s : PlainSession). s.running) (same_state state at) ∙ running))

    closing_keeps : Gives (Keeps store) (closing_effect program store session index)
    unfolding closing_effect
    closing_keeps =
        gives_bind (Keeps store) (slice_get store.sessions session) _ (λ state at.
        gives_tested (Keeps store) (has_ended_statements program session state && index == state.done + 1) state _ (λ test.
        gives_tested (Keeps store) state.transaction state _ (λ in_transaction.
        let ended = and_parts (is_none state.running) (state.done == count_in (slice_get program.sessions session)) (and_parts (has_ended_statements program session state) (index == state.done + 1) test).0 in
        rolled_back_keeps carried (asked_with program store session index (Err 0)) (due_of state (Err 0) at) guarded state [] None (none_is state.running ended.0))))

    session_keeps : (k : EntryKind) → Gives (Keeps store) (session_entry carried program store session index k)
    unfolding session_entry
    session_keeps (kind.Begin t) = next_keeps _ (λ read due idle. begin_keeps carried (asked_with program store session index read) due guarded t)
    session_keeps (kind.Start t) = next_keeps _ (λ read due idle. start_keeps carried (asked_with program store session index read) due guarded t)
    session_keeps (kind.End gone added) = open_keeps _ (λ read seen due running. end_keeps carried (asked_with program store session index read) due guarded seen gone added running)
    session_keeps (kind.Abandon t) = open_keeps _ (λ read seen due running. abandon_keeps carried (asked_with program store session index read) due guarded seen t running)
    session_keeps (kind.Commit t) = next_keeps _ (λ read due idle. commit_keeps carried (asked_with program store session index read) due guarded t idle)
    session_keeps kind.Rollback =
        gives_or (Keeps store) (of_next carried program store session index rollback_effect) (closing_effect program store session index)
        (next_keeps rollback_effect (λ read due idle. rollback_keeps carried (asked_with program store session index read) due guarded)) closing_keeps
    session_keeps (kind.Define t) = next_keeps _ (λ read due idle. define_keeps carried (asked_with program store session index read) due guarded t)
    session_keeps (kind.Wait t) = next_keeps _ (λ read due idle. wait_keeps carried (asked_with program store session index read) due guarded t)
    session_keeps (kind.Report t numbers) = next_keeps _ (λ read due idle. report_keeps carried (asked_with program store session index read) due guarded t numbers)
    session_keeps (kind.RecluStart table parts) = tt
    session_keeps (kind.RecluEnd table gone added) = tt
    session_keeps (kind.RecluMiss table why) = tt
    session_keeps (kind.Purge parts) = tt
    session_keeps kind.Close = tt

  actor_keeps : (actor_of : Actor) (index : ℕ) (k : EntryKind) → Gives (Keeps store) (actor_entry carried program store actor_of index k)
  actor_keeps (actor.Session session) index k = session_keeps session index k
  actor_keeps actor.Recluster index k = round_keeps store index k
  actor_keeps actor.Purge index k = purge_keeps store index k

pub entries_keep : EntriesKeepGuards
unfolding effect_of
entries_keep carried program store entry effect sound e guarded =
    let found = bind_some (actor_entry carried program store entry.actor entry.index entry.kind) _ effect e in
    let same = only_if_some (found.0.moment == entry.moment) found.0 effect found.2 in
    effect_guarded carried program store effect sound
    (subst (KeepsGuards store) same.1 (gives_at (KeepsGuards store) (actor_entry carried program store entry.actor entry.index entry.kind) found.0 (actor_keeps carried program store sound guarded entry.actor entry.index entry.kind) found.1))
    guarded
