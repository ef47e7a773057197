-- Each entry that is allowed leaves the targets of open changes as they are.
use Rattle.std.specs.Prelude.{Err, None, Option, Result, Some, [], is_none, refl, slice_get, unwrap_or, ℕ, ◌&&◌, ◌+◌, ◌==◌, ◌≡◌}
use Rattle.std.proofs.Common.{ap, subst, sym, ◌∙◌}
use Rattle.std.proofs.lemmas.Bool.{and_parts}
use Rattle.tt_history.specs.declared.history.Actor.{Actor}
use Rattle.tt_history.specs.declared.history.Entry.{Entry}
use Rattle.tt_history.specs.declared.history.EntryKind.{EntryKind}
use Rattle.tt_plain.proofs.Answers.{bind_some, only_if_some}
use Rattle.tt_plain.proofs.Tests.{none_is}
use Rattle.tt_plain.proofs.law.Gives.{Gives, gives_at, gives_bind, gives_or, gives_tested}
use Rattle.tt_plain.proofs.law.Turns.{next_gives, open_gives}
use Rattle.tt_plain.proofs.law.session.Alone.{IsDue, IsSaid}
use Rattle.tt_plain.specs.asked.Asked.{Asked}
use Rattle.tt_plain.specs.asked.Carried.{Carried}
use Rattle.tt_plain.specs.asked.Turns.{asked_with, statement_read}
use Rattle.tt_plain.specs.declared.store.Plain.{Plain}
use Rattle.tt_plain.specs.declared.store.PlainOpen.{PlainOpen}
use Rattle.tt_plain.specs.declared.store.PlainSession.{PlainSession}
use Rattle.tt_plain.specs.effect.Apply.{applied}
use Rattle.tt_plain.specs.effect.Effect.{Effect}
use Rattle.tt_plain.specs.effect.Rollback.{closing_effect, has_ended_statements, rollback_effect}
use Rattle.tt_plain.specs.history.Step.{actor_entry, effect_of, of_next, of_open, session_entry}
use Rattle.tt_plain.specs.law.Sound.{IsSound}
use Rattle.tt_plain.specs.stored.Points.{count_in}
use Rattle.tt_plain.specs.stored.Sessions.{new_session, session_at}
use Rattle.tt_plain_laws.specs.Guarded.{AreGuarded}
use Rattle.tt_script.specs.declared.script.Script.{Script}
use Rattle.tt_sql.specs.declared.statement.Statement.{Statement}
use Rattle.tt_stock_laws.proofs.Supplied.{Stocks}
use Rattle.tt_target_laws.proofs.Defines.{define_leaves}
use Rattle.tt_target_laws.proofs.Ends.{commit_leaves, end_leaves}
use Rattle.tt_target_laws.proofs.Rounds.{purge_leaves, round_leaves}
use Rattle.tt_target_laws.proofs.Sessions.{abandon_leaves, begin_leaves, report_leaves, rollback_leaves, rolled_back_leaves, wait_leaves}
use Rattle.tt_target_laws.proofs.Starts.{start_leaves}
use Rattle.tt_target_laws.proofs.Targets.{Leaves, SeeTargets, effect_sees}
use Rattle.tt_history.specs.declared.history.Actor.TheVariants as actor
use Rattle.tt_history.specs.declared.history.EntryKind.TheVariants as kind

module _ (carried : Carried) (program : Script) (store : Plain) (sound : IsSound carried program store) (guarded : AreGuarded store) (stocks : Stocks carried program store) where
  abbrev KeepsHere : Effect → Type 0
  KeepsHere effect = Leaves carried program store effect

  module _ (session index : ℕ) where
    abbrev here : Result Statement ℕ → Asked
    here read = asked_with program store session index read

    same_state : (state : PlainSession) → slice_get store.sessions session ≡ Some state → session_at store session ≡ state
    same_state state at = ap (λ (s : Option PlainSession). unwrap_or s new_session) at

    due_of : (state : PlainSession) (read : Result Statement ℕ) → slice_get store.sessions session ≡ Some state → IsDue carried (here read)
    due_of state read at = record { sound = sound; next = refl; at = at ∙ ap Some (sym (same_state state at)) }

    said_of : (state : PlainSession) (read : Result Statement ℕ) → slice_get store.sessions session ≡ Some state → index ≡ state.done + 1 → statement_read carried program session index ≡ Some read → IsSaid carried (here read)
    said_of state read at counted said = record { counted = counted ∙ ap (λ (s : PlainSession). s.done + 1) (sym (same_state state at)); said = said }

    next_leaves : (f : Asked → Option Effect) → ((read : Result Statement ℕ) → IsDue carried (here read) → IsSaid carried (here read) → (session_at store session).running ≡ None → Gives KeepsHere (f (here read)))
        → Gives KeepsHere (of_next carried program store session index f)
    next_leaves f gives =
        next_gives carried program store session index KeepsHere f (λ state read turn idle.
        gives read (due_of state read turn.state_is) (said_of state read turn.state_is turn.counted turn.said) (ap (λ (s : PlainSession). s.running) (same_state state turn.state_is) ∙ idle))

    open_leaves : (f : Asked × PlainOpen → Option Effect)
        → ((read : Result Statement ℕ) (seen : PlainOpen) → IsDue carried (here read) → IsSaid carried (here read) → (session_at store session).running ≡ Some seen → seen.index ≡ index → Gives KeepsHere (f (here read, seen)))
        → Gives KeepsHere (of_open carried program store session index f)
    open_leaves f gives =
        open_gives carried program store session index KeepsHere f (λ state read seen at said running counted.
        let opened = (sound.each session state at).running seen running in
        gives read seen (due_of state read at) (said_of state read at (sym counted ∙ opened.counted) said) (ap (λ (s : PlainSession). s.running) (same_state state at) ∙ running) counted)

    closing_leaves : Gives KeepsHere (closing_effect program store session index)
    unfolding closing_effect
    closing_leaves =
        gives_bind KeepsHere (slice_get store.sessions session) _ (λ state at.
        gives_tested KeepsHere (has_ended_statements program session state && index == state.done + 1) state _ (λ test.
        gives_tested KeepsHere state.transaction state _ (λ in_transaction.
        let ended = and_parts (is_none state.running) (state.done == count_in (slice_get program.sessions session)) (and_parts (has_ended_statements program session state) (index == state.done + 1) test).0 in
        rolled_back_leaves carried (here (Err 0)) (due_of state (Err 0) at) state [] None (none_is state.running ended.0))))

    session_leaves : (k : EntryKind) → Gives KeepsHere (session_entry carried program store session index k)
    unfolding session_entry
    session_leaves (kind.Begin t) = next_leaves _ (λ read due said idle. begin_leaves carried (here read) due t)
    session_leaves (kind.Start t) = next_leaves _ (λ read due said idle. start_leaves carried (here read) due t said)
    session_leaves (kind.End gone added) = open_leaves _ (λ read seen due said running counted. end_leaves carried (here read) due stocks seen gone added running counted said)
    session_leaves (kind.Abandon t) = open_leaves _ (λ read seen due said running counted. abandon_leaves carried (here read) due seen t)
    session_leaves (kind.Commit t) = next_leaves _ (λ read due said idle. commit_leaves carried (here read) due stocks t idle)
    session_leaves kind.Rollback =
        gives_or KeepsHere (of_next carried program store session index rollback_effect) (closing_effect program store session index)
        (next_leaves rollback_effect (λ read due said idle. rollback_leaves carried (here read) due)) closing_leaves
    session_leaves (kind.Define t) = next_leaves _ (λ read due said idle. define_leaves carried (here read) due guarded t)
    session_leaves (kind.Wait t) = next_leaves _ (λ read due said idle. wait_leaves carried (here read) due t)
    session_leaves (kind.Report t numbers) = next_leaves _ (λ read due said idle. report_leaves carried (here read) due t numbers)
    session_leaves (kind.RecluStart table parts) = tt
    session_leaves (kind.RecluEnd table gone added) = tt
    session_leaves (kind.RecluMiss table why) = tt
    session_leaves (kind.Purge parts) = tt
    session_leaves kind.Close = tt

  actor_leaves : (actor_of : Actor) (index : ℕ) (k : EntryKind) → Gives KeepsHere (actor_entry carried program store actor_of index k)
  actor_leaves (actor.Session session) index k = session_leaves session index k
  actor_leaves actor.Recluster index k = round_leaves carried program store sound index k
  actor_leaves actor.Purge index k = purge_leaves carried program store sound index k

  pub entry_sees : (entry : Entry) (effect : Effect) → effect_of carried program store entry ≡ Some effect → SeeTargets carried program store → SeeTargets carried program (applied store effect)
  unfolding effect_of
  entry_sees entry effect e sees =
      let found = bind_some (actor_entry carried program store entry.actor entry.index entry.kind) _ effect e in
      let same = only_if_some (found.0.moment == entry.moment) found.0 effect found.2 in
      effect_sees carried program store effect sound stocks
      (subst KeepsHere same.1 (gives_at KeepsHere (actor_entry carried program store entry.actor entry.index entry.kind) found.0 (actor_leaves entry.actor entry.index entry.kind) found.1)) sees
