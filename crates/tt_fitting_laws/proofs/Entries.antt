-- Each entry that is allowed keeps rows fitting, and so they fit after each legal history.
use Rattle.std.specs.Prelude.{Err, List, None, Option, Result, Some, [], is_none, map, refl, slice_get, unwrap_or, ℕ, ◌&&◌, ◌+◌, ◌==◌, ◌∷◌, ◌≡◌}
use Rattle.std.proofs.Common.{ap, subst, suc, sym, zero, ◌∙◌}
use Rattle.std.proofs.lemmas.Bool.{and_parts}
use Rattle.std.proofs.lemmas.Option.{none-some, same_Some}
use Rattle.tt_fitting_laws.proofs.Defines.{define_keeps}
use Rattle.tt_fitting_laws.proofs.Ends.{commit_keeps, end_keeps}
use Rattle.tt_fitting_laws.proofs.Kept.{Fits, FitsSession, KeepsFit, effect_fits}
use Rattle.tt_fitting_laws.proofs.Sessions.{abandon_keeps, begin_keeps, report_keeps, rollback_keeps, rolled_back_keeps, wait_keeps}
use Rattle.tt_fitting_laws.proofs.Starts.{start_keeps}
use Rattle.tt_history.specs.declared.history.Actor.{Actor}
use Rattle.tt_history.specs.declared.history.Entry.{Entry}
use Rattle.tt_history.specs.declared.history.EntryKind.{EntryKind}
use Rattle.tt_plain.proofs.Answers.{bind_some, only_if_some}
use Rattle.tt_plain.proofs.Tests.{none_is}
use Rattle.tt_plain.proofs.law.Gives.{Gives, gives_at, gives_bind, gives_or, gives_tested, gives_when}
use Rattle.tt_plain.proofs.law.Lists.{every_from}
use Rattle.tt_plain.proofs.law.Turns.{next_gives, open_gives}
use Rattle.tt_plain.proofs.law.session.Alone.{IsDue, IsSaid}
use Rattle.tt_plain.specs.asked.Asked.{Asked}
use Rattle.tt_plain.specs.asked.Carried.{Carried}
use Rattle.tt_plain.specs.asked.Turns.{asked_with, statement_read}
use Rattle.tt_plain.specs.declared.store.Plain.{Plain}
use Rattle.tt_plain.specs.declared.store.PlainOpen.{PlainOpen}
use Rattle.tt_plain.specs.declared.store.PlainSession.{PlainSession}
use Rattle.tt_plain.specs.effect.Apply.{applied}
use Rattle.tt_plain.specs.effect.Effect.{Effect}
use Rattle.tt_plain.specs.effect.Landing.{lands_with, round_end_effect}
use Rattle.tt_plain.specs.effect.Miss.{may_miss, round_miss_effect}
use Rattle.tt_plain.specs.effect.Purge.{may_purge, purge_effect}
use Rattle.tt_plain.specs.effect.Rollback.{closing_effect, has_ended_statements, rollback_effect}
use Rattle.tt_plain.specs.effect.Round.{may_be_reclustered, miss_of, round_of, worker_effect}
use Rattle.tt_plain.specs.effect.RoundStart.{may_take, round_start_effect}
use Rattle.tt_plain.specs.history.Step.{actor_entry, effect_of, of_next, of_open, purge_entry, round_entry, session_entry}
use Rattle.tt_plain.specs.law.Changes.{IsSoundEffect}
use Rattle.tt_plain.specs.law.Fitting.{FitsTable, LegalIsFitting}
use Rattle.tt_plain.specs.law.Lists.{Every}
use Rattle.tt_plain.specs.law.Sound.{IsSound}
use Rattle.tt_plain.specs.stored.Empty.{empty_store}
use Rattle.tt_plain.specs.stored.Points.{count_in}
use Rattle.tt_plain.specs.stored.Sessions.{new_session, session_at}
use Rattle.tt_plain.specs.stored.Tables.{table_numbered}
use Rattle.tt_plain.specs.tally.Changes.{TallyChange}
use Rattle.tt_plain_laws.proofs.Inductions.{by_entries}
use Rattle.tt_script.specs.declared.script.Script.{Script}
use Rattle.tt_script.specs.declared.script.SessionText.{SessionText}
use Rattle.tt_sql.specs.declared.statement.Statement.{Statement}
use Rattle.tt_history.specs.declared.history.Actor.TheVariants as actor
use Rattle.tt_history.specs.declared.history.EntryKind.TheVariants as kind

module _ (carried : Carried) (program : Script) (store : Plain) (sound : IsSound carried program store) (fits : Fits carried program store) where
  abbrev Keeps : Effect → Type 0
  Keeps effect = KeepsFit carried program store effect

  -- ---- workers

  worker_keeps : (tally : List TallyChange) → Keeps (worker_effect store tally)
  worker_keeps tally = record { tables = tt; own = λ session new e. absurd (none-some (session, new) e) }

  round_keeps : (index : ℕ) (k : EntryKind) → Gives Keeps (round_entry store index k)
  unfolding round_entry round_start_effect round_end_effect round_miss_effect
  round_keeps index (kind.RecluStart number parts) =
      gives_tested Keeps (is_none store.tally.round && index == store.tally.rounds + 1) index _ (λ next.
      gives_bind Keeps (table_numbered store number) _ (λ table there.
      gives_tested Keeps (may_be_reclustered store table && may_take store.tally number parts) table _ (λ free.
      gives_bind Keeps table.key _ (λ key has_key. worker_keeps _))))
  round_keeps index (kind.RecluEnd table gone added) =
      gives_bind Keeps (round_of store index table) _ (λ round there.
      gives_tested Keeps (is_none (miss_of store round) && lands_with store.tally round gone added) round _ (λ lands. worker_keeps _))
  round_keeps index (kind.RecluMiss table why) =
      gives_bind Keeps (round_of store index table) _ (λ round there.
      gives_tested Keeps (may_miss (miss_of store round) why) round _ (λ missed. worker_keeps _))
  round_keeps index _ = tt

  purge_keeps : (index : ℕ) (k : EntryKind) → Gives Keeps (purge_entry store index k)
  unfolding purge_entry purge_effect
  purge_keeps index (kind.Purge parts) = gives_when Keeps (index == store.tally.purges + 1 && may_purge store parts) _ (λ test. worker_keeps _)
  purge_keeps index _ = tt

  -- ---- sessions

  module _ (session index : ℕ) where
    same_state : (state : PlainSession) → slice_get store.sessions session ≡ Some state → session_at store session ≡ state
    same_state state at = ap (λ (s : Option PlainSession). unwrap_or s new_session) at

    due_of : (state : PlainSession) (read : Result Statement ℕ) → slice_get store.sessions session ≡ Some state → IsDue carried (asked_with program store session index read)
    due_of state read at = record { sound = sound; next = refl; at = at ∙ ap Some (sym (same_state state at)) }

    said_of : (state : PlainSession) (read : Result Statement ℕ) → slice_get store.sessions session ≡ Some state → index ≡ state.done + 1 → statement_read carried program session index ≡ Some read
        → IsSaid carried (asked_with program store session index read)
    said_of state read at counted said = record { counted = counted ∙ ap (λ (s : PlainSession). s.done + 1) (sym (same_state state at)); said = said }

    next_keeps : (f : Asked → Option Effect)
        → ((read : Result Statement ℕ) → IsDue carried (asked_with program store session index read) → IsSaid carried (asked_with program store session index read) → (session_at store session).running ≡ None → Gives Keeps (f (asked_with program store session index read)))
        → Gives Keeps (of_next carried program store session index f)
    next_keeps f gives =
        next_gives carried program store session index Keeps f (λ state read turn idle.
        gives read (due_of state read turn.state_is) (said_of state read turn.state_is turn.counted turn.said) (ap (λ (s : PlainSession). s.running) (same_state state turn.state_is) ∙ idle))

    open_keeps : (f : Asked × PlainOpen → Option Effect)
        → ((read : Result Statement ℕ) (seen : PlainOpen) → IsDue carried (asked_with program store session index read) → IsSaid carried (asked_with program store session index read) → (session_at store session).running ≡ Some seen → seen.index ≡ index
        → Gives Keeps (f (asked_with program store session index read, seen)))
        → Gives Keeps (of_open carried program store session index f)
    open_keeps f gives =
        open_gives carried program store session index Keeps f (λ state read seen at said running counted.
        let opened = (sound.each session state at).running seen running in
        gives read seen (due_of state read at) (said_of state read at (sym counted ∙ opened.counted) said) (ap (λ (s : PlainSession). s.running) (same_state state at) ∙ running) counted)

    closing_keeps : Gives Keeps (closing_effect program store session index)
    unfolding closing_effect
    closing_keeps =
        gives_bind Keeps (slice_get store.sessions session) _ (λ state at.
        gives_tested Keeps (has_ended_statements program session state && index == state.done + 1) state _ (λ test.
        gives_tested Keeps state.transaction state _ (λ in_transaction.
        let ended = and_parts (is_none state.running) (state.done == count_in (slice_get program.sessions session)) (and_parts (has_ended_statements program session state) (index == state.done + 1) test).0 in
        rolled_back_keeps carried (asked_with program store session index (Err 0)) (due_of state (Err 0) at) fits state [] None (none_is state.running ended.0))))

    session_keeps : (k : EntryKind) → Gives Keeps (session_entry carried program store session index k)
    unfolding session_entry
    session_keeps (kind.Begin t) = next_keeps _ (λ read due said idle. begin_keeps carried (asked_with program store session index read) due fits t)
    session_keeps (kind.Start t) = next_keeps _ (λ read due said idle. start_keeps carried (asked_with program store session index read) due fits t said)
    session_keeps (kind.End gone added) = open_keeps _ (λ read seen due said running counted. end_keeps carried (asked_with program store session index read) due fits seen gone added running counted said)
    session_keeps (kind.Abandon t) = open_keeps _ (λ read seen due said running counted. abandon_keeps carried (asked_with program store session index read) due fits seen t)
    session_keeps (kind.Commit t) = next_keeps _ (λ read due said idle. commit_keeps carried (asked_with program store session index read) due fits t idle)
    session_keeps kind.Rollback =
        gives_or Keeps (of_next carried program store session index rollback_effect) (closing_effect program store session index)
        (next_keeps rollback_effect (λ read due said idle. rollback_keeps carried (asked_with program store session index read) due fits)) closing_keeps
    session_keeps (kind.Define t) = next_keeps _ (λ read due said idle. define_keeps carried (asked_with program store session index read) due fits t)
    session_keeps (kind.Wait t) = next_keeps _ (λ read due said idle. wait_keeps carried (asked_with program store session index read) due fits t)
    session_keeps (kind.Report t numbers) = next_keeps _ (λ read due said idle. report_keeps carried (asked_with program store session index read) due fits t numbers)
    session_keeps (kind.RecluStart table parts) = tt
    session_keeps (kind.RecluEnd table gone added) = tt
    session_keeps (kind.RecluMiss table why) = tt
    session_keeps (kind.Purge parts) = tt
    session_keeps kind.Close = tt

  actor_keeps : (actor_of : Actor) (index : ℕ) (k : EntryKind) → Gives Keeps (actor_entry carried program store actor_of index k)
  actor_keeps (actor.Session session) index k = session_keeps session index k
  actor_keeps actor.Recluster index k = round_keeps index k
  actor_keeps actor.Purge index k = purge_keeps index k

  entry_fits : (entry : Entry) (effect : Effect) → effect_of carried program store entry ≡ Some effect → IsSoundEffect carried program store effect → Fits carried program (applied store effect)
  unfolding effect_of
  entry_fits entry effect e good =
      let found = bind_some (actor_entry carried program store entry.actor entry.index entry.kind) _ effect e in
      let same = only_if_some (found.0.moment == entry.moment) found.0 effect found.2 in
      effect_fits carried program store effect sound good fits
      (subst Keeps same.1 (gives_at Keeps (actor_entry carried program store entry.actor entry.index entry.kind) found.0 (actor_keeps entry.actor entry.index entry.kind) found.1))

-- ---- histories

empty_fits : (carried : Carried) (program : Script) → Fits carried program (empty_store program)
unfolding empty_store
empty_fits carried program = record {
  tables = tt;
  sessions = λ session state at.
      subst (FitsSession carried program [] session) (each_new program.sessions session state at)
      (record { pending = tt; ready = λ seen d target running said aimed. absurd (none-some seen running) });
}
  where
    each_new : (lines : List SessionText) (session : ℕ) (state : PlainSession) → slice_get (map (λ (_ : SessionText). new_session) lines) session ≡ Some state → new_session ≡ state
    each_new [] session state at = absurd (none-some state at)
    each_new (first ∷ lines) zero state at = same_Some new_session state at
    each_new (first ∷ lines) (suc session) state at = each_new lines session state at

pub legal_fits : LegalIsFitting
legal_fits carried program history run time e =
    let fits : Fits carried program run.0 =
    by_entries carried program history time (λ before store. Fits carried program store)
    (λ before store entry effect there held. entry_fits carried program store there.sound held entry effect there.effected there.good) run (empty_fits carried program) e in
    record {
      tables = fits.tables;
      pending = every_from (λ (state : PlainSession). Every (FitsTable run.0.tables) state.pending) run.0.sessions (λ session state at. (fits.sessions session state at).pending);
    }
