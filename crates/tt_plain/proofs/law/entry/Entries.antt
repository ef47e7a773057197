-- Each entry that is allowed keeps the store sound.
use Rattle.std.specs.Prelude.{Err, None, Option, Result, Some, [], is_none, refl, slice_get, unwrap_or, ℕ, ◌&&◌, ◌+◌, ◌<◌, ◌==◌, ◌^◌, ◌≡◌}
use Rattle.std.proofs.Common.{ap, subst, sym, ◌∙◌}
use Rattle.std.proofs.lemmas.Bool.{and_parts}
use Rattle.tt_history.specs.declared.history.Actor.{Actor}
use Rattle.tt_history.specs.declared.history.EntryKind.{EntryKind}
use Rattle.tt_plain.proofs.Answers.{bind_some, only_if_some}
use Rattle.tt_plain.proofs.Tests.{none_is, same_number}
use Rattle.tt_plain.proofs.law.session.Alone.{IsDue, IsSaid}
use Rattle.tt_plain.proofs.law.entry.Commits.{commit_sound}
use Rattle.tt_plain.proofs.law.entry.Definitions.{define_sound}
use Rattle.tt_plain.proofs.law.entry.Ends.{end_sound}
use Rattle.tt_plain.proofs.law.Gives.{Gives, gives_at, gives_bind, gives_or, gives_tested}
use Rattle.tt_plain.proofs.law.entry.SessionAlone.{SoundIn, abandon_sound, begin_sound, report_sound, rollback_sound, rolled_back_sound, wait_sound}
use Rattle.tt_plain.proofs.law.entry.Rounds.{purge_sound, round_end_sound, round_miss_sound, round_start_sound}
use Rattle.tt_plain.proofs.law.entry.Starts.{start_sound}
use Rattle.tt_plain.proofs.law.Turns.{next_gives, open_gives}
use Rattle.tt_plain.specs.asked.Asked.{Asked}
use Rattle.tt_plain.specs.asked.Carried.{Carried}
use Rattle.tt_plain.specs.asked.Turns.{asked_with, statement_read}
use Rattle.tt_plain.specs.declared.store.Plain.{Plain}
use Rattle.tt_plain.specs.declared.store.PlainOpen.{PlainOpen}
use Rattle.tt_plain.specs.declared.store.PlainSession.{PlainSession}
use Rattle.tt_plain.specs.effect.Effect.{Effect}
use Rattle.tt_plain.specs.effect.Rollback.{closing_effect, has_ended_statements, rollback_effect}
use Rattle.tt_plain.specs.history.Step.{actor_entry, effect_of, of_next, of_open, purge_entry, round_entry, session_entry}
use Rattle.tt_plain.specs.law.Changes.{EntriesAreSound, IsSoundEffect}
use Rattle.tt_plain.specs.law.Sound.{IsSound}
use Rattle.tt_plain.specs.stored.Points.{count_in}
use Rattle.tt_plain.specs.stored.Sessions.{new_session, session_at}
use Rattle.tt_script.specs.declared.script.Script.{Script}
use Rattle.tt_sql.specs.declared.statement.Statement.{Statement}
use Rattle.tt_history.specs.declared.history.Actor.TheVariants as actor
use Rattle.tt_history.specs.declared.history.EntryKind.TheVariants as kind

module _ (carried : Carried) (program : Script) (store : Plain) (session index : ℕ) (sound : IsSound carried program store) where
  abbrev Sound : Effect → Type 0
  Sound effect = SoundIn carried program store effect

  same_state : (state : PlainSession) → slice_get store.sessions session ≡ Some state → session_at store session ≡ state
  same_state state at = ap (λ (s : Option PlainSession). unwrap_or s new_session) at

  -- what is asked by a turn is due
  due_of : (state : PlainSession) (read : Result Statement ℕ) → slice_get store.sessions session ≡ Some state → IsDue carried (asked_with program store session index read)
  due_of state read at = record { sound = sound; next = refl; at = at ∙ ap Some (sym (same_state state at)) }

  said_of : (state : PlainSession) (read : Result Statement ℕ) → slice_get store.sessions session ≡ Some state → index ≡ state.done + 1 → statement_read carried program session index ≡ Some read
      → IsSaid carried (asked_with program store session index read)
  said_of state read at counted said = record { counted = counted ∙ ap (λ (s : PlainSession). s.done + 1) (sym (same_state state at)); said = said }

  next_sound : (f : Asked → Option Effect)
      → ((read : Result Statement ℕ) → IsDue carried (asked_with program store session index read) → IsSaid carried (asked_with program store session index read) → (session_at store session).running ≡ None
      → Gives Sound (f (asked_with program store session index read)))
      → Gives Sound (of_next carried program store session index f)
  next_sound f gives =
      next_gives carried program store session index Sound f (λ state read turn idle.
      gives read (due_of state read turn.state_is) (said_of state read turn.state_is turn.counted turn.said) (ap (λ (s : PlainSession). s.running) (same_state state turn.state_is) ∙ idle))

  open_sound : (f : Asked × PlainOpen → Option Effect)
      → ((read : Result Statement ℕ) (seen : PlainOpen) → IsDue carried (asked_with program store session index read) → IsSaid carried (asked_with program store session index read)
      → (session_at store session).running ≡ Some seen → Gives Sound (f (asked_with program store session index read, seen)))
      → Gives Sound (of_open carried program store session index f)
  open_sound f gives =
      open_gives carried program store session index Sound f (λ state read seen at said running counted.
      let opened = (sound.each session state at).running seen running in
      gives read seen (due_of state read at) (said_of state read at (sym counted ∙ opened.counted) said) (ap (λ (s : PlainSession). s.running) (same_state state at) ∙ running))

  closing_sound : Gives Sound (closing_effect program store session index)
  unfolding closing_effect
  closing_sound =
      gives_bind Sound (slice_get store.sessions session) _ (λ state at.
      gives_tested Sound (has_ended_statements program session state && index == state.done + 1) state _ (λ test.
      gives_tested Sound state.transaction state _ (λ in_transaction.
      let ended = and_parts (is_none state.running) (state.done == count_in (slice_get program.sessions session)) (and_parts (has_ended_statements program session state) (index == state.done + 1) test).0 in
      rolled_back_sound carried (asked_with program store session index (Err 0)) (due_of state (Err 0) at) state [] None (none_is state.running ended.0))))

  session_sound : (k : EntryKind) → Gives Sound (session_entry carried program store session index k)
  unfolding session_entry
  session_sound (kind.Begin t) = next_sound _ (λ read due said idle. begin_sound carried (asked_with program store session index read) due t idle)
  session_sound (kind.Start t) = next_sound _ (λ read due said idle. start_sound carried (asked_with program store session index read) due said t idle)
  session_sound (kind.End gone added) = open_sound _ (λ read seen due said running. end_sound carried (asked_with program store session index read) due said seen running gone added)
  session_sound (kind.Abandon t) = open_sound _ (λ read seen due said running. abandon_sound carried (asked_with program store session index read) due seen t running)
  session_sound (kind.Commit t) = next_sound _ (λ read due said idle. commit_sound carried (asked_with program store session index read) due t idle)
  session_sound kind.Rollback =
      gives_or Sound (of_next carried program store session index rollback_effect) (closing_effect program store session index)
      (next_sound rollback_effect (λ read due said idle. rollback_sound carried (asked_with program store session index read) due idle)) closing_sound
  session_sound (kind.Define t) = next_sound _ (λ read due said idle. define_sound carried (asked_with program store session index read) due t idle)
  session_sound (kind.Wait t) = next_sound _ (λ read due said idle. wait_sound carried (asked_with program store session index read) due t idle)
  session_sound (kind.Report t numbers) = next_sound _ (λ read due said idle. report_sound carried (asked_with program store session index read) due t numbers idle)
  session_sound (kind.RecluStart table parts) = tt
  session_sound (kind.RecluEnd table gone added) = tt
  session_sound (kind.RecluMiss table why) = tt
  session_sound (kind.Purge parts) = tt
  session_sound kind.Close = tt

actor_sound : (carried : Carried) (program : Script) (store : Plain) (actor_of : Actor) (index : ℕ) (k : EntryKind) → IsSound carried program store → Gives (SoundIn carried program store) (actor_entry carried program store actor_of index k)
unfolding round_entry purge_entry
actor_sound carried program store (actor.Session session) index k sound = session_sound carried program store session index sound k
actor_sound carried program store actor.Recluster index (kind.RecluStart table parts) sound = round_start_sound carried program store sound index table parts
actor_sound carried program store actor.Recluster index (kind.RecluEnd table gone added) sound = round_end_sound carried program store sound index table gone added
actor_sound carried program store actor.Recluster index (kind.RecluMiss table why) sound = round_miss_sound carried program store sound index table why
actor_sound carried program store actor.Recluster index _ sound = tt
actor_sound carried program store actor.Purge index (kind.Purge parts) sound = purge_sound carried program store sound index parts
actor_sound carried program store actor.Purge index _ sound = tt

-- ---- whole entries

pub entries_sound : EntriesAreSound
unfolding effect_of
entries_sound carried program store entry effect sound time e =
    let found = bind_some (actor_entry carried program store entry.actor entry.index entry.kind) _ effect e in
    let same = only_if_some (found.0.moment == entry.moment) found.0 effect found.2 in
    let there : SoundIn carried program store found.0 =
    gives_at (SoundIn carried program store) (actor_entry carried program store entry.actor entry.index entry.kind) found.0 (actor_sound carried program store entry.actor entry.index entry.kind sound) found.1 in
    subst (IsSoundEffect carried program store) same.1 (there (subst (λ (m : ℕ). m < 2 ^ 62) (sym (same_number found.0.moment entry.moment same.0)) time))
