-- Each entry that is allowed leaves what is named stored, and so does each legal history.
use Rattle.std.specs.Prelude.{Err, List, None, Option, Result, Some, [], is_none, length, map, option_map, refl, slice_get, unwrap_or, ℕ, ◌&&◌, ◌+◌, ◌<◌, ◌==◌, ◌^◌, ◌∷◌, ◌≡◌, ◌≤◌}
use Rattle.std.proofs.Common.{ap, arith, length-append, subst, suc, sym, zero, ◌∙◌}
use Rattle.std.proofs.lemmas.Bool.{and_parts}
use Rattle.std.proofs.lemmas.Option.{none-some, same_Some}
use Rattle.tt_history.specs.declared.history.Actor.TheVariants as actor
use Rattle.tt_history.specs.declared.history.Actor.{Actor}
use Rattle.tt_history.specs.declared.history.Entry.{Entry}
use Rattle.tt_history.specs.declared.history.EntryKind.TheVariants as kind
use Rattle.tt_history.specs.declared.history.EntryKind.{EntryKind}
use Rattle.tt_plain.proofs.Answers.{bind_some, only_if_some}
use Rattle.tt_plain.proofs.Tests.{none_is}
use Rattle.tt_plain.proofs.law.Clock.{legal_in_time, step_moment}
use Rattle.tt_plain.proofs.law.Gives.{Gives, gives_at, gives_bind, gives_on, gives_or, gives_tested, gives_when}
use Rattle.tt_plain.proofs.law.Histories.{applied_moment, effect_moment}
use Rattle.tt_plain.proofs.law.Turns.{next_gives, open_gives}
use Rattle.tt_plain.proofs.law.entry.Entries.{entries_sound}
use Rattle.tt_plain.proofs.law.session.Alone.{IsDue, IsSaid}
use Rattle.tt_plain.specs.asked.Asked.{Asked}
use Rattle.tt_plain.specs.asked.Carried.{Carried}
use Rattle.tt_plain.specs.asked.Turns.{asked_with, statement_read}
use Rattle.tt_plain.specs.declared.store.Plain.{Plain}
use Rattle.tt_plain.specs.declared.store.PlainOpen.{PlainOpen}
use Rattle.tt_plain.specs.declared.store.PlainSession.{PlainSession}
use Rattle.tt_plain.specs.effect.Apply.{applied}
use Rattle.tt_plain.specs.effect.Effect.{Effect}
use Rattle.tt_plain.specs.effect.Purge.{may_purge, purge_effect}
use Rattle.tt_plain.specs.effect.Rollback.{closing_effect, has_ended_statements, rollback_effect}
use Rattle.tt_plain.specs.history.Replay.{Run, replay_of}
use Rattle.tt_plain.specs.history.Step.{actor_entry, effect_of, of_next, of_open, purge_entry, session_entry, step_of}
use Rattle.tt_plain.specs.law.Changes.{IsSoundEffect}
use Rattle.tt_plain.specs.law.Sound.{IsInTime, IsSound}
use Rattle.tt_plain.specs.refusal.ClockEnd.{last_moment}
use Rattle.tt_plain.specs.stored.Empty.{empty_store}
use Rattle.tt_plain.specs.stored.Points.{count_in}
use Rattle.tt_plain.specs.stored.Sessions.{new_session, session_at}
use Rattle.tt_plain_laws.proofs.Inductions.{IsEntry, by_entries}
use Rattle.tt_plain_laws.proofs.guard.Entries.{entries_keep}
use Rattle.tt_plain_laws.proofs.guard.Histories.{empty_guarded}
use Rattle.tt_plain_laws.specs.Guarded.{AreGuarded}
use Rattle.tt_script.specs.declared.script.Script.{Script}
use Rattle.tt_script.specs.declared.script.SessionText.{SessionText}
use Rattle.tt_sql.specs.declared.statement.Statement.{Statement}
use Rattle.tt_stock_laws.proofs.Alone.{abandon_supplies, begin_supplies, report_supplies, rollback_supplies, rolled_back_supplies, start_supplies, wait_supplies}
use Rattle.tt_stock_laws.proofs.Defines.{define_supplies}
use Rattle.tt_stock_laws.proofs.Ends.{commit_supplies, end_supplies}
use Rattle.tt_stock_laws.proofs.Purges.{purge_stocks}
use Rattle.tt_stock_laws.proofs.Rounds.{round_supplies}
use Rattle.tt_stock_laws.proofs.Supplied.{Stocks, Supplies, effect_stocks, held_idle}

module _ (carried : Carried) (program : Script) (store : Plain) (sound : IsSound carried program store) (stocks : Stocks carried program store) (guarded : AreGuarded store) where
  abbrev SuppliedHere : Effect → Type 0
  SuppliedHere effect = Supplies carried program store effect

  -- what the store is after the effect, where that is sound
  abbrev Keeps : Effect → Type 0
  Keeps effect = IsSoundEffect carried program store effect → Stocks carried program (applied store effect)

  module _ (session index : ℕ) where
    same_state : (state : PlainSession) → slice_get store.sessions session ≡ Some state → session_at store session ≡ state
    same_state state at = ap (λ (s : Option PlainSession). unwrap_or s new_session) at

    due_of : (state : PlainSession) (read : Result Statement ℕ) → slice_get store.sessions session ≡ Some state → IsDue carried (asked_with program store session index read)
    due_of state read at = record { sound = sound; next = refl; at = at ∙ ap Some (sym (same_state state at)) }

    said_of : (state : PlainSession) (read : Result Statement ℕ) → slice_get store.sessions session ≡ Some state → index ≡ state.done + 1 → statement_read carried program session index ≡ Some read
        → IsSaid carried (asked_with program store session index read)
    said_of state read at counted said = record { counted = counted ∙ ap (λ (s : PlainSession). s.done + 1) (sym (same_state state at)); said = said }

    next_supplies : (f : Asked → Option Effect)
        → ((read : Result Statement ℕ) → IsDue carried (asked_with program store session index read) → IsSaid carried (asked_with program store session index read) → (session_at store session).running ≡ None → Gives SuppliedHere (f (asked_with program store session index read)))
        → Gives SuppliedHere (of_next carried program store session index f)
    next_supplies f gives =
        next_gives carried program store session index SuppliedHere f (λ state read turn idle.
        gives read (due_of state read turn.state_is) (said_of state read turn.state_is turn.counted turn.said) (ap (λ (s : PlainSession). s.running) (same_state state turn.state_is) ∙ idle))

    open_supplies : (f : Asked × PlainOpen → Option Effect)
        → ((read : Result Statement ℕ) (seen : PlainOpen) → IsDue carried (asked_with program store session index read) → IsSaid carried (asked_with program store session index read) → (session_at store session).running ≡ Some seen → seen.index ≡ index
        → Gives SuppliedHere (f (asked_with program store session index read, seen)))
        → Gives SuppliedHere (of_open carried program store session index f)
    open_supplies f gives =
        open_gives carried program store session index SuppliedHere f (λ state read seen at said running counted.
        let opened = (sound.each session state at).running seen running in
        gives read seen (due_of state read at) (said_of state read at (sym counted ∙ opened.counted) said) (ap (λ (s : PlainSession). s.running) (same_state state at) ∙ running) counted)

    closing_supplies : Gives SuppliedHere (closing_effect program store session index)
    unfolding closing_effect
    closing_supplies =
        gives_bind SuppliedHere (slice_get store.sessions session) _ (λ state at.
        gives_tested SuppliedHere (has_ended_statements program session state && index == state.done + 1) state _ (λ test.
        gives_tested SuppliedHere state.transaction state _ (λ in_transaction.
        let ended = and_parts (is_none state.running) (state.done == count_in (slice_get program.sessions session)) (and_parts (has_ended_statements program session state) (index == state.done + 1) test).0 in
        rolled_back_supplies carried (asked_with program store session index (Err 0)) (due_of state (Err 0) at) stocks state [] None (none_is state.running ended.0))))

    session_supplies : (k : EntryKind) → Gives SuppliedHere (session_entry carried program store session index k)
    unfolding session_entry
    session_supplies (kind.Begin t) = next_supplies _ (λ read due said idle. begin_supplies carried (asked_with program store session index read) due stocks t idle)
    session_supplies (kind.Start t) = next_supplies _ (λ read due said idle. start_supplies carried (asked_with program store session index read) due stocks t idle said)
    session_supplies (kind.End gone added) = open_supplies _ (λ read seen due said running counted. end_supplies carried (asked_with program store session index read) due stocks guarded seen gone added running counted said)
    session_supplies (kind.Abandon t) = open_supplies _ (λ read seen due said running counted. abandon_supplies carried (asked_with program store session index read) due stocks seen t running)
    session_supplies (kind.Commit t) = next_supplies _ (λ read due said idle. commit_supplies carried (asked_with program store session index read) due stocks guarded t idle)
    session_supplies kind.Rollback =
        gives_or SuppliedHere (of_next carried program store session index rollback_effect) (closing_effect program store session index)
        (next_supplies rollback_effect (λ read due said idle. rollback_supplies carried (asked_with program store session index read) due stocks)) closing_supplies
    session_supplies (kind.Define t) = next_supplies _ (λ read due said idle. define_supplies carried (asked_with program store session index read) due stocks t idle)
    session_supplies (kind.Wait t) = next_supplies _ (λ read due said idle. wait_supplies carried (asked_with program store session index read) due stocks t idle)
    session_supplies (kind.Report t numbers) = next_supplies _ (λ read due said idle. report_supplies carried (asked_with program store session index read) due stocks t numbers idle)
    session_supplies (kind.RecluStart table parts) = tt
    session_supplies (kind.RecluEnd table gone added) = tt
    session_supplies (kind.RecluMiss table why) = tt
    session_supplies (kind.Purge parts) = tt
    session_supplies kind.Close = tt

  by_supplies : (effect : Effect) → SuppliedHere effect → Keeps effect
  by_supplies effect supplies ok = effect_stocks carried program store effect sound ok stocks supplies

  purge_keeps : (index : ℕ) (k : EntryKind) → Gives Keeps (purge_entry store index k)
  unfolding purge_entry purge_effect
  purge_keeps index (kind.Purge parts) =
      gives_when Keeps (index == store.tally.purges + 1 && may_purge store parts) _ (λ test ok. purge_stocks carried program store sound stocks parts (and_parts (index == store.tally.purges + 1) (may_purge store parts) test).1)
  purge_keeps index _ = tt

  actor_keeps : (actor_of : Actor) (index : ℕ) (k : EntryKind) → Gives Keeps (actor_entry carried program store actor_of index k)
  actor_keeps (actor.Session session) index k = gives_on SuppliedHere Keeps (session_entry carried program store session index k) by_supplies (session_supplies session index k)
  actor_keeps actor.Recluster index k = gives_on SuppliedHere Keeps (actor_entry carried program store actor.Recluster index k) by_supplies (round_supplies carried program store sound stocks index k)
  actor_keeps actor.Purge index k = purge_keeps index k

  pub entry_keeps : (entry : Entry) (effect : Effect) → entry.moment < 2 ^ 62 → effect_of carried program store entry ≡ Some effect → Stocks carried program (applied store effect)
  unfolding effect_of
  entry_keeps entry effect time e =
      let found = bind_some (actor_entry carried program store entry.actor entry.index entry.kind) _ effect e in
      let same = only_if_some (found.0.moment == entry.moment) found.0 effect found.2 in
      let kept = subst Keeps same.1 (gives_at Keeps (actor_entry carried program store entry.actor entry.index entry.kind) found.0 (actor_keeps entry.actor entry.index entry.kind) found.1) in
      kept (entries_sound carried program store entry effect sound time e)

-- ---- histories

empty_stocks : (carried : Carried) (program : Script) → Stocks carried program (empty_store program)
unfolding empty_store
empty_stocks carried program = record {
  stock = record { used = λ place table at part e. absurd (none-some table at); pins = tt; round = tt; added = tt };
  there = tt;
  marked = tt;
  held = λ session state at. held_idle carried program session state (each_new program.sessions session state at);
}
  where
    each_new : (lines : List SessionText) (session : ℕ) (state : PlainSession) → slice_get (map (λ (_ : SessionText). new_session) lines) session ≡ Some state → state.running ≡ None
    each_new [] session state at = absurd (none-some state at)
    each_new (first ∷ lines) zero state at = ap (λ (s : PlainSession). s.running) (sym (same_Some new_session state at))
    each_new (first ∷ lines) (suc session) state at = each_new lines session state at

-- an entry of a history in time is in time
entry_in_time : (carried : Carried) (program : Script) (history before : List Entry) (store : Plain) (entry : Entry) (effect : Effect) → IsInTime program history → IsEntry carried program history before store entry effect → entry.moment < 2 ^ 62
unfolding step_of
entry_in_time carried program history before store entry effect time there =
    let late : store.moment ≤ last_moment + length before = legal_in_time carried program before (store, there.replies) time.0 there.replayed in
    let next : (applied store effect).moment ≤ last_moment + (length before + 1) =
    step_moment carried program store entry (applied store effect, effect.reply) (last_moment + (length before + 1)) (ap (λ (o : Option Effect). option_map (λ (x : Effect). (applied store x, x.reply)) o) there.effected) (omega arith) (omega (arith, late)) in
    omega (arith, next, applied_moment store effect, effect_moment carried program store entry effect there.effected, time.1, ap (λ (h : List Entry). length h) there.whole, length-append before (entry ∷ there.later))

pub legal_stocks : (carried : Carried) (program : Script) (history : List Entry) (run : Run) → IsInTime program history → replay_of carried program history ≡ Some run → AreGuarded run.0 × Stocks carried program run.0
legal_stocks carried program history run time e =
    by_entries carried program history time (λ before store. AreGuarded store × Stocks carried program store)
    (λ before store entry effect there both. (
      entries_keep carried program store entry effect there.sound there.effected both.0,
      entry_keeps carried program store there.sound both.1 both.0 entry effect (entry_in_time carried program history before store entry effect time there) there.effected,
    )) run (empty_guarded program, empty_stocks carried program) e
