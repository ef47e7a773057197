-- Each legal history leads to a sound store.
use Rattle.std.specs.Prelude.{List, None, Option, Some, [], codes, decimal, flat_map, length, map, refl, slice_get, true, ℕ, ◌++◌, ◌+◌, ◌<◌, ◌==◌, ◌^◌, ◌∷◌, ◌≡◌, ◌≤◌}
use Rattle.std.proofs.Common.{ap, arith, length-append, subst, suc, sym, zero, ◌∙◌}
use Rattle.std.proofs.lemmas.Bool.{false≢true}
use Rattle.std.proofs.lemmas.List.{length-map}
use Rattle.std.proofs.lemmas.List.FromFn.{length-map-range_with_len}
use Rattle.std.proofs.lemmas.Option.{none-some, same_Some}
use Rattle.tt_history.specs.declared.history.Entry.{Entry}
use Rattle.tt_history.specs.declared.reply.Reply.{Reply}
use Rattle.tt_plain.proofs.Answers.{bind_some, map_some, only_if_some}
use Rattle.tt_plain.proofs.Tests.{same_number}
use Rattle.tt_plain.proofs.law.change.Applied.{effects_keep_sound}
use Rattle.tt_plain.proofs.law.Clock.{replay_none, step_moment}
use Rattle.tt_plain.proofs.law.entry.Entries.{entries_sound}
use Rattle.tt_plain.specs.Answers.{◌>>=◌}
use Rattle.tt_plain.specs.asked.Carried.{Carried}
use Rattle.tt_plain.specs.declared.store.Plain.{Plain}
use Rattle.tt_plain.specs.declared.store.PlainSession.{PlainSession}
use Rattle.tt_plain.specs.effect.Apply.{applied}
use Rattle.tt_plain.specs.effect.Effect.{Effect}
use Rattle.tt_plain.specs.history.Replay.{Run, replay_from, replay_of}
use Rattle.tt_plain.specs.history.Step.{actor_entry, effect_of, step_of}
use Rattle.tt_plain.specs.law.Changes.{EntriesAreSound}
use Rattle.tt_plain.specs.law.Sound.{IsSound, IsSoundSession, LegalIsSound}
use Rattle.tt_plain.specs.refusal.ClockEnd.{last_moment}
use Rattle.tt_plain.specs.stored.Empty.{empty_store, no_points}
use Rattle.tt_plain.specs.stored.Points.{ids_of, query_ids}
use Rattle.tt_plain.specs.stored.Sessions.{has_exclusive_mark, new_session}
use Rattle.tt_script.specs.declared.script.Script.{Script}
use Rattle.tt_script.specs.declared.script.SessionText.{SessionText}

empty_sound : (carried : Carried) (program : Script) → IsSound carried program (empty_store program)
unfolding empty_store query_ids
empty_sound carried program = record {
  tables = tt;
  names = tt;
  sessions = length-map program.sessions (λ _. new_session);
  each = λ session state at. new_sound (each_new program.sessions session state at);
  holders = λ table a b first second at there left right. absurd (false≢true (subst (λ (s : PlainSession). has_exclusive_mark table s ≡ true) (each_new program.sessions a first at) left));
  points = as_many program.sessions;
  layouts = refl;
  tally = record { numbered = tt; layouts = tt; pending = tt; lists = tt; pins = tt; round = tt };
}
  where
    each_new : (lines : List SessionText) (k : ℕ) (state : PlainSession) → slice_get (map (λ (_ : SessionText). new_session) lines) k ≡ Some state → state ≡ new_session
    each_new [] k state e = absurd (none-some state e)
    each_new (first ∷ lines) zero state e = sym (same_Some new_session state e)
    each_new (first ∷ lines) (suc k) state e = each_new lines k state e

    fresh : {session : ℕ} → IsSoundSession carried program [] session new_session
    fresh = record { pending = tt; rows = tt; marks = tt; marked = tt; running = λ seen e. absurd (none-some seen e); closed = λ e. refl; unmarked = λ e f. refl }

    new_sound : {session : ℕ} {state : PlainSession} → state ≡ new_session → IsSoundSession carried program [] session state
    new_sound {session} {state} e = subst (IsSoundSession carried program [] session) (sym e) fresh

    as_many : (lines : List SessionText) → length (flat_map no_points lines) ≡ length (flat_map ids_of lines)
    as_many [] = refl
    as_many (first ∷ lines) =
        omega (
          arith,
          as_many lines,
          length-append (no_points first) (flat_map no_points lines),
          length-append (ids_of first) (flat_map ids_of lines),
          length-map {B = Option ℕ} first.statements (λ _. None),
          length-map-range_with_len (λ (index : ℕ). first.name ++ codes "-" ++ decimal index) 1 (length first.statements),
        )

pub effect_moment : (carried : Carried) (program : Script) (store : Plain) (entry : Entry) (effect : Effect) → effect_of carried program store entry ≡ Some effect → effect.moment ≡ entry.moment
unfolding effect_of
effect_moment carried program store entry effect e =
    let found = bind_some (actor_entry carried program store entry.actor entry.index entry.kind) _ effect e in
    let same = only_if_some (found.0.moment == entry.moment) found.0 effect found.2 in
    ap (λ (x : Effect). x.moment) (sym same.1) ∙ same_number found.0.moment entry.moment same.0

moment_of : (store : Plain) (effect : Effect) (n : Plain × Option Reply) → (applied store effect, effect.reply) ≡ n → n.0.moment ≡ effect.moment
unfolding applied
moment_of store effect n f = ap (λ (x : Plain × Option Reply). x.0.moment) (sym f)

step_sound : (carried : Carried) (program : Script) (store : Plain) (entry : Entry) (next : Plain × Option Reply) → EntriesAreSound → IsSound carried program store → next.0.moment < 2 ^ 62
    → step_of carried program store entry ≡ Some next → IsSound carried program next.0
unfolding step_of
step_sound carried program store entry next entries sound time e =
    let found = map_some (λ (effect : Effect). (applied store effect, effect.reply)) (effect_of carried program store entry) next e in
    let now : found.0.moment < 2 ^ 62 = subst (λ (m : ℕ). m < 2 ^ 62) (moment_of store found.0 next found.2) time in
    subst (λ (n : Plain × Option Reply). IsSound carried program n.0) found.2
    (effects_keep_sound carried program store found.0 sound (entries carried program store entry found.0 sound
    (subst (λ (m : ℕ). m < 2 ^ 62) (effect_moment carried program store entry found.0 found.1) now) found.1))

run_sound : (carried : Carried) (program : Script) (before run : Run) (passed : ℕ) (entries : List Entry) → EntriesAreSound → IsSound carried program before.0 → before.0.moment ≤ last_moment + passed
    → last_moment + (passed + length entries) < 2 ^ 62 → replay_from carried program (Some before) entries ≡ Some run → IsSound carried program run.0
unfolding replay_from
run_sound carried program before run passed [] each sound now few e = subst (λ (r : Run). IsSound carried program r.0) (same_Some before run e) sound
run_sound carried program before run passed (entry ∷ entries) each sound now few e =
    goes (λ next good here f. run_sound carried program next run (passed + 1) entries each good here (omega (arith, few)) f) (step_of carried program before.0 entry) refl e
  where
    goes : ((next : Run) → IsSound carried program next.0 → next.0.moment ≤ last_moment + (passed + 1) → replay_from carried program (Some next) entries ≡ Some run → IsSound carried program run.0)
        → (step : Option (Plain × Option Reply)) → step_of carried program before.0 entry ≡ step
        → replay_from carried program (step >>= λ next. Some (next.0, before.1 ++ next.1 ∷ [])) entries ≡ Some run → IsSound carried program run.0
    goes behind None is f = absurd (none-some run (sym (replay_none carried program entries) ∙ f))
    goes behind (Some next) is f =
        let late : next.0.moment ≤ last_moment + (passed + 1) = step_moment carried program before.0 entry next (last_moment + (passed + 1)) is (omega arith) (omega (arith, now)) in
        behind (next.0, before.1 ++ next.1 ∷ []) (step_sound carried program before.0 entry next each sound (omega (arith, late, few)) is) late f

pub legal_if_entries : EntriesAreSound → LegalIsSound
unfolding replay_of empty_store
legal_if_entries each carried program history run time e =
    run_sound carried program (empty_store program, []) run 0 history each (empty_sound carried program) (omega (arith, time.0)) (omega (arith, time.1)) e

pub legal_sound : LegalIsSound
legal_sound carried program history run time e = legal_if_entries entries_sound carried program history run time e

pub applied_moment : (store : Plain) (effect : Effect) → (applied store effect).moment ≡ effect.moment
unfolding applied
applied_moment store effect = refl
