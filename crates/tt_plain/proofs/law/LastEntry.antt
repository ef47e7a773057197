-- What a legal history's last entry leaves: what is past, and the horizons.
use Rattle.std.specs.Prelude.{List, None, Option, Some, [], fold, length, refl, ℕ, ◌++◌, ◌+◌, ◌<◌, ◌^◌, ◌∷◌, ◌≡◌, ◌≤◌}
use Rattle.std.proofs.Common.{ap, arith, subst, sym, ◌∙◌}
use Rattle.std.proofs.lemmas.List.{length_push}
use Rattle.std.proofs.lemmas.Option.{none-some, same_Some}
use Rattle.tt_history.specs.declared.history.Entry.{Entry}
use Rattle.tt_history.specs.declared.reply.Reply.{Reply}
use Rattle.tt_plain.proofs.Answers.{bind_some, map_some}
use Rattle.tt_plain.proofs.law.Clock.{legal_in_time, replay_none}
use Rattle.tt_plain.proofs.law.entry.Entries.{entries_sound}
use Rattle.tt_plain.proofs.law.Histories.{applied_moment, effect_moment, legal_sound}
use Rattle.tt_plain.proofs.law.Past.{keeps_horizons, keeps_past}
use Rattle.tt_plain.specs.Answers.{◌>>=◌}
use Rattle.tt_plain.specs.asked.Carried.{Carried}
use Rattle.tt_plain.specs.declared.store.Plain.{Plain}
use Rattle.tt_plain.specs.effect.Apply.{applied}
use Rattle.tt_plain.specs.effect.Effect.{Effect}
use Rattle.tt_plain.specs.history.Replay.{IsLegal, Run, after, next_store, replay_from, replay_of, store_after, store_or}
use Rattle.tt_plain.specs.history.Step.{effect_of, step_of}
use Rattle.tt_plain.specs.law.Changes.{IsSoundEffect}
use Rattle.tt_plain.specs.law.Past.{HorizonStays, KeepsHorizons, KeepsPast, PastStays}
use Rattle.tt_plain.specs.law.Sound.{IsInTime, IsSound}
use Rattle.tt_plain.specs.refusal.ClockEnd.{last_moment}
use Rattle.tt_plain.specs.stored.Empty.{empty_store}
use Rattle.tt_script.specs.declared.script.Script.{Script}

module _ (carried : Carried) (program : Script) where
  replay_last : (run : Option Run) (history : List Entry) (entry : Entry) → replay_from carried program run (history ++ entry ∷ []) ≡ after carried program (replay_from carried program run history) entry
  unfolding replay_from
  replay_last run [] entry = refl
  replay_last run (first ∷ history) entry = replay_last (after carried program run first) history entry

  -- the store after a legal history is that of its run
  store_of_run : (before run : Run) (entries : List Entry) → replay_from carried program (Some before) entries ≡ Some run → fold (next_store carried program) before.0 entries ≡ run.0
  unfolding replay_from next_store
  store_of_run before run [] e = ap (λ (r : Run). r.0) (same_Some before run e)
  store_of_run before run (entry ∷ entries) e = goes (λ next f. store_of_run next run entries f) (step_of carried program before.0 entry) refl e
    where
      goes : ((next : Run) → replay_from carried program (Some next) entries ≡ Some run → fold (next_store carried program) next.0 entries ≡ run.0)
          → (step : Option (Plain × Option Reply)) → step_of carried program before.0 entry ≡ step
          → replay_from carried program (step >>= λ next. Some (next.0, before.1 ++ next.1 ∷ [])) entries ≡ Some run → fold (next_store carried program) (store_or before.0 (step_of carried program before.0 entry)) entries ≡ run.0
      goes behind None is f = absurd (none-some run (sym (replay_none carried program entries) ∙ f))
      goes behind (Some next) is f =
          ap (λ (s : Plain). fold (next_store carried program) s entries) (ap (store_or before.0) is) ∙ behind (next.0, before.1 ++ next.1 ∷ []) f

  store_is : (history : List Entry) (run : Run) → replay_of carried program history ≡ Some run → store_after carried program history ≡ run.0
  unfolding replay_of store_after
  store_is history run e = store_of_run (empty_store program, []) run history e

  shorter : (history : List Entry) (entry : Entry) → IsInTime program (history ++ entry ∷ []) → IsInTime program history
  shorter history entry time = (time.0, omega (arith, time.1, length_push history entry))

  whole : (history : List Entry) (entry : Entry) (run : Run) → replay_of carried program (history ++ entry ∷ []) ≡ Some run → after carried program (replay_of carried program history) entry ≡ Some run
  unfolding replay_of
  whole history entry run e = sym (replay_last (Some (empty_store program, [])) history entry) ∙ e

  -- the last step is by a sound effect in a sound store
  last_step : (P : Plain → Plain → Type 0) → ((store : Plain) (effect : Effect) → IsSound carried program store → IsSoundEffect carried program store effect → P store (applied store effect))
      → (history : List Entry) (entry : Entry) → IsInTime program (history ++ entry ∷ []) → IsLegal carried program (history ++ entry ∷ []) → P (store_after carried program history) (store_after carried program (history ++ entry ∷ []))
  unfolding step_of
  last_step P each history entry time legal =
      let parts = bind_some (replay_of carried program history) (λ before. step_of carried program before.0 entry >>= λ next. Some (next.0, before.1 ++ next.1 ∷ [])) legal.run (whole history entry legal.run legal.replayed) in
      let stepped = bind_some (step_of carried program parts.0.0 entry) (λ next. Some (next.0, parts.0.1 ++ next.1 ∷ [])) legal.run parts.2 in
      let found = map_some (λ (effect : Effect). (applied parts.0.0 effect, effect.reply)) (effect_of carried program parts.0.0 entry) stepped.0 stepped.1 in
      let sound : IsSound carried program parts.0.0 = legal_sound carried program history parts.0 (shorter history entry time) parts.1 in
      let now : applied parts.0.0 found.0 ≡ legal.run.0 = ap (λ (n : Plain × Option Reply). n.0) found.2 ∙ ap (λ (r : Run). r.0) (same_Some (stepped.0.0, parts.0.1 ++ stepped.0.1 ∷ []) legal.run stepped.2) in
      let late : legal.run.0.moment ≤ last_moment + length (history ++ entry ∷ []) = legal_in_time carried program (history ++ entry ∷ []) legal.run time.0 legal.replayed in
      let in_time : entry.moment < 2 ^ 62 = early parts.0.0 found.0 entry legal.run.0 (last_moment + length (history ++ entry ∷ [])) found.1 now late time.1 in
      let good : P parts.0.0 (applied parts.0.0 found.0) = each parts.0.0 found.0 sound (entries_sound carried program parts.0.0 entry found.0 sound in_time found.1) in
      subst (λ (s : Plain). P s (store_after carried program (history ++ entry ∷ []))) (sym (store_is history parts.0 parts.1))
      (subst (P parts.0.0) (now ∙ sym (store_is (history ++ entry ∷ []) legal.run legal.replayed)) good)
    where
      early : (store : Plain) (effect : Effect) (entry : Entry) (next : Plain) (cap : ℕ) → effect_of carried program store entry ≡ Some effect → applied store effect ≡ next → next.moment ≤ cap → cap < 2 ^ 62 → entry.moment < 2 ^ 62
      early store effect entry next cap e is late few =
          omega (arith, effect_moment carried program store entry effect e, applied_moment store effect, ap (λ (s : Plain). s.moment) is, late, few)

pub past_stays : PastStays
past_stays carried program history entry time legal = last_step carried program KeepsPast (λ store effect sound ok. keeps_past carried program store effect sound ok) history entry time legal

pub horizon_stays : HorizonStays
horizon_stays carried program history entry time legal = last_step carried program KeepsHorizons (λ store effect sound ok. keeps_horizons carried program store effect sound ok) history entry time legal
