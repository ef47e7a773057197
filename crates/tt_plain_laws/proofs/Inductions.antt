-- Laws of legal histories by their last entry.
use Rattle.std.specs.Prelude.{List, None, Option, Some, [], length, refl, ℕ, ◌++◌, ◌+◌, ◌<◌, ◌^◌, ◌∷◌, ◌≡◌, ◌≤◌}
use Rattle.std.proofs.Common.{ap, append_assoc, arith, length-append, subst, sym, ◌∙◌}
use Rattle.std.proofs.lemmas.Option.{none-some, same_Some}
use Rattle.tt_history.specs.declared.history.Entry.{Entry}
use Rattle.tt_history.specs.declared.reply.Reply.{Reply}
use Rattle.tt_plain.proofs.Answers.{map_some}
use Rattle.tt_plain.proofs.law.Clock.{legal_in_time, replay_none}
use Rattle.tt_plain.proofs.law.Histories.{applied_moment, effect_moment, legal_sound}
use Rattle.tt_plain.proofs.law.entry.Entries.{entries_sound}
use Rattle.tt_plain.specs.law.Changes.{IsSoundEffect}
use Rattle.tt_plain.specs.refusal.ClockEnd.{last_moment}
use Rattle.tt_plain.specs.Answers.{◌>>=◌}
use Rattle.tt_plain.specs.asked.Carried.{Carried}
use Rattle.tt_plain.specs.declared.store.Plain.{Plain}
use Rattle.tt_plain.specs.effect.Apply.{applied}
use Rattle.tt_plain.specs.effect.Effect.{Effect}
use Rattle.tt_plain.specs.history.Replay.{Run, after, replay_from, replay_of}
use Rattle.tt_plain.specs.history.Step.{effect_of, step_of}
use Rattle.tt_plain.specs.law.Sound.{IsInTime, IsSound}
use Rattle.tt_plain.specs.stored.Empty.{empty_store}
use Rattle.tt_script.specs.declared.script.Script.{Script}

append_nil : {A : Type 0} (xs : List A) → xs ++ [] ≡ xs
append_nil [] = refl
append_nil (x ∷ xs) = ap (λ ys. x ∷ ys) (append_nil xs)

module _ (carried : Carried) (program : Script) where
  replay_append : (run : Option Run) (first later : List Entry) → replay_from carried program run (first ++ later) ≡ replay_from carried program (replay_from carried program run first) later
  unfolding replay_from
  replay_append run [] later = refl
  replay_append run (entry ∷ first) later = replay_append (after carried program run entry) first later

  -- an entry of a legal history, after those before it and before those behind it
  pub record IsEntry (history before : List Entry) (store : Plain) (entry : Entry) (effect : Effect) : Type 0 where
    pub later : List Entry
    pub whole : history ≡ before ++ entry ∷ later
    pub replies : List (Option Reply)
    pub replayed : replay_of carried program before ≡ Some (store, replies)
    pub sound : IsSound carried program store
    pub effected : effect_of carried program store entry ≡ Some effect
    pub good : IsSoundEffect carried program store effect
    pub stepped : (reply : Option Reply) × (step_of carried program store entry ≡ Some (applied store effect, reply))

  in_time : (store : Plain) (entry : Entry) (effect : Effect) (next : Plain) (cap : ℕ) → effect_of carried program store entry ≡ Some effect → applied store effect ≡ next → next.moment ≤ cap → cap < 2 ^ 62 → entry.moment < 2 ^ 62
  in_time store entry effect next cap e same late few =
      omega (arith, effect_moment carried program store entry effect e, applied_moment store effect, ap (λ (s : Plain). s.moment) same, late, few)

  module _ (history : List Entry) (time : IsInTime program history) (P : List Entry → Plain → Type 0)
      (each : (before : List Entry) (store : Plain) (entry : Entry) (effect : Effect) → IsEntry history before store entry effect → P before store → P (before ++ entry ∷ []) (applied store effect)) where
    before_in_time : (before later : List Entry) → history ≡ before ++ later → IsInTime program before
    before_in_time before later e = (time.0, omega (arith, time.1, ap (λ (h : List Entry). length h) e, length-append before later))

    goes_on : (before : List Entry) (now run : Run) (entries : List Entry) → history ≡ before ++ entries → replay_of carried program before ≡ Some now → P before now.0
        → replay_from carried program (Some now) entries ≡ Some run → P history run.0
    unfolding replay_from replay_of step_of
    goes_on before now run [] is replayed holds e =
        subst (λ (r : Run). P history r.0) (same_Some now run e) (subst (λ (h : List Entry). P h now.0) (sym (append_nil before) ∙ sym is) holds)
    goes_on before now run (entry ∷ entries) is replayed holds e =
        goes (λ next made there g. goes_on (before ++ entry ∷ []) next run entries (is ∙ sym (append_assoc before (entry ∷ []) entries)) made there g) (step_of carried program now.0 entry) refl e
      where
        goes : ((next : Run) → replay_of carried program (before ++ entry ∷ []) ≡ Some next → P (before ++ entry ∷ []) next.0 → replay_from carried program (Some next) entries ≡ Some run → P history run.0)
            → (step : Option (Plain × Option Reply)) → step_of carried program now.0 entry ≡ step → replay_from carried program (step >>= λ next. Some (next.0, now.1 ++ next.1 ∷ [])) entries ≡ Some run → P history run.0
        goes behind None f g = absurd (none-some run (sym (replay_none carried program entries) ∙ g))
        goes behind (Some next) f g =
            let found = map_some (λ (effect : Effect). (applied now.0 effect, effect.reply)) (effect_of carried program now.0 entry) next f in
            let made : replay_of carried program (before ++ entry ∷ []) ≡ Some (next.0, now.1 ++ next.1 ∷ []) =
            replay_append (Some (empty_store program, [])) before (entry ∷ []) ∙ ap (λ (r : Option Run). after carried program r entry) replayed
            ∙ ap (λ (s : Option (Plain × Option Reply)). s >>= λ next. Some (next.0, now.1 ++ next.1 ∷ [])) f in
            let late : next.0.moment ≤ last_moment + length (before ++ entry ∷ []) = legal_in_time carried program (before ++ entry ∷ []) (next.0, now.1 ++ next.1 ∷ []) time.0 made in
            let sound : IsSound carried program now.0 = legal_sound carried program before now (before_in_time before (entry ∷ entries) is) replayed in
            let early : entry.moment < 2 ^ 62 =
            in_time now.0 entry found.0 next.0 (last_moment + length (before ++ entry ∷ [])) found.1 (ap (λ (n : Plain × Option Reply). n.0) found.2) late
            (omega (arith, time.1, ap (λ (h : List Entry). length h) is, length-append before (entry ∷ entries), length-append before (entry ∷ []))) in
            let there : IsEntry history before now.0 entry found.0 =
            record {
              later = entries;
              whole = is;
              replies = now.1;
              replayed = replayed;
              sound = sound;
              effected = found.1;
              good = entries_sound carried program now.0 entry found.0 sound early found.1;
              stepped = (found.0.reply, f ∙ ap Some (sym found.2));
            } in
            behind (next.0, now.1 ++ next.1 ∷ []) made
            (subst (P (before ++ entry ∷ [])) (ap (λ (n : Plain × Option Reply). n.0) found.2) (each before now.0 entry found.0 there holds)) g

    pub by_entries : (run : Run) → P [] (empty_store program) → replay_of carried program history ≡ Some run → P history run.0
    unfolding replay_of replay_from
    by_entries run first e = goes_on [] (empty_store program, []) run history refl refl first e
