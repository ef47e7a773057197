-- A history that is longer by an entry: its run, its store and the contents of its parts.
use Rattle.std.specs.Prelude.{List, None, Option, Some, [], fold, refl, ℕ, ◌++◌, ◌+◌, ◌<◌, ◌^◌, ◌∷◌, ◌≡◌}
use Rattle.std.proofs.Common.{ap, arith, subst, sym, ◌∙◌}
use Rattle.std.proofs.lemmas.Option.{none-some, same_Some}
use Rattle.tt_value.specs.declared.value.Row.{Row}
use Rattle.tt_script.specs.declared.script.Script.{Script}
use Rattle.tt_history.specs.declared.history.Entry.{Entry}
use Rattle.tt_history.specs.declared.reply.Reply.{Reply}
use Rattle.tt_plain.proofs.law.Clock.{legal_in_time, replay_none}
use Rattle.tt_plain.proofs.law.Histories.{legal_sound}
use Rattle.tt_plain.specs.Answers.{◌>>=◌}
use Rattle.tt_plain.specs.asked.Carried.{Carried}
use Rattle.tt_plain.specs.declared.store.Plain.{Plain}
use Rattle.tt_plain.specs.history.Contents.{contents_of, contents_with, parts_added}
use Rattle.tt_plain.specs.history.Replay.{Run, after, next_store, pairs_from, pairs_of, replay_from, replay_of, store_after, store_or}
use Rattle.tt_plain.specs.history.Step.{step_of}
use Rattle.tt_plain.specs.law.Sound.{IsInTime, IsSound}
use Rattle.tt_plain.specs.stored.Empty.{empty_store}
use Rattle.tt_built.specs.Built.{built}
use Rattle.tt_state.proofs.Lists.{all_behind, last_fold}
use Rattle.tt_state.proofs.Owed.{few_statements}
use Rattle.tt_state.specs.Chronicle.{Chronicle, store_of}
use Rattle.tt_state.specs.Keeps.{StandsFor}
use Rattle.tt_state.specs.Kept.{Kept}

module _ (carried : Carried) (program : Script) where
  replay_last : (run : Option Run) (history : List Entry) (entry : Entry) → replay_from carried program run (history ++ entry ∷ []) ≡ after carried program (replay_from carried program run history) entry
  unfolding replay_from
  replay_last run [] entry = refl
  replay_last run (first ∷ history) entry = replay_last (after carried program run first) history entry

  pub replay_longer : (history : List Entry) (entry : Entry) (run : Run) (next : Plain × Option Reply) → replay_of carried program history ≡ Some run → step_of carried program run.0 entry ≡ Some next
      → replay_of carried program (history ++ entry ∷ []) ≡ Some (next.0, run.1 ++ next.1 ∷ [])
  unfolding replay_of
  replay_longer history entry run next legal step =
      replay_last (Some (empty_store program, [])) history entry ∙ ap (λ r. after carried program r entry) legal
      ∙ ap (λ (o : Option (Plain × Option Reply)). o >>= λ n. Some (n.0, run.1 ++ n.1 ∷ [])) step

  -- the store after a legal history is that of its run
  store_of_run : (before run : Run) (entries : List Entry) → replay_from carried program (Some before) entries ≡ Some run → fold (next_store carried program) before.0 entries ≡ run.0
  unfolding replay_from next_store
  store_of_run before run [] e = ap (λ (r : Run). r.0) (same_Some before run e)
  store_of_run before run (entry ∷ entries) e = goes (λ next f. store_of_run next run entries f) (step_of carried program before.0 entry) refl e
    where
      goes : ((next : Run) → replay_from carried program (Some next) entries ≡ Some run → fold (next_store carried program) next.0 entries ≡ run.0)
          → (step : Option (Plain × Option Reply)) → step_of carried program before.0 entry ≡ step
          → replay_from carried program (step >>= λ next. Some (next.0, before.1 ++ next.1 ∷ [])) entries ≡ Some run → fold (next_store carried program) (store_or before.0 (step_of carried program before.0 entry)) entries ≡ run.0
      goes behind None is f = absurd (none-some run (sym (replay_none carried program entries) ∙ f))
      goes behind (Some next) is f =
          ap (λ (s : Plain). fold (next_store carried program) s entries) (ap (store_or before.0) is) ∙ behind (next.0, before.1 ++ next.1 ∷ []) f

  pub store_is : (history : List Entry) (run : Run) → replay_of carried program history ≡ Some run → store_after carried program history ≡ run.0
  unfolding replay_of store_after
  store_is history run e = store_of_run (empty_store program, []) run history e

  -- the store after one more entry
  pub store_longer : (history : List Entry) (entry : Entry) (next : Plain × Option Reply) → step_of carried program (store_after carried program history) entry ≡ Some next
      → store_after carried program (history ++ entry ∷ []) ≡ next.0
  unfolding store_after next_store
  store_longer history entry next step =
      last_fold (next_store carried program) (empty_store program) history entry
      ∙ ap (store_or (fold (next_store carried program) (empty_store program) history)) step

  pairs_last : (store : Plain) (history : List Entry) (entry : Entry) → pairs_from carried program store (history ++ entry ∷ []) ≡ pairs_from carried program store history ++ (fold (next_store carried program) store history, entry) ∷ []
  pairs_last store [] entry = refl
  pairs_last store (first ∷ history) entry = ap (λ pairs. (store, first) ∷ pairs) (pairs_last (next_store carried program store first) history entry)

  -- and the contents
  pub contents_longer : (history : List Entry) (entry : Entry) → contents_of carried program (history ++ entry ∷ []) ≡ contents_with carried program (contents_of carried program history) (store_after carried program history, entry)
  unfolding contents_of pairs_of store_after
  contents_longer history entry =
      ap (fold (contents_with carried program) []) (pairs_last (empty_store program) history entry)
      ∙ last_fold (contents_with carried program) [] (pairs_from carried program (empty_store program) history) (store_after carried program history, entry)

  -- an entry that adds no part leaves them
  pub contents_same : (contents : List (List Row)) (pair : Plain × Entry) → parts_added pair.1.kind ≡ [] → contents_with carried program contents pair ≡ contents
  unfolding contents_with
  contents_same contents pair none = rw none (all_behind contents)

-- the store of a catalog is sound, and its clock is not at an end
pub in_time : (chronicle : Chronicle) (kept : Kept) (room : ℕ) → StandsFor chronicle kept room → IsInTime chronicle.program chronicle.history
in_time chronicle kept room stands =
    (stands.limits.start, omega (arith, stands.counted, few_statements chronicle.program stands.limits, stands.limits.few_sessions))

pub stands_sound : (chronicle : Chronicle) (kept : Kept) (room : ℕ) → StandsFor chronicle kept room → IsSound built chronicle.program (store_of chronicle)
stands_sound chronicle kept room stands =
    let run = stands.legal.run in
    subst (IsSound built chronicle.program) (sym (store_is built chronicle.program chronicle.history run stands.legal.replayed))
    (legal_sound built chronicle.program chronicle.history run (in_time chronicle kept room stands) stands.legal.replayed)

-- the clock stays below the end of the numbers that moments have
pub early : (chronicle : Chronicle) (kept : Kept) (room : ℕ) → StandsFor chronicle kept room → (store_of chronicle).moment + 1 < 2 ^ 62
early chronicle kept room stands =
    let run = stands.legal.run in
    omega (
      arith,
      ap (λ (s : Plain). s.moment) (store_is built chronicle.program chronicle.history run stands.legal.replayed),
      legal_in_time built chronicle.program chronicle.history run stands.limits.start stands.legal.replayed,
      stands.counted,
      few_statements chronicle.program stands.limits,
      stands.limits.few_sessions,
    )
