use Rattle.std.proofs.Common.{◌≡◌, ◌++◌, ◌+◌, ℕ, List, ◌∷◌, [], replicate, ap, ◌∙◌, append_assoc}
use Rattle.std.proofs.lemmas.List.{replicate_more}
use Rattle.tt_textcol.proofs.reading.push_run.Goals as goal

more : (old new items : List (List ℕ)) (v w : List ℕ) (n : ℕ) → items ≡ old ++ replicate n v → new ≡ items ++ w ∷ [] → w ≡ v → new ≡ old ++ replicate (n + 1) v
more old new items v w n so_far pushed same =
    pushed ∙ ap (λ (u : List ℕ). items ++ u ∷ []) same ∙ ap (λ (t : List (List ℕ)). t ++ v ∷ []) so_far ∙ append_assoc old (replicate n v) (v ∷ []) ∙ ap (λ t. old ++ t) (replicate_more n v)

pub loop-turn-preserved : goal.loop-turn-preserved
loop-turn-preserved c = more _ _ _ _ _ c.loop-turn._turn c.loop-turn.invariant c.in_ok-push.ensures.items c.again.ensures
