use Rattle.std.proofs.Common.{◌≡◌, ◌++◌, ◌+◌, ℕ, ℤ, List, ◌∷◌, [], replicate, ap, ◌∙◌, append_assoc}
use Rattle.std.proofs.lemmas.List.{replicate_more}
use Rattle.tt_intcol.proofs.reading.push_run.Goals as goal

more : (old new items : List ℤ) (v : ℤ) (n : ℕ) → items ≡ old ++ replicate n v → new ≡ items ++ v ∷ [] → new ≡ old ++ replicate (n + 1) v
more old new items v n so_far pushed =
    pushed ∙ ap (λ t. t ++ v ∷ []) so_far ∙ append_assoc old (replicate n v) (v ∷ []) ∙ ap (λ t. old ++ t) (replicate_more n v)

pub loop-turn-preserved : goal.loop-turn-preserved
loop-turn-preserved c = more _ _ _ _ c.loop-turn._turn c.loop-turn.invariant c.in_ok-push.ensures.items
