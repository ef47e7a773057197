use Rattle.std.proofs.Common.{◌≡◌, ◌++◌, ◌∷◌, take}
use Rattle.std.specs.Prelude.{codes}
use Rattle.std.specs.List.{flat_map}
use Rattle.tt_print.specs.text.Words.{spaced, number_words}
use Rattle.tt_print.proofs.moments.write_factors.Given as goal

abbrev pub invariant-loop-factor : goal.invariant-loop-factor
invariant-loop-factor l = l.out.items ≡ l.initial.out.items ++ flat_map (λ factor. spaced (codes "*" ∷ number_words factor)) (take l.factor-index l.others)
