use Rattle.std.proofs.Common.{◌≡◌, ◌++◌, ◌∷◌, take}
use Rattle.std.specs.Prelude.{codes}
use Rattle.std.specs.List.{flat_map}
use Rattle.tt_print.specs.text.Words.{spaced}
use Rattle.tt_print.specs.text.Queries.{pair_words}
use Rattle.tt_print.proofs.queries.write_pairs.Given as goal

abbrev pub invariant-loop-pair : goal.invariant-loop-pair
invariant-loop-pair l = l.out.items ≡ l.initial.out.items ++ flat_map (λ pair. spaced (codes "AND" ∷ pair_words pair)) (take l.pair-index l.others)
