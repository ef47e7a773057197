use Rattle.std.proofs.Common.{◌≡◌, ◌++◌, ◌∷◌, take}
use Rattle.std.specs.Prelude.{codes}
use Rattle.std.specs.List.{flat_map}
use Rattle.tt_print.specs.text.Words.{spaced}
use Rattle.tt_print.specs.text.Changes.{set_words}
use Rattle.tt_print.proofs.changes.write_sets.Given as goal

abbrev pub invariant-loop-set : goal.invariant-loop-set
invariant-loop-set l = l.out.items ≡ l.initial.out.items ++ flat_map (λ set. spaced (codes "," ∷ set_words set)) (take l.set-index l.others)
