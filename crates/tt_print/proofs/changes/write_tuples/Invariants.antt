use Rattle.std.proofs.Common.{◌≡◌, ◌++◌, ◌∷◌, take}
use Rattle.std.specs.Prelude.{codes}
use Rattle.std.specs.List.{flat_map}
use Rattle.tt_print.specs.text.Words.{spaced}
use Rattle.tt_print.specs.text.Changes.{tuple_words}
use Rattle.tt_print.proofs.changes.write_tuples.Given as goal

abbrev pub invariant-loop-tuple : goal.invariant-loop-tuple
invariant-loop-tuple l = l.out.items ≡ l.initial.out.items ++ flat_map (λ tuple. spaced (codes "," ∷ tuple_words tuple)) (take l.tuple-index l.others)
