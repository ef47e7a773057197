use Rattle.std.proofs.Common.{◌≡◌, ◌++◌, ◌∷◌, take}
use Rattle.std.specs.Prelude.{codes}
use Rattle.std.specs.List.{flat_map}
use Rattle.tt_print.specs.text.Words.{spaced}
use Rattle.tt_print.specs.text.Predicates.{conjunction_words, unit_words}
use Rattle.tt_print.proofs.predicates.+predicates.Given as goal

abbrev pub invariant-write_predicate-loop-conjunction : goal.invariant-write_predicate-loop-conjunction
invariant-write_predicate-loop-conjunction l = l.out.items ≡ l.initial.out.items ++ flat_map (λ conjunction. spaced (codes "OR" ∷ conjunction_words conjunction)) (take l.conjunction-index l.conjunction-items)

abbrev pub invariant-write_conjunction-loop-unit : goal.invariant-write_conjunction-loop-unit
invariant-write_conjunction-loop-unit l = l.out.items ≡ l.initial.out.items ++ flat_map (λ part. spaced (codes "AND" ∷ unit_words part)) (take l.unit-index l.unit-items)
