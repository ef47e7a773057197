use Rattle.std.proofs.Common.{◌∷◌}
use Rattle.std.specs.Prelude.{codes}
use Rattle.tt_print.specs.text.Predicates.{conjunction_words, unit_words}
use Rattle.tt_print.proofs.text.Spacing.{listed_written}
use Rattle.tt_print.proofs.text.Predicates.{predicate_words-out, conjunction_words-out}
use Rattle.tt_print.proofs.predicates.+predicates.Goals as goal

pub write_predicate-returns : goal.write_predicate-returns
write_predicate-returns t c = record {
  ok =
      listed_written (λ conjunction. codes "OR" ∷ conjunction_words conjunction) _ _ _ _ _ _ _ _ (predicate_words-out c.args.predicate.now)
      c.in_ok-write_conjunction.ensures.ok c.as_slice-conjunction-items.ensures c.loop-conjunction-test.false c.loop-conjunction.invariant;
}

pub write_conjunction-returns : goal.write_conjunction-returns
write_conjunction-returns t c = record {
  ok =
      listed_written (λ part. codes "AND" ∷ unit_words part) _ _ _ _ _ _ _ _ (conjunction_words-out c.args.conjunction.now)
      c.in_ok-write_unit.ensures.ok c.as_slice-unit-items.ensures c.loop-unit-test.false c.loop-unit.invariant;
}
