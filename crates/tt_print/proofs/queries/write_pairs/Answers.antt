use Rattle.std.specs.Prelude.{codes}
use Rattle.tt_print.specs.text.Queries.{pair_words}
use Rattle.tt_print.proofs.text.Spacing.{separated_written}
use Rattle.tt_print.proofs.queries.write_pairs.Goals as goal

pub returns : goal.returns
returns c = record {
  ok =
      separated_written pair_words (codes "AND") _ _ _ _ _ _ _ c.in-Some.ensures.cases.0 c.in_ok-write_pair.ensures.ok c.loop-pair-test.false c.loop-pair.invariant;
}
