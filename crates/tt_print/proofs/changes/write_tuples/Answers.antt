use Rattle.std.specs.Prelude.{codes}
use Rattle.tt_print.specs.text.Changes.{tuple_words}
use Rattle.tt_print.proofs.text.Spacing.{separated_written}
use Rattle.tt_print.proofs.changes.write_tuples.Goals as goal

pub returns : goal.returns
returns c = record {
  ok =
      separated_written tuple_words (codes ",") _ _ _ _ _ _ _ c.in-Some.ensures.cases.0 c.in_ok-write_tuple.ensures.ok c.loop-tuple-test.false c.loop-tuple.invariant;
}
