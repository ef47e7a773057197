use Rattle.std.specs.Prelude.{codes}
use Rattle.tt_print.specs.text.Changes.{set_words}
use Rattle.tt_print.proofs.text.Spacing.{separated_written}
use Rattle.tt_print.proofs.changes.write_sets.Goals as goal

pub returns : goal.returns
returns c = record {
  ok =
      separated_written set_words (codes ",") _ _ _ _ _ _ _ c.in-Some.ensures.cases.0 c.in_ok-write_set.ensures.ok c.loop-set-test.false c.loop-set.invariant;
}
