use Rattle.std.specs.Prelude.{codes}
use Rattle.tt_print.specs.text.Words.{literal_words}
use Rattle.tt_print.proofs.text.Spacing.{separated_written}
use Rattle.tt_print.proofs.words.write_literals.Goals as goal

pub returns : goal.returns
returns c = record {
  ok =
      separated_written literal_words (codes ",") _ _ _ _ _ _ _ c.in-Some.ensures.cases.0 c.in_ok-write_literal.ensures.ok c.loop-literal-test.false c.loop-literal.invariant;
}
