use Rattle.std.specs.Prelude.{codes}
use Rattle.tt_print.specs.text.Words.{number_words}
use Rattle.tt_print.proofs.text.Spacing.{separated_written}
use Rattle.tt_print.proofs.moments.write_factors.Goals as goal

pub returns : goal.returns
returns c = record {
  ok =
      separated_written number_words (codes "*") _ _ _ _ _ _ _ c.in-Some.ensures.cases.0 c.in_ok-write_number.ensures.ok c.loop-factor-test.false c.loop-factor.invariant;
}
