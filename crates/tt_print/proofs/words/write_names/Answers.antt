use Rattle.std.specs.Prelude.{codes}
use Rattle.tt_print.specs.text.Words.{name_words}
use Rattle.tt_print.proofs.text.Spacing.{separated_written}
use Rattle.tt_print.proofs.words.write_names.Goals as goal

pub returns : goal.returns
returns c = record {
  ok =
      separated_written name_words (codes ",") _ _ _ _ _ _ _ c.in-Some.ensures.cases.0 c.in_ok-write_name.ensures.ok c.loop-name-test.false c.loop-name.invariant;
}
