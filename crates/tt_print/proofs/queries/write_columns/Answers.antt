use Rattle.std.specs.Prelude.{codes}
use Rattle.tt_print.specs.text.Words.{column_name_words}
use Rattle.tt_print.proofs.text.Spacing.{separated_written}
use Rattle.tt_print.proofs.queries.write_columns.Goals as goal

pub returns : goal.returns
returns c = record {
  ok =
      separated_written column_name_words (codes ",") _ _ _ _ _ _ _ c.in-Some.ensures.cases.0 c.in_ok-write_column_name.ensures.ok c.loop-column-test.false c.loop-column.invariant;
}
