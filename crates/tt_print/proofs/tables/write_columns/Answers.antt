use Rattle.std.specs.Prelude.{codes}
use Rattle.tt_print.specs.text.Tables.{column_words}
use Rattle.tt_print.proofs.text.Spacing.{separated_written}
use Rattle.tt_print.proofs.tables.write_columns.Goals as goal

pub returns : goal.returns
returns c = record {
  ok =
      separated_written column_words (codes ",") _ _ _ _ _ _ _ c.in-Some.ensures.cases.0 c.in_ok-write_column.ensures.ok c.loop-column-test.false c.loop-column.invariant;
}
