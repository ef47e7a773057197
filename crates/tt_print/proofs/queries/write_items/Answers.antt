use Rattle.std.specs.Prelude.{codes}
use Rattle.tt_print.specs.text.Queries.{item_words}
use Rattle.tt_print.proofs.text.Spacing.{separated_written}
use Rattle.tt_print.proofs.queries.write_items.Goals as goal

pub returns : goal.returns
returns c = record {
  ok =
      separated_written item_words (codes ",") _ _ _ _ _ _ _ c.in-Some.ensures.cases.0 c.in_ok-write_item.ensures.ok c.loop-item-test.false c.loop-item.invariant;
}
