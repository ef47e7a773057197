use Rattle.std.specs.Prelude.{codes}
use Rattle.tt_print.specs.text.Queries.{key_words}
use Rattle.tt_print.proofs.text.Spacing.{separated_written}
use Rattle.tt_print.proofs.queries.write_keys.Goals as goal

pub returns : goal.returns
returns c = record {
  ok =
      separated_written key_words (codes ",") _ _ _ _ _ _ _ c.in-Some.ensures.cases.0 c.in_ok-write_key.ensures.ok c.loop-key-test.false c.loop-key.invariant;
}
