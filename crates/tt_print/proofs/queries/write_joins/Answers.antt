use Rattle.tt_print.specs.text.Queries.{join_words}
use Rattle.tt_print.proofs.text.Spacing.{all_written}
use Rattle.tt_print.proofs.queries.write_joins.Goals as goal

pub returns : goal.returns
returns c = record { ok = all_written join_words _ _ _ _ c.loop-join-test.false c.loop-join.invariant }
