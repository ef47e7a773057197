use Rattle.tt_parse.proofs.Tables.{not_here, here}
use Rattle.tt_parse.proofs.keywords.kind_in.Goals as goal

pub returns-then-eq_ignore_ascii_case : goal.returns-then-eq_ignore_ascii_case
returns-then-eq_ignore_ascii_case c = here c.args.table.now c.args.word.now c.loop-other.other-index _ c.loop-other-test.true c.requires c.loop-other.invariant c.if-eq_ignore_ascii_case.ensures.test

pub loop-other-preserved : goal.loop-other-preserved
loop-other-preserved c = not_here c.args.table.now c.args.word.now c.loop-other.other-index _ c.loop-other-test.true c.requires c.loop-other.invariant c.if-eq_ignore_ascii_case.ensures.test
