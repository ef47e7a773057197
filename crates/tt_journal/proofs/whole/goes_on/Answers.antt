use Rattle.std.proofs.Common.{arith, sym, ◌∙◌}
use Rattle.tt_journal.proofs.Answered.{goes_here, goes_later, goes_none}
use Rattle.tt_journal.proofs.whole.goes_on.Goals as goal

pub returns-then-is_of_session : goal.returns-then-is_of_session
returns-then-is_of_session c =
    goes_here c.args.session c.args.index c.args.entries.now c.loop-entry.entry-index c.entry-item.result c.entry-item.result (omega arith) c.entry-item.is (sym c.is_of_session.ensures ∙ c.if-is_of_session.true) c.loop-entry.invariant

pub loop-entry-preserved : goal.loop-entry-preserved
loop-entry-preserved c =
    goes_later c.args.session c.args.index c.args.entries.now c.loop-entry.entry-index c.entry-item.result c.entry-item.result (omega arith) c.entry-item.is (sym c.is_of_session.ensures ∙ c.if-is_of_session.false) c.loop-entry.invariant

pub returns : goal.returns
returns c = goes_none c.args.session c.args.index c.args.entries.now c.loop-entry.entry-index (omega arith) c.loop-entry.invariant
