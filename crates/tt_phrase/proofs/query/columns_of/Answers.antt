use Rattle.std.proofs.Common.{arith, length-append}
use Rattle.tt_sql.specs.marks.Expressions.{column_marks}
use Rattle.tt_terminal.proofs.Exits.{exits, within}
use Rattle.tt_terminal.proofs.Steps.{word_shorter}
use Rattle.tt_phrase.proofs.Lists.{list_ends, list_next, pending_begins, pending_more}
use Rattle.tt_phrase.proofs.query.columns_of.Goals as goal

pub loop-columns-init : goal.loop-columns-init
loop-columns-init c = rw c.new-columns.ensures (pending_begins c.requires)

pub returns-in_err-part-clause-reads : goal.returns-in_err-part-clause-reads
returns-in_err-part-clause-reads c = exits _ _ _ _ _ _ c.from_residual.result c.from_residual.ensures.1 (within (λ at f. c.loop-columns.invariant.halts at f) _ c.in_err-part.ensures.reads)

pub loop-columns-preserved : goal.loop-columns-preserved
loop-columns-preserved c = rw c.in_ok-push.ensures.ok (pending_more (list_next column_marks _ _ c.loop-columns.invariant c.in_ok-part.ensures.reads) c.in-Some.ensures)

pub loop-columns-smaller : goal.loop-columns-smaller
loop-columns-smaller c = let a = c.in_ok-part.ensures.reads.shorter in let b = word_shorter c.in-Some.ensures in omega (arith, a, b)

pub returns-in_default-clause-reads : goal.returns-in_default-clause-reads
returns-in_default-clause-reads c = rw c.in_ok-push.ensures.ok (list_ends (list_next column_marks _ _ c.loop-columns.invariant c.in_ok-part.ensures.reads) c.in_default.ensures)

pub returns-in_default-clause-filled : goal.returns-in_default-clause-filled
returns-in_default-clause-filled c = rw c.in_ok-push.ensures.ok (rw length-append (omega arith))
