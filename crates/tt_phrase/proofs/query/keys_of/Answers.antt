use Rattle.std.proofs.Common.{arith, length-append}
use Rattle.tt_sql.specs.marks.Queries.{key_marks}
use Rattle.tt_terminal.proofs.Exits.{exits, within}
use Rattle.tt_terminal.proofs.Steps.{word_shorter}
use Rattle.tt_phrase.proofs.Lists.{list_ends, list_next, pending_begins, pending_more}
use Rattle.tt_phrase.proofs.query.keys_of.Goals as goal

pub loop-keys-init : goal.loop-keys-init
loop-keys-init c = rw c.new-keys.ensures (pending_begins c.requires)

pub returns-in_err-part-clause-reads : goal.returns-in_err-part-clause-reads
returns-in_err-part-clause-reads c = exits _ _ _ _ _ _ c.from_residual.result c.from_residual.ensures.1 (within (λ at f. c.loop-keys.invariant.halts at f) _ c.in_err-part.ensures)

pub loop-keys-preserved : goal.loop-keys-preserved
loop-keys-preserved c = rw c.in_ok-push.ensures.ok (pending_more (list_next key_marks _ _ c.loop-keys.invariant c.in_ok-part.ensures) c.in-Some.ensures)

pub loop-keys-smaller : goal.loop-keys-smaller
loop-keys-smaller c = let a = c.in_ok-part.ensures.shorter in let b = word_shorter c.in-Some.ensures in omega (arith, a, b)

pub returns-in_default-clause-reads : goal.returns-in_default-clause-reads
returns-in_default-clause-reads c = rw c.in_ok-push.ensures.ok (list_ends (list_next key_marks _ _ c.loop-keys.invariant c.in_ok-part.ensures) c.in_default.ensures)

pub returns-in_default-clause-filled : goal.returns-in_default-clause-filled
returns-in_default-clause-filled c = rw c.in_ok-push.ensures.ok (rw length-append (omega arith))
