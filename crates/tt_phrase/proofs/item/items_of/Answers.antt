use Rattle.std.proofs.Common.{arith, refl}
use Rattle.tt_sql.specs.determined.Queries.{IsGivenItem}
use Rattle.tt_sql.specs.marks.Queries.{item_marks}
use Rattle.tt_terminal.proofs.Exits.{exits, within}
use Rattle.tt_terminal.proofs.Steps.{word_shorter}
use Rattle.tt_phrase.proofs.GivenTrees.{each_push}
use Rattle.tt_phrase.proofs.Lists.{list_ends, list_next, listed_end, pending_begins, pending_more}
use Rattle.tt_phrase.proofs.item.items_of.Goals as goal

pub loop-items-init : goal.loop-items-init
loop-items-init c = record {
  given = rw c.new-items.ensures tt;
  pending = rw c.new-items.ensures (pending_begins c.requires);
}

pub returns-in_err-part-clause-reads : goal.returns-in_err-part-clause-reads
returns-in_err-part-clause-reads c = exits _ _ _ _ _ _ c.from_residual.result c.from_residual.ensures.1 (within (λ at f. c.loop-items.invariant.pending.halts at f) _ c.in_err-part.ensures.reads)

pub loop-items-preserved : goal.loop-items-preserved
loop-items-preserved c = record {
  given = rw c.in_ok-push.ensures.ok (each_push IsGivenItem _ _ _ refl c.loop-items.invariant.given c.in_ok-part.ensures.given);
  pending = rw c.in_ok-push.ensures.ok (pending_more (list_next item_marks _ _ c.loop-items.invariant.pending c.in_ok-part.ensures.reads) c.in-Some.ensures);
}

pub loop-items-smaller : goal.loop-items-smaller
loop-items-smaller c = let a = c.in_ok-part.ensures.reads.shorter in let b = word_shorter c.in-Some.ensures in omega (arith, a, b)

pub returns-in_default-clause-reads : goal.returns-in_default-clause-reads
returns-in_default-clause-reads c = rw c.in_ok-push.ensures.ok (list_ends (list_next item_marks _ _ c.loop-items.invariant.pending c.in_ok-part.ensures.reads) c.in_default.ensures)

pub returns-in_default-clause-given : goal.returns-in_default-clause-given
returns-in_default-clause-given c = rw c.in_ok-push.ensures.ok (listed_end IsGivenItem _ _ c.loop-items.invariant.given c.in_ok-part.ensures.given)
