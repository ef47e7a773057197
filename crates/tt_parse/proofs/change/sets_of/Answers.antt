use Rattle.std.proofs.Common.{arith, refl}
use Rattle.tt_sql.specs.determined.Statements.{IsGivenSet}
use Rattle.tt_sql.specs.marks.Changes.{set_marks}
use Rattle.tt_terminal.proofs.Exits.{exits, within}
use Rattle.tt_terminal.proofs.Steps.{word_shorter}
use Rattle.tt_phrase.proofs.GivenTrees.{each_push}
use Rattle.tt_phrase.proofs.Lists.{list_ends, list_next, listed_end, pending_begins, pending_more}
use Rattle.tt_parse.proofs.change.sets_of.Goals as goal

pub loop-sets-init : goal.loop-sets-init
loop-sets-init c = record {
  given = rw c.new-sets.ensures tt;
  pending = rw c.new-sets.ensures (pending_begins c.requires);
}

pub returns-in_err-part-clause-reads : goal.returns-in_err-part-clause-reads
returns-in_err-part-clause-reads c = exits _ _ _ _ _ _ c.from_residual.result c.from_residual.ensures.1 (within (λ at f. c.loop-sets.invariant.pending.halts at f) _ c.in_err-part.ensures.reads)

pub loop-sets-preserved : goal.loop-sets-preserved
loop-sets-preserved c = record {
  given = rw c.in_ok-push.ensures.ok (each_push IsGivenSet _ _ _ refl c.loop-sets.invariant.given c.in_ok-part.ensures.given);
  pending = rw c.in_ok-push.ensures.ok (pending_more (list_next set_marks _ _ c.loop-sets.invariant.pending c.in_ok-part.ensures.reads) c.in-Some.ensures);
}

pub loop-sets-smaller : goal.loop-sets-smaller
loop-sets-smaller c = let a = c.in_ok-part.ensures.reads.shorter in let b = word_shorter c.in-Some.ensures in omega (arith, a, b)

pub returns-in_default-clause-reads : goal.returns-in_default-clause-reads
returns-in_default-clause-reads c = rw c.in_ok-push.ensures.ok (list_ends (list_next set_marks _ _ c.loop-sets.invariant.pending c.in_ok-part.ensures.reads) c.in_default.ensures)

pub returns-in_default-clause-given : goal.returns-in_default-clause-given
returns-in_default-clause-given c = rw c.in_ok-push.ensures.ok (listed_end IsGivenSet _ _ c.loop-sets.invariant.given c.in_ok-part.ensures.given)
