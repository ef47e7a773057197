use Rattle.std.proofs.Common.{arith, refl}
use Rattle.std.specs.Prelude.{⊤}
use Rattle.tt_sql.specs.marks.Expressions.{name_marks}
use Rattle.tt_terminal.proofs.Exits.{exits, within}
use Rattle.tt_terminal.proofs.Steps.{word_shorter}
use Rattle.tt_phrase.proofs.GivenTrees.{each_push}
use Rattle.tt_phrase.proofs.Lists.{list_ends, list_next, listed_end, pending_begins, pending_more}
use Rattle.tt_parse.proofs.change.names_of.Goals as goal

pub loop-names-init : goal.loop-names-init
loop-names-init c = record {
  given = rw c.new-names.ensures tt;
  pending = rw c.new-names.ensures (pending_begins c.requires);
}

pub returns-in_err-part-clause-reads : goal.returns-in_err-part-clause-reads
returns-in_err-part-clause-reads c = exits _ _ _ _ _ _ c.from_residual.result c.from_residual.ensures.1 (within (λ at f. c.loop-names.invariant.pending.halts at f) _ c.in_err-part.ensures)

pub loop-names-preserved : goal.loop-names-preserved
loop-names-preserved c = record {
  given = rw c.in_ok-push.ensures.ok (each_push (λ x. ⊤) _ _ _ refl c.loop-names.invariant.given tt);
  pending = rw c.in_ok-push.ensures.ok (pending_more (list_next name_marks _ _ c.loop-names.invariant.pending c.in_ok-part.ensures) c.in-Some.ensures);
}

pub loop-names-smaller : goal.loop-names-smaller
loop-names-smaller c = let a = c.in_ok-part.ensures.shorter in let b = word_shorter c.in-Some.ensures in omega (arith, a, b)

pub returns-in_default-clause-reads : goal.returns-in_default-clause-reads
returns-in_default-clause-reads c = rw c.in_ok-push.ensures.ok (list_ends (list_next name_marks _ _ c.loop-names.invariant.pending c.in_ok-part.ensures) c.in_default.ensures)

pub returns-in_default-clause-given : goal.returns-in_default-clause-given
returns-in_default-clause-given c = rw c.in_ok-push.ensures.ok (listed_end (λ x. ⊤) _ _ c.loop-names.invariant.given tt)
