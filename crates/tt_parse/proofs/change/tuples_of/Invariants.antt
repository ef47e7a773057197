use Rattle.std.proofs.Common.{length, map}
use Rattle.tt_sql.specs.grammar.Written.{tuple}
use Rattle.tt_sql.specs.determined.Statements.{IsGivenTuple}
use Rattle.tt_sql.specs.marks.Changes.{tuple_marks}
use Rattle.tt_sql.specs.trees.Lists.{Each}
use Rattle.tt_phrase.proofs.Lists.{Pending}
use Rattle.tt_parse.proofs.change.tuples_of.Given as goal

abbrev pub invariant-loop-tuples : goal.invariant-loop-tuples
invariant-loop-tuples l = record {
  given : Each IsGivenTuple l.tuples;
  pending : Pending tuple l.rest (map tuple_marks l.tuples) l.left;
}

abbrev pub decreases-loop-tuples : goal.decreases-loop-tuples
decreases-loop-tuples l = length l.left.tokens.now
