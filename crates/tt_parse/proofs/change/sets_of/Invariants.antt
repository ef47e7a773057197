use Rattle.std.proofs.Common.{length, map}
use Rattle.tt_sql.specs.machine.Factored.{read_set}
use Rattle.tt_sql.specs.determined.Statements.{IsGivenSet}
use Rattle.tt_sql.specs.marks.Changes.{set_marks}
use Rattle.tt_sql.specs.trees.Lists.{Each}
use Rattle.tt_phrase.proofs.Lists.{Pending}
use Rattle.tt_parse.proofs.change.sets_of.Given as goal

abbrev pub invariant-loop-sets : goal.invariant-loop-sets
invariant-loop-sets l = record {
  given : Each IsGivenSet l.sets;
  pending : Pending (read_set l.levels) l.rest (map set_marks l.sets) l.left;
}

abbrev pub decreases-loop-sets : goal.decreases-loop-sets
decreases-loop-sets l = length l.left.tokens.now
