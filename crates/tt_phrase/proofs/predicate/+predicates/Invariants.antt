use Rattle.std.proofs.Common.{◌+◌, ◌*◌, map, length}
use Rattle.tt_sql.specs.trees.Lists.{Each}
use Rattle.tt_sql.specs.determined.Expressions.{IsGivenConjunction, IsGivenUnit}
use Rattle.tt_sql.specs.grammar.Grammar.{Both}
use Rattle.tt_sql.specs.marks.Expressions.{conjunction_marks, unit_marks}
use Rattle.tt_sql.specs.grammar.Combinators.{one}
use Rattle.tt_sql.specs.machine.Factored.{read_conj, read_unit}
use Rattle.tt_sql.specs.grammar.TokenKinds.{AND, OR}
use Rattle.tt_terminal.specs.Reading.{Collected}
use Rattle.tt_phrase.proofs.predicate.+predicates.Given as goal

abbrev pub decreases-deeper_of : goal.decreases-deeper_of
decreases-deeper_of l = l.levels * 8 + 6

abbrev pub decreases-predicate_of : goal.decreases-predicate_of
decreases-predicate_of l = l.levels * 8 + 5

abbrev pub decreases-conjunctions_of : goal.decreases-conjunctions_of
decreases-conjunctions_of l = l.levels * 8 + 4

abbrev pub decreases-conjunction_of : goal.decreases-conjunction_of
decreases-conjunction_of l = l.levels * 8 + 3

abbrev pub decreases-units_of : goal.decreases-units_of
decreases-units_of l = l.levels * 8 + 2

abbrev pub decreases-unit_of : goal.decreases-unit_of
decreases-unit_of l = l.levels * 8 + 1

abbrev pub invariant-conjunctions_of-loop-behind : goal.invariant-conjunctions_of-loop-behind
invariant-conjunctions_of-loop-behind l = record {
  reads : Collected (Both (one OR) (read_conj l.levels)) l.rest (map conjunction_marks l.conjunctions) l.left;
  given : Each IsGivenConjunction l.conjunctions;
}

abbrev pub decreases-conjunctions_of-loop-behind : goal.decreases-conjunctions_of-loop-behind
decreases-conjunctions_of-loop-behind l = length l.left.tokens.now

abbrev pub invariant-units_of-loop-behind : goal.invariant-units_of-loop-behind
invariant-units_of-loop-behind l = record {
  reads : Collected (Both (one AND) (read_unit l.levels)) l.rest (map unit_marks l.units) l.left;
  given : Each IsGivenUnit l.units;
}

abbrev pub decreases-units_of-loop-behind : goal.decreases-units_of-loop-behind
decreases-units_of-loop-behind l = length l.left.tokens.now
