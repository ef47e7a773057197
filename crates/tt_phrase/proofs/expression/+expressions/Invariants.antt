use Rattle.std.proofs.Common.{◌+◌, ◌*◌, map, length}
use Rattle.tt_sql.specs.grammar.Grammar.{nowhere, Both}
use Rattle.tt_sql.specs.trees.Lists.{Each}
use Rattle.tt_sql.specs.determined.Expressions.{IsGivenAddend, IsGivenFactor}
use Rattle.tt_sql.specs.grammar.Combinators.{one}
use Rattle.tt_sql.specs.grammar.TokenKinds.{STAR}
use Rattle.tt_sql.specs.grammar.Written.{sign}
use Rattle.tt_sql.specs.marks.Expressions.{addend_marks, factor_marks}
use Rattle.tt_sql.specs.machine.Factored.{read_factor, read_factors}
use Rattle.tt_terminal.specs.Reading.{Collected}
use Rattle.tt_phrase.proofs.expression.+expressions.Given as goal

abbrev pub decreases-nested_of : goal.decreases-nested_of
decreases-nested_of l = l.levels * 8 + 6

abbrev pub decreases-expr_of : goal.decreases-expr_of
decreases-expr_of l = l.levels * 8 + 5

abbrev pub decreases-addends_of : goal.decreases-addends_of
decreases-addends_of l = l.levels * 8 + 4

abbrev pub decreases-term_of : goal.decreases-term_of
decreases-term_of l = l.levels * 8 + 3

abbrev pub decreases-factors_of : goal.decreases-factors_of
decreases-factors_of l = l.levels * 8 + 2

abbrev pub decreases-factor_of : goal.decreases-factor_of
decreases-factor_of l = l.levels * 8 + 1

abbrev pub decreases-other_of : goal.decreases-other_of
decreases-other_of l = l.levels * 8

abbrev pub invariant-addends_of-loop-sign : goal.invariant-addends_of-loop-sign
invariant-addends_of-loop-sign l = record {
  reads : Collected (Both sign (Both (read_factor nowhere l.levels) (read_factors l.levels))) l.rest (map addend_marks l.addends) l.left;
  given : Each IsGivenAddend l.addends;
}

abbrev pub decreases-addends_of-loop-sign : goal.decreases-addends_of-loop-sign
decreases-addends_of-loop-sign l = length l.left.tokens.now

abbrev pub invariant-factors_of-loop-behind : goal.invariant-factors_of-loop-behind
invariant-factors_of-loop-behind l = record {
  reads : Collected (Both (one STAR) (read_factor nowhere l.levels)) l.rest (map factor_marks l.factors) l.left;
  given : Each IsGivenFactor l.factors;
}

abbrev pub decreases-factors_of-loop-behind : goal.decreases-factors_of-loop-behind
decreases-factors_of-loop-behind l = length l.left.tokens.now
