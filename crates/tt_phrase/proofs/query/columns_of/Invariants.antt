use Rattle.std.proofs.Common.{length, map}
use Rattle.tt_sql.specs.grammar.Combinators.{name}
use Rattle.tt_sql.specs.marks.Expressions.{column_marks}
use Rattle.tt_phrase.proofs.Lists.{Pending}
use Rattle.tt_phrase.proofs.query.columns_of.Given as goal

abbrev pub invariant-loop-columns : goal.invariant-loop-columns
invariant-loop-columns l = Pending name l.rest (map column_marks l.columns) l.left

abbrev pub decreases-loop-columns : goal.decreases-loop-columns
decreases-loop-columns l = length l.left.tokens.now
