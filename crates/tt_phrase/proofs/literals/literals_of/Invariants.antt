use Rattle.std.proofs.Common.{length, map}
use Rattle.tt_sql.specs.grammar.Written.{literal}
use Rattle.tt_value.specs.values.RowText.{IsPrintableValue}
use Rattle.tt_sql.specs.marks.Expressions.{literal_marks}
use Rattle.tt_sql.specs.trees.Lists.{Each}
use Rattle.tt_phrase.proofs.Lists.{Pending}
use Rattle.tt_phrase.proofs.literals.literals_of.Given as goal

abbrev pub invariant-loop-literals : goal.invariant-loop-literals
invariant-loop-literals l = record {
  given : Each (λ l. IsPrintableValue l.value) l.literals;
  pending : Pending literal l.rest (map literal_marks l.literals) l.left;
}

abbrev pub decreases-loop-literals : goal.decreases-loop-literals
decreases-loop-literals l = length l.left.tokens.now
