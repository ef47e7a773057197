use Rattle.std.proofs.Common.{length, map}
use Rattle.tt_sql.specs.grammar.Combinators.{name}
use Rattle.std.specs.Prelude.{⊤}
use Rattle.tt_sql.specs.marks.Expressions.{name_marks}
use Rattle.tt_sql.specs.trees.Lists.{Each}
use Rattle.tt_phrase.proofs.Lists.{Pending}
use Rattle.tt_parse.proofs.change.names_of.Given as goal

abbrev pub invariant-loop-names : goal.invariant-loop-names
invariant-loop-names l = record {
  given : Each (λ x. ⊤) l.names;
  pending : Pending name l.rest (map name_marks l.names) l.left;
}

abbrev pub decreases-loop-names : goal.decreases-loop-names
decreases-loop-names l = length l.left.tokens.now
