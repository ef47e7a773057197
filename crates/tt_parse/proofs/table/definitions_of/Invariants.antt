use Rattle.std.proofs.Common.{length, map}
use Rattle.tt_sql.specs.grammar.Written.{column}
use Rattle.std.specs.Prelude.{⊤}
use Rattle.tt_sql.specs.marks.Tables.{definition_marks}
use Rattle.tt_sql.specs.trees.Lists.{Each}
use Rattle.tt_phrase.proofs.Lists.{Pending}
use Rattle.tt_parse.proofs.table.definitions_of.Given as goal

abbrev pub invariant-loop-columns : goal.invariant-loop-columns
invariant-loop-columns l = record {
  given : Each (λ x. ⊤) l.columns;
  pending : Pending column l.rest (map definition_marks l.columns) l.left;
}

abbrev pub decreases-loop-columns : goal.decreases-loop-columns
decreases-loop-columns l = length l.left.tokens.now
