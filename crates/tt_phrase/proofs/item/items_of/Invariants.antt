use Rattle.std.proofs.Common.{length, map}
use Rattle.tt_sql.specs.grammar.Grammar.{nowhere}
use Rattle.tt_sql.specs.machine.Factored.{read_item}
use Rattle.tt_sql.specs.determined.Queries.{IsGivenItem}
use Rattle.tt_sql.specs.marks.Queries.{item_marks}
use Rattle.tt_sql.specs.trees.Lists.{Each}
use Rattle.tt_phrase.proofs.Lists.{Pending}
use Rattle.tt_phrase.proofs.item.items_of.Given as goal

abbrev pub invariant-loop-items : goal.invariant-loop-items
invariant-loop-items l = record {
  given : Each IsGivenItem l.items;
  pending : Pending (read_item nowhere l.levels) l.rest (map item_marks l.items) l.left;
}

abbrev pub decreases-loop-items : goal.decreases-loop-items
decreases-loop-items l = length l.left.tokens.now
