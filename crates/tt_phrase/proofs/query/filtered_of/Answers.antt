use Rattle.tt_terminal.proofs.Steps.{stops_first}
use Rattle.tt_terminal.proofs.Exits.{exits, within}
use Rattle.tt_terminal.proofs.Pairs.{pair_behind, pair_keeps}
use Rattle.tt_sql.specs.determined.Expressions.{IsGivenPredicate}
use Rattle.tt_sql.specs.marks.Expressions.{maybe_marks, predicate_marks}
use Rattle.tt_sql.specs.trees.Lists.{WhenThere}
use Rattle.tt_phrase.specs.QueryEnds.{query_tail_marks}
use Rattle.tt_phrase.proofs.query.filtered_of.Goals as goal

pub returns-in_err-filter-clause-reads : goal.returns-in_err-filter-clause-reads
returns-in_err-filter-clause-reads c = exits _ _ _ _ _ _ c.from_residual.result c.from_residual.ensures.1 (within (λ at f. stops_first f) _ c.in_err-filter.ensures.reads)

pub returns-clause-reads : goal.returns-clause-reads
returns-clause-reads c = pair_behind _ _ _ (maybe_marks predicate_marks) query_tail_marks _ _ _ _ c.paired.ensures c.in_ok-filter.ensures.reads c.tail_of.ensures

pub returns-clause-filter : goal.returns-clause-filter
returns-clause-filter c = pair_keeps _ _ _ (WhenThere IsGivenPredicate) c.paired.ensures c.in_ok-filter.ensures.given
