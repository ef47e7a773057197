use Rattle.tt_value.specs.declared.predicate.Comparison.TheVariants.{GreaterOrEqual, LessOrEqual}
use Rattle.tt_value.specs.declared.predicate.Operand.TheVariants as operand
use Rattle.tt_value.specs.trees.Scope.{table_scope}
use Rattle.tt_filter.specs.Parts as parts
use Rattle.tt_filter.proofs.Operands.{literal_on}
use Rattle.tt_filter.proofs.selecting.in_bounds.Goals as goal

pub returns-clause-truths : goal.returns-clause-truths
returns-clause-truths c =
    c.and.ensures (parts.comparing (table_scope c.args.schema.now) c.args.operand.now GreaterOrEqual (operand.Literal c.args.least.now)) (parts.comparing (table_scope c.args.schema.now) c.args.operand.now LessOrEqual (operand.Literal c.args.greatest.now)) c.args.partition.now.rows
    (literal_on (table_scope c.args.schema.now) c.args.partition.now.rows c.in_ok-found.found c.count_of-count.result c.count_of-count.ensures c.args.operand.now c.args.least.now c.side_of-left.result GreaterOrEqual (c.side_of-left.ensures c.args.partition.now c.requires.kinds c.in_ok-decode_operand.ensures.columns) c.in_ok-found.ensures)
    (literal_on (table_scope c.args.schema.now) c.args.partition.now.rows c.in_ok-below.below c.count_of-count.result c.count_of-count.ensures c.args.operand.now c.args.greatest.now c.side_of-left.result LessOrEqual (c.side_of-left.ensures c.args.partition.now c.requires.kinds c.in_ok-decode_operand.ensures.columns) c.in_ok-below.ensures)
