use Rattle.std.proofs.Common.{map}
use Rattle.std.specs.List.{range_with_len}
use Rattle.tt_value.specs.trees.Scope.{table_scope}
use Rattle.tt_filter.specs.Parts as parts
use Rattle.tt_filter.specs.RowTruths.{HasTruths, OnRows}
use Rattle.tt_filter.specs.Sides.{sides_compared}
use Rattle.tt_filter.proofs.Lists.{if_ok}
use Rattle.tt_filter.proofs.Operands.{compared_on}
use Rattle.tt_filter.proofs.selecting.in_comparison.Goals as goal

pub returns-clause-truths : goal.returns-clause-truths
returns-clause-truths c =
    if_ok (HasTruths (map (sides_compared c.side_of-left_side.result c.args.sign c.side_of-right_side.result) (range_with_len 0 c.count_of.result))) (OnRows (parts.comparing (table_scope c.args.schema.now) c.args.left.now c.args.sign c.args.right.now) c.args.partition.now.rows) c.compare_sides.result
    (λ found has. compared_on (table_scope c.args.schema.now) c.args.partition.now.rows found c.count_of.result c.count_of.ensures c.args.left.now c.args.right.now c.side_of-left_side.result c.side_of-right_side.result c.args.sign (c.side_of-left_side.ensures c.args.partition.now c.requires.kinds c.in_ok-decode_operand-2.ensures.columns) (c.side_of-right_side.ensures c.args.partition.now c.requires.kinds c.in_ok-decode_operand-2.ensures.columns) has)
    c.compare_sides.ensures
