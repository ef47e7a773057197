use Rattle.std.proofs.Common.{map}
use Rattle.std.specs.List.{range_with_len}
use Rattle.tt_value.specs.trees.Scope.{table_scope}
use Rattle.tt_filter.specs.Parts as parts
use Rattle.tt_filter.specs.RowTruths.{HasTruths, OnRows}
use Rattle.tt_filter.specs.Sides.{side_null}
use Rattle.tt_filter.proofs.Lists.{if_ok}
use Rattle.tt_filter.proofs.Operands.{null_on}
use Rattle.tt_filter.proofs.selecting.in_null.Goals as goal

pub returns-clause-truths : goal.returns-clause-truths
returns-clause-truths c =
    if_ok (HasTruths (map (side_null c.side_of.result) (range_with_len 0 c.count_of.result))) (OnRows (parts.being_null (table_scope c.args.schema.now) c.args.operand.now) c.args.partition.now.rows) c.null_side.result
    (λ found has. null_on (table_scope c.args.schema.now) c.args.partition.now.rows found c.count_of.result c.count_of.ensures c.args.operand.now c.side_of.result (c.side_of.ensures c.args.partition.now c.requires.kinds c.in_ok-decode_operand.ensures.columns) has)
    c.null_side.ensures
