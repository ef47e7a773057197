use Rattle.std.proofs.Common.{map}
use Rattle.std.specs.List.{range_with_len}
use Rattle.tt_value.specs.trees.Scope.{table_scope}
use Rattle.tt_filter.specs.Parts as parts
use Rattle.tt_filter.specs.RowTruths.{HasTruths, OnRows}
use Rattle.tt_filter.specs.Sides.{side_begins}
use Rattle.tt_filter.proofs.Lists.{if_ok}
use Rattle.tt_filter.proofs.Operands.{begins_on}
use Rattle.tt_filter.proofs.selecting.in_front.Goals as goal

pub returns-clause-truths : goal.returns-clause-truths
returns-clause-truths c =
    if_ok (HasTruths (map (side_begins c.side_of_column-side.result c.args.front.now.text) (range_with_len 0 c.count_of.result))) (OnRows (parts.beginning (table_scope c.args.schema.now) c.args.column.now c.args.front.now.text) c.args.partition.now.rows) c.begin_side.result
    (λ found has. begins_on (table_scope c.args.schema.now) c.args.partition.now.rows found c.count_of.result c.count_of.ensures c.args.column.now c.side_of_column-side.result c.args.front.now.text (c.side_of_column-side.ensures c.args.partition.now c.requires.kinds c.in_ok-decode_column.ensures.columns) has)
    c.begin_side.ensures
