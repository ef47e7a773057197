use Rattle.std.proofs.Common.{take}
use Rattle.tt_value.specs.trees.Scope.{table_scope}
use Rattle.tt_filter.specs.RowTruths.{OnRows}
use Rattle.tt_filter.specs.Sides.{IsSideOf}
use Rattle.tt_filter.proofs.Walking.{listed_so_far}
use Rattle.tt_filter.proofs.selecting.in_list.Given as goal

abbrev pub invariant-loop-literal : goal.invariant-loop-literal
invariant-loop-literal l = OnRows (listed_so_far (table_scope l.schema) l.operand (take l.literal-index l.literals)) l.partition.rows l.found × IsSideOf (table_scope l.schema) l.partition.rows l.operand l.left
