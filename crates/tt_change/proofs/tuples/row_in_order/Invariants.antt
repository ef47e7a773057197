use Rattle.std.proofs.Common.{◌≡◌, ◌++◌, drop}
use Rattle.tt_change.specs.Cells.{stored_cells}
use Rattle.tt_change.proofs.tuples.row_in_order.Given as goal

-- what stands, with the cells that are left, is the whole row
abbrev pub invariant-loop-place : goal.invariant-loop-place
invariant-loop-place l = l.values.items ++ stored_cells (drop l.place l.columns) (drop l.place l.literals) ≡ stored_cells l.columns l.literals
