use Rattle.std.proofs.Common.{take}
use Rattle.std.specs.List.{AllZip}
use Rattle.tt_partition.specs.ColumnView.{IsColumnAt}
use Rattle.tt_partition.proofs.partition.Partition.columns.Given as goal

abbrev pub invariant-loop-place : goal.invariant-loop-place
invariant-loop-place l = AllZip (IsColumnAt l.self) (take l.place-index l.places) l.columns.items
