use Rattle.std.proofs.Common.{take}
use Rattle.std.specs.List.{AllByRecursion}
use Rattle.tt_partition.specs.Validity.{AreValid}
use Rattle.tt_partition.proofs.values.rows_are_valid.Given as goal

abbrev pub invariant-loop-row : goal.invariant-loop-row
invariant-loop-row l = AllByRecursion AreValid (take l.row-index l.rows)
