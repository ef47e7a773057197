use Rattle.std.proofs.Common.{take}
use Rattle.tt_partition.specs.Cuts.{column_kinds}
use Rattle.tt_partition.specs.Fits.{FitKinds}
use Rattle.tt_partition.proofs.fitting.fit_columns.Given as goal

abbrev pub invariant-loop-at : goal.invariant-loop-at
invariant-loop-at l = FitKinds (take l.at (column_kinds l.columns)) (take l.at l.values)
