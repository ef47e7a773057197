use Rattle.std.proofs.Common.{take}
use Rattle.tt_partition.specs.Fits.{FitSchema}
use Rattle.tt_partition.proofs.fitting.fits.Given as goal

abbrev pub invariant-loop-row : goal.invariant-loop-row
invariant-loop-row l = FitSchema l.schema (take l.row-index l.rows)
