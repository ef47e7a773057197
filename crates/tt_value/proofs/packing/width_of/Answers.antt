use Rattle.std.proofs.Common.{arith}
use Rattle.tt_value.proofs.columns.Packing.{width_holds}
use Rattle.tt_value.proofs.packing.width_of.Goals as goal

pub returns-clause-enough : goal.returns-clause-enough
returns-clause-enough c = width_holds c.args.number (omega arith)
