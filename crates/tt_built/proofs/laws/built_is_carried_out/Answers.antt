use Rattle.std.proofs.Common.{refl}
use Rattle.tt_built.specs.Built.{built}
use Rattle.tt_built.proofs.Reaches.{statements_built}
use Rattle.tt_built.proofs.laws.built_is_carried_out.Goals as goal

pub returns-clause-statements : goal.returns-clause-statements
returns-clause-statements c s = statements_built s

pub returns-clause-purges : goal.returns-clause-purges
unfolding built
returns-clause-purges c = refl

pub returns-clause-rounds : goal.returns-clause-rounds
unfolding built
returns-clause-rounds c = refl
