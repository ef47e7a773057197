use Rattle.tt_zone.proofs.PossibleLaws.{table_leaves, table_prunes}
use Rattle.tt_zone.proofs.laws.zones_leave_each_truth.Goals as goal

pub returns-clause-possible : goal.returns-clause-possible
returns-clause-possible c = table_leaves

pub returns-clause-pruned : goal.returns-clause-pruned
returns-clause-pruned c = table_prunes
