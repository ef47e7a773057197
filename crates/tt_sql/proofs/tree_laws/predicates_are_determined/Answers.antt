-- A predicate is read back from its marks.
use Rattle.tt_sql.proofs.machine.PredicateTrees.{one_predicate, one_unit}
use Rattle.tt_sql.proofs.tree_laws.predicates_are_determined.Goals as goal

pub returns : goal.returns
returns c = record { predicate = one_predicate; single = one_unit }
