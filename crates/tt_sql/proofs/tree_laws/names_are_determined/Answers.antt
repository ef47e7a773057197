-- A name is read back from its marks.
use Rattle.tt_sql.proofs.machine.QueryTrees.{one_column, one_table}
use Rattle.tt_sql.proofs.tree_laws.names_are_determined.Goals as goal

pub returns : goal.returns
returns c = record { column = one_column; table = one_table }
