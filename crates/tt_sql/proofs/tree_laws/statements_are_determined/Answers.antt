-- A statement is read back from its marks.
use Rattle.tt_sql.proofs.machine.StatementTrees.{statement_reads, one_statement_tree}
use Rattle.tt_sql.proofs.tree_laws.statements_are_determined.Goals as goal

pub returns : goal.returns
returns c = record { read = statement_reads; statement = one_statement_tree }
