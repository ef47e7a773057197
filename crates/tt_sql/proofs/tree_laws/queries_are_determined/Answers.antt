-- A query is read back from its marks.
use Rattle.tt_sql.proofs.determined.Statements.{query_given}
use Rattle.tt_sql.proofs.machine.QueryTrees.{one_join, one_query, query_reads}
use Rattle.tt_sql.proofs.tree_laws.queries_are_determined.Goals as goal

pub returns : goal.returns
returns c = record { query = one_query; join = one_join; read = λ q rest given. query_reads q given rest; given = query_given }
