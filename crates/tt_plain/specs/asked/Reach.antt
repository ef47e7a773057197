-- How far the language is carried out: each part of it from one reach on.
use Rattle.std.specs.List.{list_all}
use Rattle.std.specs.Prelude.{Bool, List, [], false, is_none, is_some, length, nat_le, not, true, ℕ, ◌&&◌, ◌++◌, ◌==◌, ◌∷◌}
use Rattle.tt_sql.specs.declared.change.Dml.{Dml}
use Rattle.tt_sql.specs.declared.change.InsertSource.{InsertSource}
use Rattle.tt_sql.specs.declared.query.Query.{Query}
use Rattle.tt_sql.specs.declared.query.Selection.{Selection}
use Rattle.tt_sql.specs.declared.query.Source.{Source}
use Rattle.tt_sql.specs.declared.statement.Statement.{Statement}
use Rattle.tt_sql.specs.declared.table.Change.{Change}
use Rattle.tt_sql.specs.declared.table.CreatedTable.{CreatedTable}
use Rattle.tt_sql.specs.declared.table.TableKind.{TableKind}
use Rattle.tt_plain.specs.asked.Carried.{Carried}
use Rattle.tt_plain.specs.asked.Request.{Alters, Begins, Clones, Commits, Creates, Defines, Definition, Drops, Explains, Gauges, Measures, Reads, Request, RollsBack, Shows, Telling, Tells, Truncates, Undrops, Unreadable, Waits, Writes, request_in}
use Rattle.tt_sql.specs.declared.table.Change.TheVariants as change
use Rattle.tt_sql.specs.declared.change.Dml.TheVariants as dml
use Rattle.tt_sql.specs.declared.query.Selection.TheVariants as selection
use Rattle.tt_sql.specs.declared.change.InsertSource.TheVariants as source
use Rattle.tt_sql.specs.declared.table.TableKind.TheVariants as tablekind

-- what a reach has, those behind it have too
pub data Reach : Type 0 where
  WholeTables : Reach
  Queries : Reach
  Transactions : Reach
  TimeTravel : Reach
  Names : Reach
  Storage : Reach
  Clustering : Reach

abbrev pub reach_number : Reach → ℕ
reach_number WholeTables = 0
reach_number Queries = 1
reach_number Transactions = 2
reach_number TimeTravel = 3
reach_number Names = 4
reach_number Storage = 5
reach_number Clustering = 6

-- ---- the reaches that a statement needs

abbrev pub when : Bool → Reach → List Reach
when true reach = reach ∷ []
when false reach = []

abbrev pub source_reach : Source → List Reach
source_reach source = when (is_some source.clause) TimeTravel

abbrev pub is_star : Selection → Bool
is_star (selection.All place) = true
is_star (selection.Listed items) = false

-- a query of a whole table, in no other order than its own
abbrev pub is_whole_table : Query → Bool
is_whole_table q =
    is_star q.selection && is_none q.filter && (length q.joins == 0 && length q.group == 0)
    && (length q.order == 0 && is_none q.limit)

abbrev pub query_reach : Query → List Reach
query_reach q = when (not (is_whole_table q)) Queries ++ source_reach q.first

abbrev pub inserted_reach : InsertSource → List Reach
inserted_reach (source.Values tuples) = []
inserted_reach (source.Query q) = Queries ∷ query_reach q

abbrev pub change_reach : Dml → List Reach
change_reach (dml.Insert i) = inserted_reach i.source
change_reach (dml.Update u) = Queries ∷ []
change_reach (dml.Delete d) = Queries ∷ []
change_reach (dml.Copy c) = Transactions ∷ []

abbrev pub kind_reach : TableKind → List Reach
kind_reach tablekind.Permanent = []
kind_reach tablekind.Transient = TimeTravel ∷ []
kind_reach tablekind.Temporary = TimeTravel ∷ []

abbrev pub created_reach : CreatedTable → List Reach
created_reach c =
    when c.replaces Names ++ kind_reach c.kind
    ++ when (is_some c.options.retention) TimeTravel ++ when (is_some c.options.cluster_by) Clustering

abbrev pub altered_reach : Change → Reach
altered_reach (change.RenameTo name) = Names
altered_reach (change.SwapWith name) = Names
altered_reach (change.SetRetention days) = TimeTravel
altered_reach (change.ClusterBy name) = Clustering
altered_reach change.DropClusteringKey = Clustering
altered_reach change.SuspendRecluster = Clustering
altered_reach change.ResumeRecluster = Clustering

abbrev pub definition_reach : Definition → List Reach
definition_reach (Creates c) = created_reach c
definition_reach (Clones c) = Names ∷ []
definition_reach (Drops name) = Names ∷ []
definition_reach (Undrops name) = Names ∷ []
definition_reach (Truncates name) = Names ∷ []
definition_reach (Alters table change) = altered_reach change ∷ []

abbrev pub telling_reach : Telling → List Reach
telling_reach (Explains q) = Queries ∷ query_reach q
telling_reach (Shows history) = Names ∷ []
telling_reach Measures = Storage ∷ []
telling_reach (Gauges name) = Clustering ∷ []

abbrev pub reaches_needed : Request → List Reach
reaches_needed (Unreadable place) = []
reaches_needed (Reads q) = query_reach q
reaches_needed (Writes d) = change_reach d
reaches_needed (Defines d) = definition_reach d
reaches_needed (Tells t) = telling_reach t
reaches_needed Begins = Transactions ∷ []
reaches_needed Commits = Transactions ∷ []
reaches_needed RollsBack = Transactions ∷ []
reaches_needed (Waits w) = TimeTravel ∷ []

-- whether a statement is carried out at a reach
abbrev pub is_within_reach : Reach → Statement → Bool
is_within_reach reach s = list_all (λ needed. nat_le (reach_number needed) (reach_number reach)) (reaches_needed (request_in s))

-- what is carried out at it
abbrev pub carried_to : Reach → Carried
carried_to reach = record {
  statements = is_within_reach reach;
  purges = nat_le (reach_number Storage) (reach_number reach);
  rounds = nat_le (reach_number Clustering) (reach_number reach);
}
