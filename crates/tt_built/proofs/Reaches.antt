-- What is within reach, and what such a statement is.
use Rattle.std.proofs.Common.{Bool, None, Option, Some, false, refl, true, ◌≡◌}
use Rattle.std.specs.Prelude.{is_none, is_some, not, ◌&&◌, ◌++◌}
use Rattle.std.specs.List.{list_all}
use Rattle.std.specs.Prelude.{nat_le}
use Rattle.tt_sql.specs.declared.change.Dml.{Dml}
use Rattle.tt_sql.specs.declared.change.InsertSource.{InsertSource}
use Rattle.tt_sql.specs.declared.query.Query.{Query}
use Rattle.tt_sql.specs.declared.statement.Statement.{Statement}
use Rattle.tt_sql.specs.declared.table.CreatedTable.{CreatedTable}
use Rattle.tt_sql.specs.declared.table.TableKind.{TableKind}
use Rattle.tt_plain.specs.asked.Reach.{Clustering, Names, Queries, Reach, TimeTravel, inserted_reach, is_whole_table, kind_reach, reach_number, when}
use Rattle.tt_sql.specs.declared.change.Dml.TheVariants as dml
use Rattle.tt_sql.specs.declared.change.InsertSource.TheVariants as source
use Rattle.tt_sql.specs.declared.statement.Statement.TheVariants as statement
use Rattle.tt_sql.specs.declared.table.TableKind.TheVariants as kinds
use Rattle.tt_built.specs.Built.{built, has_values, is_built, is_permanent, is_plain_create, is_plain_insert, is_plain_query}

abbrev within : Reach → Bool
within needed = nat_le (reach_number needed) 0

query_within : (whole : Bool) {A : Type 0} (clause : Option A) → list_all within (when (not whole) Queries ++ when (is_some clause) TimeTravel) ≡ (whole && is_none clause)
query_within true None = refl
query_within true (Some c) = refl
query_within false None = refl
query_within false (Some c) = refl

pub query_built : (q : Query) → is_built (statement.Query q) ≡ is_plain_query q
query_built q = query_within (is_whole_table q) q.first.clause

create_within : (replaces : Bool) (kind : TableKind) {A B : Type 0} (retention : Option A) (key : Option B)
    → list_all within (when replaces Names ++ kind_reach kind ++ when (is_some retention) TimeTravel ++ when (is_some key) Clustering)
    ≡ (not replaces && is_permanent kind && is_none retention && is_none key)
create_within true k r c = refl
create_within false kinds.Permanent None None = refl
create_within false kinds.Permanent None (Some c) = refl
create_within false kinds.Permanent (Some r) c = refl
create_within false kinds.Transient r c = refl
create_within false kinds.Temporary r c = refl

pub create_built : (c : CreatedTable) → is_built (statement.Create c) ≡ is_plain_create c
create_built c = create_within c.replaces c.kind c.options.retention c.options.cluster_by

pub insert_built : (d : Dml) → is_built (statement.Dml d) ≡ is_plain_insert d
insert_built (dml.Insert i) = by i.source
  where
    by : (s : InsertSource) → list_all within (inserted_reach s) ≡ has_values s
    by (source.Values tuples) = refl
    by (source.Query q) = refl
insert_built (dml.Update u) = refl
insert_built (dml.Delete d) = refl
insert_built (dml.Copy c) = refl

pub statements_built : (s : Statement) → built.statements s ≡ is_built s
unfolding built
statements_built s = refl
