-- How far the language is carried out by now: tables are made, written rows are put into them, and whole tables are read.
use Rattle.std.specs.Prelude.{Bool, false, is_none, not, true, ◌&&◌}
use Rattle.tt_sql.specs.declared.change.Dml.{Dml}
use Rattle.tt_sql.specs.declared.change.InsertSource.{InsertSource}
use Rattle.tt_sql.specs.declared.query.Query.{Query}
use Rattle.tt_sql.specs.declared.statement.Statement.{Statement}
use Rattle.tt_sql.specs.declared.table.CreatedTable.{CreatedTable}
use Rattle.tt_sql.specs.declared.table.TableKind.{TableKind}
use Rattle.tt_plain.specs.asked.Carried.{Carried}
use Rattle.tt_plain.specs.asked.Reach.{Reach, WholeTables, carried_to, is_whole_table, is_within_reach}
use Rattle.tt_sql.specs.declared.change.Dml.TheVariants as dml
use Rattle.tt_sql.specs.declared.change.InsertSource.TheVariants as source
use Rattle.tt_sql.specs.declared.table.TableKind.TheVariants as kinds

abbrev pub built_reach : Reach
built_reach = WholeTables

-- what the store's definitions take as given
unfoldable pub built : Carried
built = carried_to built_reach

-- whether a statement is carried out
abbrev pub is_built : Statement → Bool
is_built s = is_within_reach built_reach s

-- ---- which statements these are

-- without TRANSIENT
abbrev pub is_permanent : TableKind → Bool
is_permanent kinds.Permanent = true
is_permanent kinds.Transient = false
is_permanent kinds.Temporary = false

-- without OR REPLACE, TRANSIENT and options
abbrev pub is_plain_create : CreatedTable → Bool
is_plain_create c = not c.replaces && is_permanent c.kind && is_none c.options.retention && is_none c.options.cluster_by

abbrev pub has_values : InsertSource → Bool
has_values (source.Values tuples) = true
has_values (source.Query q) = false

abbrev pub is_plain_insert : Dml → Bool
is_plain_insert (dml.Insert i) = has_values i.source
is_plain_insert (dml.Update u) = false
is_plain_insert (dml.Delete d) = false
is_plain_insert (dml.Copy c) = false

abbrev pub is_plain_query : Query → Bool
is_plain_query q = is_whole_table q && is_none q.first.clause
