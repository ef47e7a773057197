-- The leftmost place of each refusal in a statement and in its parts.
use Rattle.std.specs.Prelude.{ℕ, List, [], ◌++◌, Option, None}
use Rattle.tt_value.specs.declared.value.Schema.{Schema}
use Rattle.tt_value.specs.declared.name.Name.{Name}
use Rattle.tt_value.specs.trees.Scope.{Scope}
use Rattle.tt_sql.specs.meaning.Scopes.{query_scope, target_scope}
use Rattle.tt_sql.specs.declared.query.Query.{Query}
use Rattle.tt_sql.specs.declared.change.Dml.{Dml}
use Rattle.tt_sql.specs.declared.change.Insert.{Insert}
use Rattle.tt_sql.specs.declared.change.Tuple.{Tuple}
use Rattle.tt_sql.specs.declared.change.Update.{Update}
use Rattle.tt_sql.specs.declared.change.Delete.{Delete}
use Rattle.tt_sql.specs.declared.table.CreatedTable.{CreatedTable}
use Rattle.tt_sql.specs.declared.table.Alter.{Alter}
use Rattle.tt_sql.specs.declared.statement.Statement.{Statement}
use Rattle.tt_history.specs.declared.reply.Refusal.{Refusal}
use Rattle.tt_history.specs.declared.reply.Refusal.TheVariants.{UnknownColumn, WrongCount, TypeMismatch, NullInNotNull}
use Rattle.tt_plain.specs.TypingRefusal.{or_else}
use Rattle.tt_plain.specs.Places.{each, if_there, leftmost, table_begin}
use Rattle.tt_plain.specs.UnknownColumns.{item_count, unknown_among, unknown_in_query, unknown_in_update, unknown_in_predicate, unknown_in_create, unknown_in_change, unknown_in_dml, unknown_columns}
use Rattle.tt_plain.specs.WrongCounts.{named_again, width, miscounted_tuple, unless_equal, set_names, defined_names, miscounted_columns, miscounted_dml, wrong_counts}
use Rattle.tt_plain.specs.TypeMismatches.{misfit_in_tuple, misfit_in_query, misfit_into, misfit_in_update, misfit_in_predicate, misfit_in_dml, type_mismatches}
use Rattle.tt_plain.specs.NullsInNotNull.{left_out, nulls_in_tuple, nulls_in_selection, null_set, nulls_in_dml, nulls_in_not_null}
use Rattle.tt_typer.specs.declared.found.Found.{Found}

abbrev pub finds : List ℕ → List ℕ → List ℕ → List ℕ → Found
finds unknown counts mismatches nulls = record { unknown = leftmost unknown; count = leftmost counts; mismatch = leftmost mismatches; null = leftmost nulls }

abbrev pub query_found : Scope → Query → Found
query_found scope q = finds (unknown_in_query scope q) [] (misfit_in_query scope q) []

abbrev pub read_found : List Schema → Query → Found
read_found schemas q = query_found (query_scope schemas q) q

abbrev pub values_found : Schema → Option (List Name) → ℕ → List Tuple → Found
values_found target names place tuples = finds
    (if_there (each (unknown_among target)) names)
    (if_there (named_again target) names ++ each (miscounted_tuple (width target names)) tuples)
    (each (misfit_in_tuple target names) tuples)
    (if_there (left_out target place) names ++ each (nulls_in_tuple target names) tuples)

abbrev pub select_found : Schema → Scope → Option (List Name) → ℕ → Query → Found
select_found target read names place q = finds
    (if_there (each (unknown_among target)) names ++ unknown_in_query read q)
    (if_there (named_again target) names ++ unless_equal q.place (item_count read q.selection) (width target names))
    (misfit_in_query read q ++ misfit_into target names read q.selection)
    (if_there (left_out target place) names ++ nulls_in_selection target names q.selection)

-- of an INSERT of written rows, and of one of a query's rows
abbrev pub insert_found : Schema → Insert → List Tuple → Found
insert_found target i tuples = values_found target i.columns (table_begin i.table) tuples

abbrev pub insert_select_found : Schema → Scope → Insert → Query → Found
insert_select_found target read i q = select_found target read i.columns (table_begin i.table) q

abbrev pub update_found : Schema → Update → Found
update_found schema u = finds (unknown_in_update schema u) (named_again schema (set_names u.sets)) (misfit_in_update schema u) (each (null_set schema) u.sets)

abbrev pub delete_found : Schema → Delete → Found
delete_found schema d = finds (if_there (unknown_in_predicate (target_scope d.table schema)) d.filter) [] (if_there (misfit_in_predicate (target_scope d.table schema)) d.filter) []

abbrev pub create_found : CreatedTable → Found
create_found c = finds (unknown_in_create c) (miscounted_columns (defined_names c.columns)) [] []

abbrev pub alter_found : Schema → Alter → Found
alter_found schema a = finds (unknown_in_change schema a.change) [] [] []

abbrev pub dml_found : List Schema → Dml → Found
dml_found schemas d = finds (unknown_in_dml schemas d) (miscounted_dml schemas d) (misfit_in_dml schemas d) (nulls_in_dml schemas d)

abbrev pub statement_found : List Schema → Statement → Found
statement_found schemas s = finds (unknown_columns schemas s) (wrong_counts schemas s) (type_mismatches schemas s) (nulls_in_not_null schemas s)

-- the refusal with the least number of those that are found
abbrev pub refusal_found : Found → Option Refusal
refusal_found found =
    or_else UnknownColumn found.unknown
    (or_else WrongCount found.count
    (or_else TypeMismatch found.mismatch
    (or_else NullInNotNull found.null None)))
