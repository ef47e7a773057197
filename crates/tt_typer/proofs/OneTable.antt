-- The columns that names mean over one table, without the list of tables.
use Rattle.std.proofs.Common.{◌≡◌, ℕ, Bool, true, false, if◌then◌else◌, List, [], ◌∷◌, ◌++◌, length, map, Option, Some, None, refl, ap, sym, ◌∙◌, arith, append-nil, zero-add}
use Rattle.std.specs.List.{zip}
use Rattle.tt_sql.specs.declared.query.Query.{Query}
use Rattle.tt_sql.specs.declared.query.Join.{Join}
use Rattle.tt_sql.specs.declared.change.Insert.{Insert}
use Rattle.tt_sql.specs.declared.change.InsertSource.{InsertSource}
use Rattle.tt_sql.specs.declared.change.InsertSource.TheVariants as source
use Rattle.tt_sql.specs.declared.change.Dml.TheVariants as dml
use Rattle.tt_plain.specs.Places.{each, if_there, table_begin}
use Rattle.tt_plain.specs.Tables.{schema_at}
use Rattle.tt_typer.specs.LentSchemas.{lent}
use Rattle.std.specs.Borrow.{Bor}
use Rattle.std.proofs.lemmas.List.{length-map}
use Rattle.tt_plain.specs.UnknownColumns.{unknown_among, unknown_in_source}
use Rattle.tt_plain.specs.WrongCounts.{named_again, width, miscounted_source}
use Rattle.tt_plain.specs.TypeMismatches.{misfit_in_source}
use Rattle.tt_plain.specs.NullsInNotNull.{left_out, nulls_in_source}
use Rattle.tt_typer.specs.Finds.{finds, select_found, dml_found}
use Rattle.tt_typer.specs.declared.found.Found.{Found}
use Rattle.tt_value.specs.declared.value.Schema.{Schema}
use Rattle.tt_value.specs.declared.name.TableName.{TableName}
use Rattle.tt_value.specs.declared.name.ColumnName.{ColumnName}
use Rattle.tt_value.specs.trees.Scope.{column_place}
use Rattle.tt_sql.specs.meaning.Scopes.{names_table, place_after, only_place, target_scope, scope_of, query_scope, query_tables}

only_after : (p : Option ℕ) → only_place (place_after 0 p ++ []) ≡ p
only_after None = refl
only_after (Some p) = ap Some (zero-add p)

only_if_named : (named : Bool) (p : Option ℕ) → only_place ((if named then place_after 0 p else []) ++ []) ≡ (if named then p else None)
only_if_named true p = only_after p
only_if_named false p = refl

pub place_in_one : (table : TableName) (schema : Schema) (c : ColumnName) → (target_scope table schema).place_of c ≡ (if names_table c.table table then column_place schema c.name.text else None)
place_in_one table schema c = only_if_named (names_table c.table table) (column_place schema c.name.text)

pub columns_in_one : (table : TableName) (schema : Schema) → (target_scope table schema).columns ≡ schema.columns
columns_in_one table schema = append-nil schema.columns

-- a query over one table
pub one_scope : (q : Query) (schemas : List Schema) → q.joins ≡ [] → length schemas ≡ length (query_tables q) → query_scope schemas q ≡ target_scope q.first.table (schema_at schemas 0)
one_scope q [] none long = absurd (omega (arith, long))
one_scope q (s ∷ more) none long = ap (λ (joins : List Join). scope_of (zip (q.first.table ∷ map (λ (join : Join). join.source.table) joins) (s ∷ more))) none

abbrev with_source : Schema → List Schema → Insert → InsertSource → Found
with_source target sources i given = finds
    (if_there (each (unknown_among target)) i.columns ++ unknown_in_source sources given)
    (if_there (named_again target) i.columns ++ miscounted_source sources (width target i.columns) given)
    (misfit_in_source target i.columns sources given)
    (if_there (left_out target (table_begin i.table)) i.columns ++ nulls_in_source target i.columns given)

pub select_is : (schemas : List Schema) (i : Insert) (q : Query) → i.source ≡ source.Query q → q.joins ≡ [] → length schemas ≡ length (i.table ∷ query_tables q) → select_found (schema_at schemas 0) (target_scope q.first.table (schema_at schemas 1)) i.columns (table_begin i.table) q ≡ dml_found schemas (dml.Insert i)
select_is [] i q is none long = absurd (omega (arith, long))
select_is (s ∷ []) i q is none long = absurd (omega (arith, long))
select_is (s ∷ r ∷ more) i q is none long =
    sym (ap (with_source s (r ∷ more) i) is ∙ ap (λ scope. select_found s scope i.columns (table_begin i.table) q) (one_scope q (r ∷ more) none (omega (arith, long))))

-- ---- schemas that are lent

pub lent_length : (schemas : List (Bor Schema)) → length (lent schemas) ≡ length schemas
lent_length schemas = length-map schemas (λ (schema : Bor Schema). schema.now)
