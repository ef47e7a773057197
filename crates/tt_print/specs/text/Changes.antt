-- The words of statements that change the rows of a table.
use Rattle.std.specs.Prelude.{List, [], ◌∷◌, ◌++◌, map, codes}
use Rattle.tt_value.specs.declared.name.Name.{Name}
use Rattle.tt_sql.specs.declared.change.Dml.{Dml}
use Rattle.tt_sql.specs.declared.change.Dml.TheVariants.{Insert as InsertRows, Update as UpdateRows, Delete as DeleteRows, Copy as CopyRows}
use Rattle.tt_sql.specs.declared.change.Insert.{Insert}
use Rattle.tt_sql.specs.declared.change.InsertSource.{InsertSource}
use Rattle.tt_sql.specs.declared.change.InsertSource.TheVariants.{Values, Query}
use Rattle.tt_sql.specs.declared.change.Tuple.{Tuple}
use Rattle.tt_sql.specs.declared.change.Update.{Update}
use Rattle.tt_sql.specs.declared.change.Set.{Set}
use Rattle.tt_sql.specs.declared.change.Delete.{Delete}
use Rattle.tt_sql.specs.declared.change.Copy.{Copy}
use Rattle.tt_print.specs.text.Words.{Words, listed, words_if, name_words, table_name_words, quoted_words, literal_words}
use Rattle.tt_print.specs.text.Expressions.{expr_words}
use Rattle.tt_print.specs.text.Predicates.{filter_words}
use Rattle.tt_print.specs.text.Queries.{query_words}

abbrev pub column_list_words : List Name → Words
column_list_words columns = codes "(" ∷ (listed (map name_words columns) ++ (codes ")" ∷ []))

abbrev pub tuple_words : Tuple → Words
tuple_words tuple = codes "(" ∷ (listed (map literal_words tuple.values) ++ (codes ")" ∷ []))

abbrev pub values_words : List Tuple → Words
values_words tuples = codes "VALUES" ∷ listed (map tuple_words tuples)

abbrev pub insert_source_words : InsertSource → Words
insert_source_words (Values tuples) = values_words tuples
insert_source_words (Query query) = query_words query

abbrev pub insert_words : Insert → Words
insert_words insert =
    codes "INSERT" ∷ (codes "INTO" ∷ (table_name_words insert.table
    ++ (words_if column_list_words insert.columns ++ insert_source_words insert.source)))

abbrev pub set_words : Set → Words
set_words set = name_words set.column ++ (codes "=" ∷ expr_words set.value)

abbrev pub update_words : Update → Words
update_words update =
    codes "UPDATE" ∷ (table_name_words update.table ++ (codes "SET" ∷ (listed (map set_words update.sets)
    ++ words_if filter_words update.filter)))

abbrev pub delete_words : Delete → Words
delete_words delete = codes "DELETE" ∷ (codes "FROM" ∷ (table_name_words delete.table ++ words_if filter_words delete.filter))

abbrev pub copy_words : Copy → Words
copy_words copy = codes "COPY" ∷ (codes "INTO" ∷ (table_name_words copy.table ++ (codes "FROM" ∷ quoted_words copy.file)))

abbrev pub dml_words : Dml → Words
dml_words (InsertRows insert) = insert_words insert
dml_words (UpdateRows update) = update_words update
dml_words (DeleteRows delete) = delete_words delete
dml_words (CopyRows copy) = copy_words copy
