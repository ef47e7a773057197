-- The marks of statements that change rows.
use Rattle.std.specs.Prelude.{List, [], ◌∷◌, ◌++◌, map}
use Rattle.tt_value.specs.declared.name.Name.{Name}
use Rattle.tt_sql.specs.declared.change.Dml.{Dml}
use Rattle.tt_sql.specs.declared.change.Dml.TheVariants as dml
use Rattle.tt_sql.specs.declared.change.Copy.{Copy}
use Rattle.tt_sql.specs.declared.change.Delete.{Delete}
use Rattle.tt_sql.specs.declared.change.Insert.{Insert}
use Rattle.tt_sql.specs.declared.change.InsertSource.{InsertSource}
use Rattle.tt_sql.specs.declared.change.InsertSource.TheVariants as source
use Rattle.tt_sql.specs.declared.change.Set.{Set}
use Rattle.tt_sql.specs.declared.change.Tuple.{Tuple}
use Rattle.tt_sql.specs.declared.change.Update.{Update}
use Rattle.tt_sql.specs.grammar.Grammar.{Mark, Way, At}
use Rattle.tt_sql.specs.marks.Expressions.{listed_marks, maybe_marks, name_marks, quoted_marks, literal_marks, table_marks, expr_marks, predicate_marks}
use Rattle.tt_sql.specs.marks.Queries.{query_marks}

abbrev pub names_marks : List Name → List Mark
names_marks names = listed_marks (map name_marks names)

abbrev pub tuple_marks : Tuple → List Mark
tuple_marks t = At t.place ∷ listed_marks (map literal_marks t.values)

abbrev pub insert_source_marks : InsertSource → List Mark
insert_source_marks (source.Values tuples) = listed_marks (map tuple_marks tuples) ++ Way 0 ∷ []
insert_source_marks (source.Query q) = query_marks q ++ Way 1 ∷ []

abbrev pub insert_marks : Insert → List Mark
insert_marks i = table_marks i.table ++ (maybe_marks names_marks i.columns ++ insert_source_marks i.source)

abbrev pub set_marks : Set → List Mark
set_marks s = name_marks s.column ++ expr_marks s.value

abbrev pub update_marks : Update → List Mark
update_marks u = table_marks u.table ++ (listed_marks (map set_marks u.sets) ++ maybe_marks predicate_marks u.filter)

abbrev pub delete_marks : Delete → List Mark
delete_marks d = table_marks d.table ++ maybe_marks predicate_marks d.filter

abbrev pub copy_marks : Copy → List Mark
copy_marks c = table_marks c.table ++ quoted_marks c.file

abbrev pub dml_marks : Dml → List Mark
dml_marks (dml.Insert i) = insert_marks i ++ Way 1 ∷ []
dml_marks (dml.Update u) = update_marks u ++ Way 2 ∷ []
dml_marks (dml.Delete d) = delete_marks d ++ Way 3 ∷ []
dml_marks (dml.Copy c) = copy_marks c ++ Way 4 ∷ []
