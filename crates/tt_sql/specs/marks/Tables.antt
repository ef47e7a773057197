-- The marks of statements that make and change tables.
use Rattle.std.specs.Prelude.{List, [], ◌∷◌, ◌++◌, map}
use Rattle.tt_value.specs.declared.value.Kind.{Kind}
use Rattle.tt_value.specs.declared.value.Kind.TheVariants as kinds
use Rattle.tt_sql.specs.declared.table.Alter.{Alter}
use Rattle.tt_sql.specs.declared.table.Change.{Change}
use Rattle.tt_sql.specs.declared.table.Change.TheVariants as change
use Rattle.tt_sql.specs.declared.table.ClonedTable.{ClonedTable}
use Rattle.tt_sql.specs.declared.table.ColumnDefinition.{ColumnDefinition}
use Rattle.tt_sql.specs.declared.table.CreatedTable.{CreatedTable}
use Rattle.tt_sql.specs.declared.table.TableKind.{TableKind}
use Rattle.tt_sql.specs.declared.table.TableKind.TheVariants as tables
use Rattle.tt_sql.specs.declared.table.TableOptions.{TableOptions}
use Rattle.tt_sql.specs.grammar.Grammar.{Mark, Way}
use Rattle.tt_sql.specs.marks.Expressions.{listed_marks, maybe_marks, flag_marks, name_marks, number_marks, table_marks}
use Rattle.tt_sql.specs.marks.Queries.{source_marks}

abbrev pub kind_marks : Kind → List Mark
kind_marks kinds.Int = Way 0 ∷ []
kind_marks kinds.Date = Way 1 ∷ []
kind_marks kinds.Varchar = Way 2 ∷ []

abbrev pub definition_marks : ColumnDefinition → List Mark
definition_marks c = name_marks c.name ++ (kind_marks c.kind ++ flag_marks c.not_null)

abbrev pub options_marks : TableOptions → List Mark
options_marks o = maybe_marks name_marks o.cluster_by ++ maybe_marks number_marks o.retention

-- The grammar has no temporary tables yet: no derivation notes their mark.
abbrev pub table_kind_marks : TableKind → List Mark
table_kind_marks tables.Permanent = Way 0 ∷ []
table_kind_marks tables.Transient = Way 1 ∷ []
table_kind_marks tables.Temporary = Way 2 ∷ []

abbrev pub create_marks : CreatedTable → List Mark
create_marks c = (flag_marks c.replaces ++ (table_kind_marks c.kind ++ table_marks c.table)) ++ (listed_marks (map definition_marks c.columns) ++ options_marks c.options)

abbrev pub clone_marks : ClonedTable → List Mark
clone_marks c = (flag_marks c.replaces ++ (table_kind_marks c.kind ++ table_marks c.table)) ++ source_marks c.source

abbrev pub change_marks : Change → List Mark
change_marks (change.RenameTo t) = table_marks t ++ Way 0 ∷ []
change_marks (change.SwapWith t) = table_marks t ++ Way 1 ∷ []
change_marks (change.SetRetention n) = number_marks n ++ Way 2 ∷ []
change_marks (change.ClusterBy n) = name_marks n ++ Way 3 ∷ []
change_marks change.DropClusteringKey = Way 4 ∷ []
change_marks change.SuspendRecluster = Way 5 ∷ []
change_marks change.ResumeRecluster = Way 6 ∷ []

abbrev pub alter_marks : Alter → List Mark
alter_marks a = table_marks a.table ++ change_marks a.change
