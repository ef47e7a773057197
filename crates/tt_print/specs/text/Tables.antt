-- The words of statements that make and change tables.
use Rattle.std.specs.Prelude.{ℕ, Bool, List, [], ◌∷◌, ◌++◌, map, codes}
use Rattle.tt_value.specs.declared.value.Kind.{Kind}
use Rattle.tt_value.specs.declared.value.Kind.TheVariants.{Int, Date, Varchar}
use Rattle.tt_value.specs.declared.name.Name.{Name}
use Rattle.tt_value.specs.declared.name.Number.{Number}
use Rattle.tt_sql.specs.declared.table.TableKind.{TableKind}
use Rattle.tt_sql.specs.declared.table.TableKind.TheVariants.{Permanent, Transient, Temporary}
use Rattle.tt_sql.specs.declared.table.ColumnDefinition.{ColumnDefinition}
use Rattle.tt_sql.specs.declared.table.TableOptions.{TableOptions}
use Rattle.tt_sql.specs.declared.table.CreatedTable.{CreatedTable}
use Rattle.tt_sql.specs.declared.table.ClonedTable.{ClonedTable}
use Rattle.tt_sql.specs.declared.table.Alter.{Alter}
use Rattle.tt_sql.specs.declared.table.Change.{Change}
use Rattle.tt_sql.specs.declared.table.Change.TheVariants.{RenameTo, SwapWith, SetRetention, ClusterBy, DropClusteringKey, SuspendRecluster, ResumeRecluster}
use Rattle.tt_print.specs.text.Words.{Words, listed, word_if, words_if, name_words, table_name_words, number_words}
use Rattle.tt_print.specs.text.Queries.{source_words}

abbrev pub table_kind_words : TableKind → Words
table_kind_words Permanent = []
table_kind_words Transient = codes "TRANSIENT" ∷ []
table_kind_words Temporary = codes "TEMPORARY" ∷ []

-- CREATE, whether a table that is there is replaced, and the kind of the new one
abbrev pub create_words : Bool → TableKind → Words
create_words replaces kind = codes "CREATE" ∷ (word_if replaces (codes "OR") ++ (word_if replaces (codes "REPLACE") ++ (table_kind_words kind ++ (codes "TABLE" ∷ []))))

abbrev pub kind_word : Kind → List ℕ
kind_word Int = codes "INT"
kind_word Date = codes "DATE"
kind_word Varchar = codes "VARCHAR"

abbrev pub column_words : ColumnDefinition → Words
column_words column = name_words column.name ++ (kind_word column.kind ∷ (word_if column.not_null (codes "NOT") ++ word_if column.not_null (codes "NULL")))

-- an option, as CREATE and ALTER have it
abbrev pub cluster_words : Name → Words
cluster_words column = codes "CLUSTER" ∷ (codes "BY" ∷ (codes "(" ∷ (name_words column ++ (codes ")" ∷ []))))

abbrev pub retention_words : Number → Words
retention_words days = codes "DATA_RETENTION_TIME_IN_DAYS" ∷ codes "=" ∷ number_words days

-- the clustering key stands in front of the retention
abbrev pub options_words : TableOptions → Words
options_words options = words_if cluster_words options.cluster_by ++ words_if retention_words options.retention

abbrev pub created_words : CreatedTable → Words
created_words created =
    create_words created.replaces created.kind ++ (table_name_words created.table
    ++ (codes "(" ∷ (listed (map column_words created.columns) ++ (codes ")" ∷ options_words created.options))))

abbrev pub cloned_words : ClonedTable → Words
cloned_words cloned =
    create_words cloned.replaces cloned.kind ++ (table_name_words cloned.table
    ++ (codes "CLONE" ∷ source_words cloned.source))

abbrev pub change_words : Change → Words
change_words (RenameTo table) = codes "RENAME" ∷ codes "TO" ∷ table_name_words table
change_words (SwapWith table) = codes "SWAP" ∷ codes "WITH" ∷ table_name_words table
change_words (SetRetention days) = codes "SET" ∷ retention_words days
change_words (ClusterBy column) = cluster_words column
change_words DropClusteringKey = codes "DROP" ∷ codes "CLUSTERING" ∷ codes "KEY" ∷ []
change_words SuspendRecluster = codes "SUSPEND" ∷ codes "RECLUSTER" ∷ []
change_words ResumeRecluster = codes "RESUME" ∷ codes "RECLUSTER" ∷ []

abbrev pub alter_words : Alter → Words
alter_words alter = codes "ALTER" ∷ (codes "TABLE" ∷ (table_name_words alter.table ++ change_words alter.change))
