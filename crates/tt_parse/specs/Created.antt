-- What stands before and behind the name of a new table, and how a table is kept up.
use Rattle.std.specs.Prelude.{Bool, List, [], ◌∷◌, ◌++◌, map}
use Rattle.tt_value.specs.declared.name.TableName.{TableName}
use Rattle.tt_sql.specs.declared.query.Source.{Source}
use Rattle.tt_sql.specs.declared.table.ColumnDefinition.{ColumnDefinition}
use Rattle.tt_sql.specs.declared.table.TableKind.{TableKind}
use Rattle.tt_sql.specs.declared.table.TableOptions.{TableOptions}
use Rattle.tt_sql.specs.grammar.Grammar.{Mark, Way, Gram, Tok, Note}
use Rattle.tt_sql.specs.marks.Expressions.{flag_marks, listed_marks, maybe_marks, table_marks}
use Rattle.tt_sql.specs.grammar.Combinators.{◌▸◌, ◌∣◌, brackets, listed, maybe, name, one, way}
use Rattle.tt_sql.specs.marks.Queries.{clause_marks}
use Rattle.tt_sql.specs.marks.Tables.{definition_marks, options_marks, table_kind_marks}
use Rattle.tt_sql.specs.grammar.TokenKinds.{BY, CLONE, CLOSE, CLUSTER, CLUSTERING, DROP, EQUAL, KEY, NAME, OPEN, RECLUSTER, RESUME, SHORT_NUMBER, SUSPEND, is_name, is_number}
use Rattle.tt_sql.specs.grammar.Written.{clause, column, name_and_number, only_number, options}

-- whether it replaces another table, its kind and its name
abbrev pub create_front_marks : Bool × TableKind × TableName → List Mark
create_front_marks x = flag_marks x.0 ++ (table_kind_marks x.1 ++ table_marks x.2)

-- ---- columns and options

abbrev pub columns : Gram
columns = brackets (listed column) ▸ options ▸ way 5

abbrev pub columns_marks : List ColumnDefinition × TableOptions → List Mark
columns_marks x = listed_marks (map definition_marks x.0) ++ (options_marks x.1 ++ Way 5 ∷ [])

-- behind the word DATA_RETENTION_TIME_IN_DAYS
abbrev pub retained : Gram
retained =
    one EQUAL ▸ Tok SHORT_NUMBER is_number
    ▸ (one CLUSTER ▸ one BY ▸ one OPEN ▸ Tok NAME is_name ▸ one CLOSE ▸ Note name_and_number ∣ Note only_number)

-- ---- a clone's origin

abbrev pub origin : Gram
origin = one CLONE ▸ name ▸ maybe clause ▸ way 6

abbrev pub origin_marks : Source → List Mark
origin_marks s = table_marks s.table ++ (maybe_marks clause_marks s.clause ++ Way 6 ∷ [])

-- ---- the changes that have no name and no number

abbrev pub upkeep : Gram
upkeep = one DROP ▸ one CLUSTERING ▸ one KEY ▸ way 4 ∣ one SUSPEND ▸ one RECLUSTER ▸ way 5 ∣ one RESUME ▸ one RECLUSTER ▸ way 6
