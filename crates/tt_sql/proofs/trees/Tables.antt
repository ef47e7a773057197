-- The tree of the derivation of a statement that makes or changes a table.
use Rattle.std.proofs.Common.{Bool, true, false, List, [], ◌∷◌, ◌++◌, map, Some, None, refl, ap, ◌∙◌, append_assoc}
use Rattle.tt_value.specs.declared.name.TableName.{TableName}
use Rattle.tt_value.specs.declared.value.Kind.TheVariants as kinds
use Rattle.tt_value.specs.calendar.Reading.{digits_value}
use Rattle.tt_sql.specs.declared.table.Alter.{Alter}
use Rattle.tt_sql.specs.declared.table.Change.TheVariants as changes
use Rattle.tt_sql.specs.declared.table.ClonedTable.{ClonedTable}
use Rattle.tt_sql.specs.declared.table.ColumnDefinition.{ColumnDefinition}
use Rattle.tt_sql.specs.declared.table.CreatedTable.{CreatedTable}
use Rattle.tt_sql.specs.declared.table.TableKind.{TableKind}
use Rattle.tt_sql.specs.declared.table.TableKind.TheVariants as tables
use Rattle.tt_sql.specs.grammar.Grammar.{Mark, Way, nowhere}
use Rattle.tt_sql.specs.grammar.TokenKinds.{OR, REPLACE, TRANSIENT, NOT, NULL, DATA_RETENTION_TIME_IN_DAYS, EQUAL}
use Rattle.tt_sql.specs.grammar.Combinators.{◌▸◌, one, number, maybe}
use Rattle.tt_sql.specs.grammar.Written.{kind, column, cluster_by, retention, options, create_front, create, clone, clause, change, alter}
use Rattle.tt_sql.specs.marks.Expressions.{listed_marks, maybe_marks, flag_marks, name_marks, number_marks, table_marks}
use Rattle.tt_sql.specs.marks.Queries.{clause_marks}
use Rattle.tt_sql.specs.marks.Tables.{kind_marks, definition_marks, options_marks, table_kind_marks, create_marks, clone_marks, change_marks, alter_marks}
use Rattle.tt_sql.specs.trees.Lists.{IsListed, WhenThere}
use Rattle.tt_sql.specs.trees.Expressions.{IsWrittenName, IsWrittenTable, IsWrittenNumber}
use Rattle.tt_sql.specs.trees.Queries.{IsWrittenClause, IsWrittenSource}
use Rattle.tt_sql.specs.trees.Statements.{IsWrittenDefinition, IsWrittenKind, IsWrittenOptions, IsWrittenChange}
use Rattle.tt_sql.proofs.grammar.LexemeTexts.{has_name, has_number}
use Rattle.tt_sql.proofs.grammar.Derivations.{word, noted, pair, first, second}
use Rattle.tt_sql.proofs.trees.Leaves.{Tree, HasTrees, IsAny, joined_marks, no_end, name_trees, table_trees, number_trees, behind_word, listed_trees, maybe_trees}
use Rattle.tt_sql.proofs.trees.Queries.{clause_trees}

-- ---- columns

kind_trees : HasTrees kind kind_marks IsAny
kind_trees done m after (first (pair (word e is) noted)) = record { tree = kinds.Int; given = tt; same = refl }
kind_trees done m after (second (first (pair (word e is) noted))) = record { tree = kinds.Date; given = tt; same = refl }
kind_trees done m after (second (second (pair (word e is) noted))) = record { tree = kinds.Varchar; given = tt; same = refl }

not_null_trees : HasTrees (maybe (one NOT ▸ one NULL)) flag_marks IsAny
not_null_trees done m after (first (pair (pair (word e is) (word f was)) noted)) = record { tree = true; given = tt; same = refl }
not_null_trees done m after (second noted) = record { tree = false; given = tt; same = refl }

definition_from : (i j k : List Mark) → Tree name_marks IsWrittenName i → Tree kind_marks IsAny j → Tree flag_marks IsAny k → Tree definition_marks IsWrittenDefinition (i ++ (j ++ k))
definition_from i j k a b c = record { tree = record { name = a.tree; kind = b.tree; not_null = c.tree }; given = a.given; same = joined_marks a.same (joined_marks b.same c.same) }

column_trees : HasTrees column definition_marks IsWrittenDefinition
column_trees done m after (pair {between = b} {m = i} p (pair {between = c} {m = j} {n = k} q r)) = definition_from i j k (name_trees done i b p) (kind_trees b j c q) (not_null_trees c k after r)

-- ---- options

cluster_trees : HasTrees cluster_by name_marks IsWrittenName
cluster_trees done m after (pair (word e is) (pair (word f was) (pair {between = b} (word g had) (pair {between = c} {m = i} p (word h has))))) = no_end i (name_trees b i c p)

retention_trees : HasTrees retention number_marks IsWrittenNumber
retention_trees = behind_word DATA_RETENTION_TIME_IN_DAYS nowhere (one EQUAL ▸ number) number_marks IsWrittenNumber (behind_word EQUAL nowhere number number_marks IsWrittenNumber number_trees)

clustered : (i j : List Mark) → Tree name_marks IsWrittenName i → Tree (maybe_marks number_marks) (WhenThere IsWrittenNumber) j → Tree options_marks IsWrittenOptions (i ++ Way 1 ∷ j)
clustered i j a b = record { tree = record { cluster_by = Some a.tree; retention = b.tree }; given = (a.given, b.given); same = append_assoc (name_marks a.tree) (Way 1 ∷ []) (maybe_marks number_marks b.tree) ∙ joined_marks a.same (ap (λ (x : List Mark). Way 1 ∷ x) b.same) }

options_trees : HasTrees options options_marks IsWrittenOptions
options_trees done m after (first (pair {between = b} {m = i} p (pair {between = c} {n = j} noted q))) = clustered i j (cluster_trees done i b p) (maybe_trees retention number_marks IsWrittenNumber retention_trees c j after q)
options_trees done m after (second (first (pair (word e is) (pair (word f was) (pair (word {t = n} g had) (first (pair (word h has) (pair (word k of_k) (pair (word l of_l) (pair (word {t = t} o of_o) (pair (word r of_r) noted))))))))))) = record { tree = record { cluster_by = Some (record { text = t.text; place = t.place }); retention = Some (record { value = digits_value n.text; place = n.place }) }; given = (has_name t of_o o, has_number n had g); same = refl }
options_trees done m after (second (first (pair (word e is) (pair (word f was) (pair (word {t = n} g had) (second noted)))))) = record { tree = record { cluster_by = None; retention = Some (record { value = digits_value n.text; place = n.place }) }; given = (tt, has_number n had g); same = refl }
options_trees done m after (second (second (pair noted noted))) = record { tree = record { cluster_by = None; retention = None }; given = (tt, tt); same = refl }

-- ---- tables

-- what CREATE and a table's name say
record Made : Type 0 where
  replaces : Bool
  kind : TableKind
  table : TableName

abbrev made_marks : Made → List Mark
made_marks f = flag_marks f.replaces ++ (table_kind_marks f.kind ++ table_marks f.table)

abbrev IsWrittenMade : Made → Type 0
IsWrittenMade f = IsWrittenKind f.kind × IsWrittenTable f.table

replaces_trees : HasTrees (maybe (one OR ▸ one REPLACE)) flag_marks IsAny
replaces_trees done m after (first (pair (pair (word e is) (word f was)) noted)) = record { tree = true; given = tt; same = refl }
replaces_trees done m after (second noted) = record { tree = false; given = tt; same = refl }

table_kind_trees : HasTrees (maybe (one TRANSIENT)) table_kind_marks IsWrittenKind
table_kind_trees done m after (first (pair (word e is) noted)) = record { tree = tables.Transient; given = tt; same = refl }
table_kind_trees done m after (second noted) = record { tree = tables.Permanent; given = tt; same = refl }

made_from : (i j k : List Mark) → Tree flag_marks IsAny i → Tree table_kind_marks IsWrittenKind j → Tree table_marks IsWrittenTable k → Tree made_marks IsWrittenMade (i ++ (j ++ k))
made_from i j k a b c = record { tree = record { replaces = a.tree; kind = b.tree; table = c.tree }; given = (b.given, c.given); same = joined_marks a.same (joined_marks b.same c.same) }

made_trees : HasTrees create_front made_marks IsWrittenMade
made_trees done m after (pair {between = b} (word e is) (pair {between = c} {m = i} p (pair {between = d} {m = j} q (pair {between = g} {n = k} (word f was) r)))) = made_from i j k (replaces_trees b i c p) (table_kind_trees c j d q) (table_trees g k after r)

abbrev pub IsWrittenCreate : CreatedTable → Type 0
IsWrittenCreate c = IsWrittenKind c.kind × IsWrittenTable c.table × IsListed IsWrittenDefinition c.columns × IsWrittenOptions c.options

abbrev columns_marks : List ColumnDefinition → List Mark
columns_marks columns = listed_marks (map definition_marks columns)

create_from : (i j k : List Mark) → Tree made_marks IsWrittenMade i → Tree columns_marks (IsListed IsWrittenDefinition) j → Tree options_marks IsWrittenOptions k → Tree create_marks IsWrittenCreate (i ++ (j ++ k))
create_from i j k f b c = record { tree = record { replaces = f.tree.replaces; kind = f.tree.kind; table = f.tree.table; columns = b.tree; options = c.tree }; given = (f.given.0, f.given.1, b.given, c.given); same = joined_marks f.same (joined_marks b.same c.same) }

pub create_trees : HasTrees create create_marks IsWrittenCreate
create_trees done m after (pair {between = b} {m = i} p (pair {between = c} {n = k} (pair {between = d} (word e is) (pair {between = g} {m = j} q (word f was))) r)) = create_from i (j ++ []) k (made_trees done i b p) (no_end j (listed_trees column definition_marks IsWrittenDefinition column_trees d j g q)) (options_trees c k after r)

abbrev pub IsWrittenClone : ClonedTable → Type 0
IsWrittenClone c = IsWrittenKind c.kind × IsWrittenTable c.table × IsWrittenSource c.source

clone_from : (i j k : List Mark) → Tree made_marks IsWrittenMade i → Tree table_marks IsWrittenTable j → Tree (maybe_marks clause_marks) (WhenThere IsWrittenClause) k → Tree clone_marks IsWrittenClone (i ++ (j ++ k))
clone_from i j k f b c = record { tree = record { replaces = f.tree.replaces; kind = f.tree.kind; table = f.tree.table; source = record { table = b.tree; clause = c.tree } }; given = (f.given.0, f.given.1, (b.given, c.given)); same = joined_marks f.same (joined_marks b.same c.same) }

pub clone_trees : HasTrees clone clone_marks IsWrittenClone
clone_trees done m after (pair {between = b} {m = i} p (pair {between = c} (word e is) (pair {between = d} {m = j} {n = k} q r))) = clone_from i j k (made_trees done i b p) (table_trees c j d q) (maybe_trees clause clause_marks IsWrittenClause clause_trees d k after r)

-- ---- changes

rename_to : (m : List Mark) → Tree table_marks IsWrittenTable m → Tree change_marks IsWrittenChange (m ++ Way 0 ∷ [])
rename_to m t = record { tree = changes.RenameTo t.tree; given = t.given; same = ap (λ (x : List Mark). x ++ Way 0 ∷ []) t.same }

swap_with : (m : List Mark) → Tree table_marks IsWrittenTable m → Tree change_marks IsWrittenChange (m ++ Way 1 ∷ [])
swap_with m t = record { tree = changes.SwapWith t.tree; given = t.given; same = ap (λ (x : List Mark). x ++ Way 1 ∷ []) t.same }

set_retention : (m : List Mark) → Tree number_marks IsWrittenNumber m → Tree change_marks IsWrittenChange (m ++ Way 2 ∷ [])
set_retention m n = record { tree = changes.SetRetention n.tree; given = n.given; same = ap (λ (x : List Mark). x ++ Way 2 ∷ []) n.same }

set_cluster : (m : List Mark) → Tree name_marks IsWrittenName m → Tree change_marks IsWrittenChange (m ++ Way 3 ∷ [])
set_cluster m n = record { tree = changes.ClusterBy n.tree; given = n.given; same = ap (λ (x : List Mark). x ++ Way 3 ∷ []) n.same }

change_trees : HasTrees change change_marks IsWrittenChange
change_trees done m after (first (pair (word e is) (pair {between = b} (word f was) (pair {between = c} {m = i} p noted)))) = rename_to i (table_trees b i c p)
change_trees done m after (second (first (pair (word e is) (pair {between = b} (word f was) (pair {between = c} {m = i} p noted))))) = swap_with i (table_trees b i c p)
change_trees done m after (second (second (first (pair {between = b} (word e is) (pair {between = c} {m = i} p noted))))) = set_retention i (retention_trees b i c p)
change_trees done m after (second (second (second (first (pair {between = c} {m = i} p noted))))) = set_cluster i (cluster_trees done i c p)
change_trees done m after (second (second (second (second (first (pair (word e is) (pair (word f was) (pair (word g had) noted)))))))) = record { tree = changes.DropClusteringKey; given = tt; same = refl }
change_trees done m after (second (second (second (second (second (first (pair (word e is) (pair (word f was) noted)))))))) = record { tree = changes.SuspendRecluster; given = tt; same = refl }
change_trees done m after (second (second (second (second (second (second (pair (word e is) (pair (word f was) noted)))))))) = record { tree = changes.ResumeRecluster; given = tt; same = refl }

abbrev pub IsWrittenAlter : Alter → Type 0
IsWrittenAlter a = IsWrittenTable a.table × IsWrittenChange a.change

alter_from : (i j : List Mark) → Tree table_marks IsWrittenTable i → Tree change_marks IsWrittenChange j → Tree alter_marks IsWrittenAlter (i ++ j)
alter_from i j a b = record { tree = record { table = a.tree; change = b.tree }; given = (a.given, b.given); same = joined_marks a.same b.same }

pub alter_trees : HasTrees alter alter_marks IsWrittenAlter
alter_trees done m after (pair (word e is) (pair {between = b} (word f was) (pair {between = c} {m = i} {n = j} p q))) = alter_from i j (table_trees b i c p) (change_trees c j after q)
