-- The statement that marks spell. The last mark says which statement it is.
use Rattle.std.specs.Prelude.{ℕ, zero, suc, Bool, ◌==◌, if◌then◌else◌, List, [], ◌∷◌, Option, Some, None, pos}
use Rattle.tt_value.specs.declared.name.Name.{Name}
use Rattle.tt_value.specs.declared.name.Number.{Number}
use Rattle.tt_value.specs.declared.name.Quoted.{Quoted}
use Rattle.tt_value.specs.declared.name.Literal.{Literal}
use Rattle.tt_value.specs.declared.expression.Expr.{Expr}
use Rattle.tt_value.specs.declared.predicate.Predicate.{Predicate}
use Rattle.tt_sql.specs.declared.query.Clause.{Clause}
use Rattle.tt_sql.specs.declared.query.Query.{Query}
use Rattle.tt_sql.specs.machine.PredicateTrees.{flag_of}
use Rattle.tt_value.specs.declared.name.TableName.{TableName}
use Rattle.tt_value.specs.declared.value.Kind.{Kind}
use Rattle.tt_value.specs.declared.value.Kind.TheVariants as kinds
use Rattle.tt_sql.specs.declared.change.Dml.TheVariants as dml
use Rattle.tt_sql.specs.declared.change.Copy.{Copy}
use Rattle.tt_sql.specs.declared.change.Delete.{Delete}
use Rattle.tt_sql.specs.declared.change.Insert.{Insert}
use Rattle.tt_sql.specs.declared.change.InsertSource.TheVariants as source
use Rattle.tt_sql.specs.declared.change.Set.{Set}
use Rattle.tt_sql.specs.declared.change.Tuple.{Tuple}
use Rattle.tt_sql.specs.declared.change.Update.{Update}
use Rattle.tt_sql.specs.declared.table.Alter.{Alter}
use Rattle.tt_sql.specs.declared.table.Change.{Change}
use Rattle.tt_sql.specs.declared.table.Change.TheVariants as change
use Rattle.tt_sql.specs.declared.table.ClonedTable.{ClonedTable}
use Rattle.tt_sql.specs.declared.table.ColumnDefinition.{ColumnDefinition}
use Rattle.tt_sql.specs.declared.table.CreatedTable.{CreatedTable}
use Rattle.tt_sql.specs.declared.table.TableKind.{TableKind}
use Rattle.tt_sql.specs.declared.table.TableKind.TheVariants as tables
use Rattle.tt_sql.specs.declared.statement.Statement.{Statement}
use Rattle.tt_sql.specs.declared.statement.Statement.TheVariants as statement
use Rattle.tt_sql.specs.declared.statement.TimeUnit.{TimeUnit}
use Rattle.tt_sql.specs.declared.statement.TimeUnit.TheVariants as unit
use Rattle.tt_sql.specs.declared.statement.Wait.{Wait}
use Rattle.tt_sql.specs.grammar.Grammar.{Mark, Way, At, Said, Prefix, Meant}
use Rattle.tt_sql.specs.machine.ExpressionTrees.{Reader, go_on, marked_literal}
use Rattle.tt_sql.specs.machine.QueryTrees.{marked_name, marked_number, marked_quoted, marked_table, marked_flag, marked_listed, marked_maybe, marked_sum, marked_test, marked_clause, marked_query}

-- ---- the last mark

abbrev pub behind_first : Mark → Option (List Mark × Mark) → Option (List Mark × Mark)
behind_first x None = Some ([], x)
behind_first x (Some p) = Some (x ∷ p.0, p.1)

abbrev pub split_last : List Mark → Option (List Mark × Mark)
split_last [] = None
split_last (x ∷ m) = behind_first x (split_last m)

-- with nothing behind it
abbrev pub alone : {A B : Type 0} → (A → B) → A → List Mark → Option B
alone f x [] = Some (f x)
alone f x (y ∷ m) = None

abbrev pub whole : {A B : Type 0} → (A → B) → Option (A × List Mark) → Option B
whole f None = None
whole f (Some p) = alone f p.0 p.1

-- ---- changes of rows

abbrev pub tuple_at : ℕ → List Literal → Reader Tuple
tuple_at place values m = Some (record { place = place; values = values }, m)

abbrev pub marked_tuple : Reader Tuple
marked_tuple (At place ∷ m) = go_on (marked_listed marked_literal m) (tuple_at place)
marked_tuple m = None

abbrev pub made_values : TableName → Option (List Name) → List Tuple → Reader Insert
made_values table columns tuples m = Some (record { table = table; columns = columns; source = source.Values tuples }, m)

abbrev pub values_behind : TableName → Option (List Name) → Reader Insert
values_behind table columns m = go_on (marked_listed marked_tuple m) (made_values table columns)

abbrev pub values_table : TableName → Reader Insert
values_table table m = go_on (marked_maybe (marked_listed marked_name) m) (values_behind table)

abbrev pub marked_values : Reader Insert
marked_values m = go_on (marked_table m) values_table

abbrev pub made_selected : TableName → Option (List Name) → Query → Reader Insert
made_selected table columns q m = Some (record { table = table; columns = columns; source = source.Query q }, m)

abbrev pub selected_behind : TableName → Option (List Name) → Reader Insert
selected_behind table columns m = go_on (marked_query m) (made_selected table columns)

abbrev pub selected_table : TableName → Reader Insert
selected_table table m = go_on (marked_maybe (marked_listed marked_name) m) (selected_behind table)

abbrev pub marked_selected : Reader Insert
marked_selected m = go_on (marked_table m) selected_table

abbrev pub as_insert : Insert → Statement
as_insert i = statement.Dml (dml.Insert i)

-- the last mark says whether rows or a query are inserted
abbrev pub insert_by : Mark → List Mark → Option Statement
insert_by (Way zero) m = whole as_insert (marked_values m)
insert_by (Way (suc zero)) m = whole as_insert (marked_selected m)
insert_by x m = None

abbrev pub insert_tree : Option (List Mark × Mark) → Option Statement
insert_tree None = None
insert_tree (Some p) = insert_by p.1 p.0

abbrev pub made_set : Name → Expr → Reader Set
made_set column value m = Some (record { column = column; value = value }, m)

abbrev pub set_behind : Name → Reader Set
set_behind column m = go_on (marked_sum m) (made_set column)

abbrev pub marked_set : Reader Set
marked_set m = go_on (marked_name m) set_behind

abbrev pub made_update : TableName → List Set → Option Predicate → Reader Update
made_update table sets filter m = Some (record { table = table; sets = sets; filter = filter }, m)

abbrev pub update_behind : TableName → List Set → Reader Update
update_behind table sets m = go_on (marked_maybe marked_test m) (made_update table sets)

abbrev pub update_table : TableName → Reader Update
update_table table m = go_on (marked_listed marked_set m) (update_behind table)

abbrev pub marked_update : Reader Update
marked_update m = go_on (marked_table m) update_table

abbrev pub made_delete : TableName → Option Predicate → Reader Delete
made_delete table filter m = Some (record { table = table; filter = filter }, m)

abbrev pub delete_table : TableName → Reader Delete
delete_table table m = go_on (marked_maybe marked_test m) (made_delete table)

abbrev pub marked_delete : Reader Delete
marked_delete m = go_on (marked_table m) delete_table

abbrev pub made_copy : TableName → Quoted → Reader Copy
made_copy table file m = Some (record { table = table; file = file }, m)

abbrev pub copy_table : TableName → Reader Copy
copy_table table m = go_on (marked_quoted m) (made_copy table)

abbrev pub marked_copy : Reader Copy
marked_copy m = go_on (marked_table m) copy_table

-- ---- tables

abbrev pub table_kind_of : ℕ → TableKind
table_kind_of zero = tables.Permanent
table_kind_of (suc zero) = tables.Transient
table_kind_of (suc (suc n)) = tables.Temporary

pub record Front : Type 0 where
  pub replaces : Bool
  pub kind : TableKind
  pub table : TableName

abbrev pub marked_front : Reader Front
marked_front (Way replaces ∷ Way kind ∷ Said text place ∷ m) = Some (record { replaces = flag_of replaces; kind = table_kind_of kind; table = record { schema = None; name = record { text = text; place = place } } }, m)
marked_front (Way replaces ∷ Way kind ∷ Prefix front here ∷ Said text place ∷ m) = Some (record { replaces = flag_of replaces; kind = table_kind_of kind; table = record { schema = Some (record { text = front; place = here }); name = record { text = text; place = place } } }, m)
marked_front m = None

abbrev pub kind_of : ℕ → Kind
kind_of zero = kinds.Int
kind_of (suc zero) = kinds.Date
kind_of (suc (suc n)) = kinds.Varchar

abbrev pub marked_definition : Reader ColumnDefinition
marked_definition (Said text place ∷ Way kind ∷ Way not_null ∷ m) = Some (record { name = record { text = text; place = place }; kind = kind_of kind; not_null = flag_of not_null }, m)
marked_definition m = None

abbrev pub made_create : Front → List ColumnDefinition → Option Name → Option Number → Reader CreatedTable
made_create f columns cluster_by retention m = Some (record { replaces = f.replaces; kind = f.kind; table = f.table; columns = columns; options = record { cluster_by = cluster_by; retention = retention } }, m)

abbrev pub create_cluster : Front → List ColumnDefinition → Option Name → Reader CreatedTable
create_cluster f columns cluster_by m = go_on (marked_maybe marked_number m) (made_create f columns cluster_by)

abbrev pub create_columns : Front → List ColumnDefinition → Reader CreatedTable
create_columns f columns m = go_on (marked_maybe marked_name m) (create_cluster f columns)

abbrev pub create_front : Front → Reader CreatedTable
create_front f m = go_on (marked_listed marked_definition m) (create_columns f)

abbrev pub marked_create : Reader CreatedTable
marked_create m = go_on (marked_front m) create_front

abbrev pub made_clone : Front → TableName → Option Clause → Reader ClonedTable
made_clone f table clause m = Some (record { replaces = f.replaces; kind = f.kind; table = f.table; source = record { table = table; clause = clause } }, m)

abbrev pub clone_table : Front → TableName → Reader ClonedTable
clone_table f table m = go_on (marked_maybe marked_clause m) (made_clone f table)

abbrev pub clone_front : Front → Reader ClonedTable
clone_front f m = go_on (marked_table m) (clone_table f)

abbrev pub marked_clone : Reader ClonedTable
marked_clone m = go_on (marked_front m) clone_front

abbrev pub marked_change : Reader Change
marked_change (Said text place ∷ Way zero ∷ m) = Some (change.RenameTo (record { schema = None; name = record { text = text; place = place } }), m)
marked_change (Said text place ∷ Way (suc zero) ∷ m) = Some (change.SwapWith (record { schema = None; name = record { text = text; place = place } }), m)
marked_change (Prefix front here ∷ Said text place ∷ Way zero ∷ m) = Some (change.RenameTo (record { schema = Some (record { text = front; place = here }); name = record { text = text; place = place } }), m)
marked_change (Prefix front here ∷ Said text place ∷ Way (suc zero) ∷ m) = Some (change.SwapWith (record { schema = Some (record { text = front; place = here }); name = record { text = text; place = place } }), m)
marked_change (Meant (pos n) place ∷ Way (suc (suc zero)) ∷ m) = Some (change.SetRetention (record { value = n; place = place }), m)
marked_change (Said text place ∷ Way (suc (suc (suc zero))) ∷ m) = Some (change.ClusterBy (record { text = text; place = place }), m)
marked_change (Way (suc (suc (suc (suc zero)))) ∷ m) = Some (change.DropClusteringKey, m)
marked_change (Way (suc (suc (suc (suc (suc zero))))) ∷ m) = Some (change.SuspendRecluster, m)
marked_change (Way (suc (suc (suc (suc (suc (suc zero)))))) ∷ m) = Some (change.ResumeRecluster, m)
marked_change m = None

abbrev pub made_alter : TableName → Change → Reader Alter
made_alter table change m = Some (record { table = table; change = change }, m)

abbrev pub alter_table : TableName → Reader Alter
alter_table table m = go_on (marked_change m) (made_alter table)

abbrev pub marked_alter : Reader Alter
marked_alter m = go_on (marked_table m) alter_table

-- ---- statements

abbrev pub unit_of : ℕ → TimeUnit
unit_of zero = unit.Days
unit_of (suc zero) = unit.Hours
unit_of (suc (suc zero)) = unit.Minutes
unit_of (suc (suc (suc zero))) = unit.Seconds
unit_of (suc (suc (suc (suc n)))) = unit.Milliseconds

abbrev pub marked_wait : Reader Wait
marked_wait (Meant (pos n) place ∷ Way k ∷ m) = Some (record { amount = record { value = n; place = place }; «unit» = unit_of k }, m)
marked_wait m = None

-- a statement of no parts
abbrev pub bare : Statement → List Mark → Option Statement
bare s [] = Some s
bare s (x ∷ m) = None

abbrev pub by_way : ℕ → List Mark → Option Statement
by_way k m =
    if k == 0 then whole (λ q. statement.Query q) (marked_query m) else
    (if k == 1 then insert_tree (split_last m) else
    (if k == 2 then whole (λ u. statement.Dml (dml.Update u)) (marked_update m) else
    (if k == 3 then whole (λ d. statement.Dml (dml.Delete d)) (marked_delete m) else
    (if k == 4 then whole (λ c. statement.Dml (dml.Copy c)) (marked_copy m) else
    (if k == 5 then whole (λ c. statement.Create c) (marked_create m) else
    (if k == 6 then whole (λ c. statement.Clone c) (marked_clone m) else
    (if k == 7 then whole (λ t. statement.Drop t) (marked_table m) else
    (if k == 8 then whole (λ t. statement.Undrop t) (marked_table m) else
    (if k == 9 then whole (λ t. statement.Truncate t) (marked_table m) else
    (if k == 10 then whole (λ a. statement.Alter a) (marked_alter m) else
    (if k == 11 then bare statement.Begin m else
    (if k == 12 then bare statement.Commit m else
    (if k == 13 then bare statement.Rollback m else
    (if k == 14 then whole (λ w. statement.Wait w) (marked_wait m) else
    (if k == 15 then whole (λ q. statement.Explain q) (marked_query m) else
    (if k == 16 then whole (λ history. statement.Show history) (marked_flag m) else
    (if k == 17 then bare statement.Metrics m else
    (if k == 18 then whole (λ t. statement.Depth t) (marked_table m) else None))))))))))))))))))

abbrev pub by_mark : Mark → List Mark → Option Statement
by_mark (Way k) m = by_way k m
by_mark x m = None

abbrev pub by_last : Option (List Mark × Mark) → Option Statement
by_last None = None
by_last (Some p) = by_mark p.1 p.0

-- the statement of these marks
unfoldable pub statement_tree : List Mark → Option Statement
statement_tree m = by_last (split_last m)
