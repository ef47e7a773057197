-- Marks of a statement are read back as the statement.
use Rattle.std.proofs.Common.{◌≡◌, ℕ, Bool, true, false, List, [], ◌∷◌, ◌++◌, map, Option, Some, None, refl, sym, ap, ◌∙◌, append_assoc, append-nil}
use Rattle.std.specs.Prelude.{⊤}
use Rattle.tt_value.specs.declared.name.Literal.{Literal}
use Rattle.tt_value.specs.declared.name.Name.{Name}
use Rattle.tt_value.specs.declared.name.Number.{Number}
use Rattle.tt_value.specs.declared.name.TableName.{TableName}
use Rattle.tt_value.specs.declared.value.Kind.{Kind}
use Rattle.tt_value.specs.declared.value.Kind.TheVariants as kinds
use Rattle.tt_value.specs.declared.expression.Expr.{Expr}
use Rattle.tt_value.specs.declared.predicate.Predicate.{Predicate}
use Rattle.tt_value.specs.values.RowText.{IsPrintableValue}
use Rattle.tt_sql.specs.declared.change.Dml.TheVariants as dml
use Rattle.tt_sql.specs.declared.change.Copy.{Copy}
use Rattle.tt_sql.specs.declared.change.Delete.{Delete}
use Rattle.tt_sql.specs.declared.change.InsertSource.{InsertSource}
use Rattle.tt_sql.specs.declared.change.InsertSource.TheVariants as source
use Rattle.tt_sql.specs.declared.change.Tuple.{Tuple}
use Rattle.tt_sql.specs.declared.change.Update.{Update}
use Rattle.tt_sql.specs.declared.query.Clause.{Clause}
use Rattle.tt_sql.specs.declared.query.Query.{Query}
use Rattle.tt_sql.specs.declared.table.Alter.{Alter}
use Rattle.tt_sql.specs.declared.table.Change.{Change}
use Rattle.tt_sql.specs.declared.table.Change.TheVariants as change
use Rattle.tt_sql.specs.declared.table.ClonedTable.{ClonedTable}
use Rattle.tt_sql.specs.declared.table.CreatedTable.{CreatedTable}
use Rattle.tt_sql.specs.declared.table.TableKind.{TableKind}
use Rattle.tt_sql.specs.declared.table.TableKind.TheVariants as tables
use Rattle.tt_sql.specs.declared.statement.Statement.{Statement}
use Rattle.tt_sql.specs.declared.statement.Statement.TheVariants as statement
use Rattle.tt_sql.specs.declared.statement.TimeUnit.{TimeUnit}
use Rattle.tt_sql.specs.declared.statement.TimeUnit.TheVariants as unit
use Rattle.tt_sql.specs.declared.statement.Wait.{Wait}
use Rattle.tt_sql.specs.grammar.Grammar.{Mark, Way}
use Rattle.tt_sql.specs.marks.Expressions.{listed_marks, maybe_marks, flag_marks, qualified, name_marks, number_marks, quoted_marks, literal_marks, table_marks, predicate_marks}
use Rattle.tt_sql.specs.marks.Queries.{clause_marks, query_marks}
use Rattle.tt_sql.specs.marks.Changes.{names_marks, tuple_marks, insert_marks, set_marks, update_marks, delete_marks, copy_marks}
use Rattle.tt_sql.specs.marks.Tables.{kind_marks, definition_marks, table_kind_marks, create_marks, clone_marks, change_marks, alter_marks}
use Rattle.tt_sql.specs.marks.Statements.{unit_number, wait_marks, statement_marks}
use Rattle.tt_sql.specs.determined.Expressions.{IsGivenPredicate}
use Rattle.tt_sql.specs.trees.Lists.{IsListed, WhenThere}
use Rattle.tt_sql.specs.determined.Queries.{IsGivenClause, IsGivenSource, IsGivenQuery}
use Rattle.tt_sql.specs.determined.Statements.{IsGivenTuple, IsGivenInsertSource, IsGivenSet, IsGivenStatement}
use Rattle.tt_sql.specs.machine.ExpressionTrees.{Reader, go_on, marked_literal}
use Rattle.tt_sql.proofs.machine.ExpressionTrees.{value_reads}
use Rattle.tt_sql.specs.machine.QueryTrees.{marked_name, marked_number, marked_table, marked_flag, marked_listed, marked_maybe, marked_test, marked_clause, marked_query}
use Rattle.tt_sql.proofs.machine.QueryTrees.{Always, Starts, in_front, listed_reads, maybe_reads, always_there, name_reads, number_reads, table_reads, sum_reads, test_reads, predicate_starts, clause_reads, clause_starts, query_reads}
use Rattle.tt_sql.specs.machine.StatementTrees.{behind_first, split_last, whole, tuple_at, marked_tuple, made_values, values_behind, values_table, marked_values, made_selected, selected_behind, selected_table, marked_selected, as_insert, insert_tree, made_set, marked_set, made_update, update_behind, update_table, marked_update, made_delete, delete_table, marked_delete, copy_table, marked_copy, Front, marked_front, marked_definition, made_create, create_cluster, create_columns, create_front, marked_create, made_clone, clone_table, clone_front, marked_clone, marked_change, made_alter, alter_table, marked_alter, marked_wait, by_way, by_last, statement_tree}

-- ---- the last mark

split_end : (m : List Mark) (x : Mark) → split_last (m ++ x ∷ []) ≡ Some (m, x)
split_end [] x = refl
split_end (y ∷ m) x = ap (behind_first y) (split_end m x)

end_at : (k : ℕ) (m : List Mark) (s : Statement) → by_way k m ≡ Some s → statement_tree (m ++ Way k ∷ []) ≡ Some s
unfolding statement_tree
end_at k m s e = ap by_last (split_end m (Way k)) ∙ e

whole_of : {A B : Type 0} (f : A → B) (r : Reader A) (m : List Mark) (x : A) → r (m ++ []) ≡ Some (x, []) → whole f (r m) ≡ Some (f x)
whole_of {A} f r m x e = ap (λ (z : List Mark). whole f (r z)) (sym (append-nil m)) ∙ ap (λ (o : Option (A × List Mark)). whole f o) e

-- ---- changes of rows

literal_reads : Always literal_marks (λ l. IsPrintableValue l.value) marked_literal
literal_reads l g rest = value_reads l.value l.place g rest

tuple_reads : Always tuple_marks IsGivenTuple marked_tuple
tuple_reads t g rest = ap (λ (o : Option (List Literal × List Mark)). go_on o (tuple_at t.place)) (listed_reads literal_marks (λ l. IsPrintableValue l.value) marked_literal literal_reads t.values g rest)

names_start : (names : List Name) → IsListed (λ n. ⊤) names → Starts (names_marks names)
names_start [] g = absurd g
names_start (n ∷ names) g = tt

columns_read : (columns : Option (List Name)) → WhenThere (λ names. IsListed (λ n. ⊤) names) columns → (rest : List Mark) → marked_maybe (marked_listed marked_name) (maybe_marks names_marks columns ++ rest) ≡ Some (columns, rest)
columns_read columns g rest = maybe_reads names_marks (λ names. IsListed (λ n. ⊤) names) (marked_listed marked_name) (λ names h later. listed_reads name_marks (λ n. ⊤) marked_name name_reads names h later) names_start columns g rest

values_read : (table : TableName) (columns : Option (List Name)) (tuples : List Tuple) → WhenThere (λ names. IsListed (λ n. ⊤) names) columns → IsListed IsGivenTuple tuples → (rest : List Mark) → marked_values ((table_marks table ++ (maybe_marks names_marks columns ++ listed_marks (map tuple_marks tuples))) ++ rest) ≡ Some (record { table = table; columns = columns; source = source.Values tuples }, rest)
values_read table columns tuples c v rest =
    let vs = listed_marks (map tuple_marks tuples) in
    in_front marked_table values_table (table_marks table) (maybe_marks names_marks columns ++ vs) rest table (table_reads table ((maybe_marks names_marks columns ++ vs) ++ rest))
    ∙ in_front (marked_maybe (marked_listed marked_name)) (values_behind table) (maybe_marks names_marks columns) vs rest columns (columns_read columns c (vs ++ rest))
    ∙ ap (λ (o : Option (List Tuple × List Mark)). go_on o (made_values table columns)) (listed_reads tuple_marks IsGivenTuple marked_tuple tuple_reads tuples v rest)

selected_read : (table : TableName) (columns : Option (List Name)) (q : Query) → WhenThere (λ names. IsListed (λ n. ⊤) names) columns → IsGivenQuery q → (rest : List Mark) → marked_selected ((table_marks table ++ (maybe_marks names_marks columns ++ query_marks q)) ++ rest) ≡ Some (record { table = table; columns = columns; source = source.Query q }, rest)
selected_read table columns q c v rest =
    in_front marked_table selected_table (table_marks table) (maybe_marks names_marks columns ++ query_marks q) rest table (table_reads table ((maybe_marks names_marks columns ++ query_marks q) ++ rest))
    ∙ in_front (marked_maybe (marked_listed marked_name)) (selected_behind table) (maybe_marks names_marks columns) (query_marks q) rest columns (columns_read columns c (query_marks q ++ rest))
    ∙ ap (λ (o : Option (Query × List Mark)). go_on o (made_selected table columns)) (query_reads q v rest)

-- two parts and the last mark
regrouped : (a b c : List Mark) (x : Mark) → a ++ (b ++ (c ++ x ∷ [])) ≡ (a ++ (b ++ c)) ++ x ∷ []
regrouped a b c x = sym (append_assoc a (b ++ c) (x ∷ []) ∙ ap (λ (z : List Mark). a ++ z) (append_assoc b c (x ∷ [])))

insert_case : (table : TableName) (columns : Option (List Name)) (s : InsertSource) → WhenThere (λ names. IsListed (λ n. ⊤) names) columns → IsGivenInsertSource s → insert_tree (split_last (insert_marks (record { table = table; columns = columns; source = s }))) ≡ Some (as_insert (record { table = table; columns = columns; source = s }))
insert_case table columns (source.Values tuples) c v =
    let m = table_marks table ++ (maybe_marks names_marks columns ++ listed_marks (map tuple_marks tuples)) in
    ap (λ (z : List Mark). insert_tree (split_last z)) (regrouped (table_marks table) (maybe_marks names_marks columns) (listed_marks (map tuple_marks tuples)) (Way 0))
    ∙ ap insert_tree (split_end m (Way 0))
    ∙ whole_of as_insert marked_values m (record { table = table; columns = columns; source = source.Values tuples }) (values_read table columns tuples c v [])
insert_case table columns (source.Query q) c v =
    let m = table_marks table ++ (maybe_marks names_marks columns ++ query_marks q) in
    ap (λ (z : List Mark). insert_tree (split_last z)) (regrouped (table_marks table) (maybe_marks names_marks columns) (query_marks q) (Way 1))
    ∙ ap insert_tree (split_end m (Way 1))
    ∙ whole_of as_insert marked_selected m (record { table = table; columns = columns; source = source.Query q }) (selected_read table columns q c v [])

set_reads : Always set_marks IsGivenSet marked_set
set_reads s g rest = ap (λ (o : Option (Expr × List Mark)). go_on o (made_set s.column)) (sum_reads s.value g rest)

filter_reads : (filter : Option Predicate) → WhenThere IsGivenPredicate filter → (rest : List Mark) → marked_maybe marked_test (maybe_marks predicate_marks filter ++ rest) ≡ Some (filter, rest)
filter_reads filter g rest = maybe_reads predicate_marks IsGivenPredicate marked_test test_reads (λ p h. predicate_starts p) filter g rest

update_reads : (u : Update) → IsListed IsGivenSet u.sets → WhenThere IsGivenPredicate u.filter → (rest : List Mark) → marked_update (update_marks u ++ rest) ≡ Some (u, rest)
update_reads u s f rest =
    let sets = listed_marks (map set_marks u.sets) in
    let filter = maybe_marks predicate_marks u.filter in
    in_front marked_table update_table (table_marks u.table) (sets ++ filter) rest u.table (table_reads u.table ((sets ++ filter) ++ rest))
    ∙ in_front (marked_listed marked_set) (update_behind u.table) sets filter rest u.sets (listed_reads set_marks IsGivenSet marked_set set_reads u.sets s (filter ++ rest))
    ∙ ap (λ (o : Option (Option Predicate × List Mark)). go_on o (made_update u.table u.sets)) (filter_reads u.filter f rest)

delete_reads : (d : Delete) → WhenThere IsGivenPredicate d.filter → (rest : List Mark) → marked_delete (delete_marks d ++ rest) ≡ Some (d, rest)
delete_reads d f rest =
    let filter = maybe_marks predicate_marks d.filter in
    in_front marked_table delete_table (table_marks d.table) filter rest d.table (table_reads d.table (filter ++ rest))
    ∙ ap (λ (o : Option (Option Predicate × List Mark)). go_on o (made_delete d.table)) (filter_reads d.filter f rest)

copy_reads : (c : Copy) (rest : List Mark) → marked_copy (copy_marks c ++ rest) ≡ Some (c, rest)
copy_reads c rest = in_front marked_table copy_table (table_marks c.table) (quoted_marks c.file) rest c.table (table_reads c.table (quoted_marks c.file ++ rest))

-- ---- tables

front_reads : (replaces : Bool) (kind : TableKind) (schema : Option Name) (name : Name) (rest : List Mark) → marked_front ((flag_marks replaces ++ (table_kind_marks kind ++ qualified schema name)) ++ rest) ≡ Some (record { replaces = replaces; kind = kind; table = record { schema = schema; name = name } }, rest)
front_reads false tables.Permanent None name rest = refl
front_reads false tables.Permanent (Some front) name rest = refl
front_reads false tables.Transient None name rest = refl
front_reads false tables.Transient (Some front) name rest = refl
front_reads false tables.Temporary None name rest = refl
front_reads false tables.Temporary (Some front) name rest = refl
front_reads true tables.Permanent None name rest = refl
front_reads true tables.Permanent (Some front) name rest = refl
front_reads true tables.Transient None name rest = refl
front_reads true tables.Transient (Some front) name rest = refl
front_reads true tables.Temporary None name rest = refl
front_reads true tables.Temporary (Some front) name rest = refl

kind_reads : (name : Name) (kind : Kind) (not_null : Bool) (rest : List Mark) → marked_definition ((name_marks name ++ (kind_marks kind ++ flag_marks not_null)) ++ rest) ≡ Some (record { name = name; kind = kind; not_null = not_null }, rest)
kind_reads name kinds.Int false rest = refl
kind_reads name kinds.Int true rest = refl
kind_reads name kinds.Date false rest = refl
kind_reads name kinds.Date true rest = refl
kind_reads name kinds.Varchar false rest = refl
kind_reads name kinds.Varchar true rest = refl

definition_reads : Always definition_marks (λ d. ⊤) marked_definition
definition_reads d g rest = kind_reads d.name d.kind d.not_null rest

create_reads : (c : CreatedTable) → IsListed (λ d. ⊤) c.columns → (rest : List Mark) → marked_create (create_marks c ++ rest) ≡ Some (c, rest)
create_reads c d rest =
    let f : Front = record { replaces = c.replaces; kind = c.kind; table = c.table } in
    let front = flag_marks c.replaces ++ (table_kind_marks c.kind ++ table_marks c.table) in
    let columns = listed_marks (map definition_marks c.columns) in
    let cluster = maybe_marks name_marks c.options.cluster_by in
    let retention = maybe_marks number_marks c.options.retention in
    in_front marked_front create_front front (columns ++ (cluster ++ retention)) rest f (front_reads c.replaces c.kind c.table.schema c.table.name ((columns ++ (cluster ++ retention)) ++ rest))
    ∙ in_front (marked_listed marked_definition) (create_columns f) columns (cluster ++ retention) rest c.columns (listed_reads definition_marks (λ x. ⊤) marked_definition definition_reads c.columns d ((cluster ++ retention) ++ rest))
    ∙ in_front (marked_maybe marked_name) (create_cluster f c.columns) cluster retention rest c.options.cluster_by (maybe_reads name_marks (λ n. ⊤) marked_name name_reads (λ n h. tt) c.options.cluster_by (always_there c.options.cluster_by) (retention ++ rest))
    ∙ ap (λ (o : Option (Option Number × List Mark)). go_on o (made_create f c.columns c.options.cluster_by)) (maybe_reads number_marks (λ n. ⊤) marked_number number_reads (λ n h. tt) c.options.retention (always_there c.options.retention) rest)

clone_reads : (c : ClonedTable) → IsGivenSource c.source → (rest : List Mark) → marked_clone (clone_marks c ++ rest) ≡ Some (c, rest)
clone_reads c g rest =
    let f : Front = record { replaces = c.replaces; kind = c.kind; table = c.table } in
    let front = flag_marks c.replaces ++ (table_kind_marks c.kind ++ table_marks c.table) in
    let table = table_marks c.source.table in
    let clause = maybe_marks clause_marks c.source.clause in
    in_front marked_front clone_front front (table ++ clause) rest f (front_reads c.replaces c.kind c.table.schema c.table.name ((table ++ clause) ++ rest))
    ∙ in_front marked_table (clone_table f) table clause rest c.source.table (table_reads c.source.table (clause ++ rest))
    ∙ ap (λ (o : Option (Option Clause × List Mark)). go_on o (made_clone f c.source.table)) (maybe_reads clause_marks IsGivenClause marked_clause clause_reads (λ x h. clause_starts x) c.source.clause g rest)

rename_reads : (schema : Option Name) (name : Name) (rest : List Mark) → marked_change ((qualified schema name ++ Way 0 ∷ []) ++ rest) ≡ Some (change.RenameTo (record { schema = schema; name = name }), rest)
rename_reads None name rest = refl
rename_reads (Some front) name rest = refl

swap_reads : (schema : Option Name) (name : Name) (rest : List Mark) → marked_change ((qualified schema name ++ Way 1 ∷ []) ++ rest) ≡ Some (change.SwapWith (record { schema = schema; name = name }), rest)
swap_reads None name rest = refl
swap_reads (Some front) name rest = refl

change_reads : (c : Change) (rest : List Mark) → marked_change (change_marks c ++ rest) ≡ Some (c, rest)
change_reads (change.RenameTo t) rest = rename_reads t.schema t.name rest
change_reads (change.SwapWith t) rest = swap_reads t.schema t.name rest
change_reads (change.SetRetention n) rest = refl
change_reads (change.ClusterBy n) rest = refl
change_reads change.DropClusteringKey rest = refl
change_reads change.SuspendRecluster rest = refl
change_reads change.ResumeRecluster rest = refl

alter_reads : (a : Alter) (rest : List Mark) → marked_alter (alter_marks a ++ rest) ≡ Some (a, rest)
alter_reads a rest =
    in_front marked_table alter_table (table_marks a.table) (change_marks a.change) rest a.table (table_reads a.table (change_marks a.change ++ rest))
    ∙ ap (λ (o : Option (Change × List Mark)). go_on o (made_alter a.table)) (change_reads a.change rest)

-- ---- statements

unit_reads : (n : Number) (u : TimeUnit) (rest : List Mark) → marked_wait ((number_marks n ++ Way (unit_number u) ∷ []) ++ rest) ≡ Some (record { amount = n; «unit» = u }, rest)
unit_reads n unit.Days rest = refl
unit_reads n unit.Hours rest = refl
unit_reads n unit.Minutes rest = refl
unit_reads n unit.Seconds rest = refl
unit_reads n unit.Milliseconds rest = refl

wait_reads : (w : Wait) (rest : List Mark) → marked_wait (wait_marks w ++ rest) ≡ Some (w, rest)
wait_reads w rest = unit_reads w.amount w.«unit» rest

flag_reads : (b : Bool) (rest : List Mark) → marked_flag (flag_marks b ++ rest) ≡ Some (b, rest)
flag_reads false rest = refl
flag_reads true rest = refl

pub statement_reads : (s : Statement) → IsGivenStatement s → statement_tree (statement_marks s) ≡ Some s
statement_reads (statement.Query q) g = end_at 0 (query_marks q) _ (whole_of (λ x. statement.Query x) marked_query (query_marks q) q (query_reads q g []))
statement_reads (statement.Dml (dml.Insert i)) g = end_at 1 (insert_marks i) _ (insert_case i.table i.columns i.source g.0 g.1)
statement_reads (statement.Dml (dml.Update u)) g = end_at 2 (update_marks u) _ (whole_of (λ x. statement.Dml (dml.Update x)) marked_update (update_marks u) u (update_reads u g.0 g.1 []))
statement_reads (statement.Dml (dml.Delete d)) g = end_at 3 (delete_marks d) _ (whole_of (λ x. statement.Dml (dml.Delete x)) marked_delete (delete_marks d) d (delete_reads d g []))
statement_reads (statement.Dml (dml.Copy c)) g = end_at 4 (copy_marks c) _ (whole_of (λ x. statement.Dml (dml.Copy x)) marked_copy (copy_marks c) c (copy_reads c []))
statement_reads (statement.Create c) g = end_at 5 (create_marks c) _ (whole_of (λ x. statement.Create x) marked_create (create_marks c) c (create_reads c g []))
statement_reads (statement.Clone c) g = end_at 6 (clone_marks c) _ (whole_of (λ x. statement.Clone x) marked_clone (clone_marks c) c (clone_reads c g []))
statement_reads (statement.Drop t) g = end_at 7 (table_marks t) _ (whole_of (λ x. statement.Drop x) marked_table (table_marks t) t (table_reads t []))
statement_reads (statement.Undrop t) g = end_at 8 (table_marks t) _ (whole_of (λ x. statement.Undrop x) marked_table (table_marks t) t (table_reads t []))
statement_reads (statement.Truncate t) g = end_at 9 (table_marks t) _ (whole_of (λ x. statement.Truncate x) marked_table (table_marks t) t (table_reads t []))
statement_reads (statement.Alter a) g = end_at 10 (alter_marks a) _ (whole_of (λ x. statement.Alter x) marked_alter (alter_marks a) a (alter_reads a []))
statement_reads statement.Begin g = end_at 11 [] _ refl
statement_reads statement.Commit g = end_at 12 [] _ refl
statement_reads statement.Rollback g = end_at 13 [] _ refl
statement_reads (statement.Wait w) g = end_at 14 (wait_marks w) _ (whole_of (λ x. statement.Wait x) marked_wait (wait_marks w) w (wait_reads w []))
statement_reads (statement.Explain q) g = end_at 15 (query_marks q) _ (whole_of (λ x. statement.Explain x) marked_query (query_marks q) q (query_reads q g []))
statement_reads (statement.Show history) g = end_at 16 (flag_marks history) _ (whole_of (λ x. statement.Show x) marked_flag (flag_marks history) history (flag_reads history []))
statement_reads statement.Metrics g = end_at 17 [] _ refl
statement_reads (statement.Depth t) g = end_at 18 (table_marks t) _ (whole_of (λ x. statement.Depth x) marked_table (table_marks t) t (table_reads t []))

-- ---- the statement is determined

statement_or : Statement → Option Statement → Statement
statement_or s None = s
statement_or s (Some x) = x

pub one_statement_tree : (a b : Statement) → IsGivenStatement a → IsGivenStatement b → statement_marks a ≡ statement_marks b → a ≡ b
unfolding statement_or
one_statement_tree a b g h e = ap (statement_or a) (sym (statement_reads a g) ∙ ap statement_tree e ∙ statement_reads b h)
