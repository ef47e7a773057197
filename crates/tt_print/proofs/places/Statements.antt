-- A statement without its places is the same but for these.
use Rattle.std.proofs.Common.{◌∙◌, sym, ◌≡◌, ℕ, List, [], ◌∷◌, ◌++◌, Option, Some, None, refl, ap}
use Rattle.std.specs.Prelude.{codes}
use Rattle.tt_value.specs.declared.name.Name.{Name}
use Rattle.tt_value.specs.declared.name.Number.{Number}
use Rattle.tt_value.specs.declared.value.Kind.{Kind}
use Rattle.tt_value.specs.declared.value.Kind.TheVariants as kinds
use Rattle.tt_sql.specs.declared.change.Dml.{Dml}
use Rattle.tt_sql.specs.declared.change.Dml.TheVariants as dml
use Rattle.tt_sql.specs.declared.change.InsertSource.{InsertSource}
use Rattle.tt_sql.specs.declared.change.InsertSource.TheVariants as source
use Rattle.tt_sql.specs.declared.change.Set.{Set}
use Rattle.tt_sql.specs.declared.change.Tuple.{Tuple}
use Rattle.tt_sql.specs.declared.table.Change.{Change}
use Rattle.tt_sql.specs.declared.table.Change.TheVariants as change
use Rattle.tt_sql.specs.declared.table.ColumnDefinition.{ColumnDefinition}
use Rattle.tt_sql.specs.declared.table.TableKind.{TableKind}
use Rattle.tt_sql.specs.declared.table.TableKind.TheVariants as tables
use Rattle.tt_sql.specs.declared.table.TableOptions.{TableOptions}
use Rattle.tt_sql.specs.declared.statement.Statement.{Statement}
use Rattle.tt_sql.specs.declared.statement.Statement.TheVariants as statement
use Rattle.tt_sql.specs.trees.Lists.{IsListed}
use Rattle.tt_sql.specs.grammar.Grammar.{Mark, At}
use Rattle.tt_print.specs.text.Words.{Words, listed, name_words, literal_words, quoted_words}
use Rattle.tt_print.specs.text.Predicates.{filter_words}
use Rattle.tt_print.specs.text.Changes.{column_list_words, tuple_words, insert_source_words, set_words, dml_words}
use Rattle.tt_print.specs.text.Tables.{create_words, column_words, cluster_words, retention_words, options_words, change_words}
use Rattle.tt_print.specs.text.Statements.{table_text, statement_words}
use Rattle.tt_sql.specs.marks.Expressions.{name_marks, number_marks, literal_marks, quoted_marks, predicate_marks}
use Rattle.tt_sql.specs.marks.Queries.{query_marks}
use Rattle.tt_sql.specs.marks.Changes.{names_marks, tuple_marks, insert_source_marks, set_marks, dml_marks}
use Rattle.tt_sql.specs.marks.Tables.{kind_marks, definition_marks, options_marks, table_kind_marks, change_marks}
use Rattle.tt_sql.specs.marks.Statements.{statement_marks}
use Rattle.tt_sql.proofs.machine.StatementTrees.{one_statement_tree}
use Rattle.tt_sql.proofs.determined.Statements.{statement_given}
use Rattle.tt_print.specs.places.Marks.{unplaced}
use Rattle.tt_sql.specs.trees.Expressions.{IsWrittenName, IsWrittenNumber, IsWrittenLiteral, IsWrittenPredicate}
use Rattle.tt_sql.specs.trees.Statements.{IsWrittenTuple, IsWrittenInsertSource, IsWrittenSet, IsWrittenDml, IsWrittenDefinition, IsWrittenOptions, IsWrittenChange, IsWrittenStatement}
use Rattle.tt_print.specs.places.Trees.{unplaced_name, unplaced_number, unplaced_literal, unplaced_table, unplaced_predicate, unplaced_tuple, unplaced_insert_source, unplaced_set, unplaced_names, unplaced_dml, unplaced_definition, unplaced_options, unplaced_change, unplaced_statement}
use Rattle.tt_print.proofs.places.Parts.{Kept, both_noted, way_noted, list_right, list_written, list_noted, maybe_right, maybe_written, maybe_noted}
use Rattle.tt_print.proofs.places.Expressions.{name_kept, literal_kept, table_kept, expr_kept}
use Rattle.tt_print.proofs.places.Predicates.{flag_noted, filter_kept}
use Rattle.tt_print.proofs.places.Queries.{joined, query_kept, source_kept}

behind : {a b : Words} (word : List ℕ) → a ≡ b → word ∷ a ≡ word ∷ b
behind word p = ap (λ (w : Words). word ∷ w) p

-- ---- changes of rows

names_kept : (names : List Name) → IsListed IsWrittenName names → Kept (IsListed IsWrittenName) column_list_words names_marks unplaced_names names
names_kept names are = record {
  right = list_right IsWrittenName name_words name_marks unplaced_name name_kept names are;
  written = ap (λ (ws : List Words). codes "(" ∷ (listed ws ++ (codes ")" ∷ []))) (list_written IsWrittenName name_words name_marks unplaced_name name_kept names are);
  noted = list_noted IsWrittenName name_words name_marks unplaced_name name_kept names are;
}

tuple_kept : (t : Tuple) → IsWrittenTuple t → Kept IsWrittenTuple tuple_words tuple_marks unplaced_tuple t
tuple_kept t are = record {
  right = list_right IsWrittenLiteral literal_words literal_marks unplaced_literal literal_kept t.values are;
  written = ap (λ (ws : List Words). codes "(" ∷ (listed ws ++ (codes ")" ∷ []))) (list_written IsWrittenLiteral literal_words literal_marks unplaced_literal literal_kept t.values are);
  noted = ap (λ (m : List Mark). At 0 ∷ m) (list_noted IsWrittenLiteral literal_words literal_marks unplaced_literal literal_kept t.values are);
}

source_of_kept : (levels : ℕ) (s : InsertSource) → IsWrittenInsertSource levels s → Kept (IsWrittenInsertSource levels) insert_source_words insert_source_marks unplaced_insert_source s
source_of_kept levels (source.Values tuples) are = record {
  right = list_right IsWrittenTuple tuple_words tuple_marks unplaced_tuple tuple_kept tuples are;
  written = ap (λ (ws : List Words). codes "VALUES" ∷ listed ws) (list_written IsWrittenTuple tuple_words tuple_marks unplaced_tuple tuple_kept tuples are);
  noted = way_noted _ 0 (list_noted IsWrittenTuple tuple_words tuple_marks unplaced_tuple tuple_kept tuples are);
}
source_of_kept levels (source.Query q) is = let k = query_kept levels q is in record { right = k.right; written = k.written; noted = way_noted (query_marks q) 1 k.noted }

set_kept : (levels : ℕ) (s : Set) → IsWrittenSet levels s → Kept (IsWrittenSet levels) set_words set_marks unplaced_set s
set_kept levels s is =
    let k = expr_kept levels s.value is.1 in
    record { right = (is.0, k.right); written = ap (λ (w : Words). name_words s.column ++ (codes "=" ∷ w)) k.written; noted = both_noted (name_marks s.column) _ refl k.noted }

dml_kept : (levels : ℕ) (d : Dml) → IsWrittenDml levels d → Kept (IsWrittenDml levels) dml_words dml_marks unplaced_dml d
dml_kept levels (dml.Insert i) is =
    let t = table_kept i.table is.0 in
    let s = source_of_kept levels i.source is.2 in
    record {
      right = (t.right, maybe_right (IsListed IsWrittenName) column_list_words names_marks unplaced_names names_kept i.columns is.1, s.right);
      written = behind (codes "INSERT") (behind (codes "INTO") (joined t.written (joined (maybe_written (IsListed IsWrittenName) column_list_words names_marks unplaced_names names_kept i.columns is.1) s.written)));
      noted = way_noted _ 1 (both_noted _ _ t.noted (both_noted _ _ (maybe_noted (IsListed IsWrittenName) column_list_words names_marks unplaced_names names_kept i.columns is.1) s.noted));
    }
dml_kept levels (dml.Update u) is =
    let t = table_kept u.table is.0 in
    record {
      right = (t.right, list_right (IsWrittenSet levels) set_words set_marks unplaced_set (set_kept levels) u.sets is.1, maybe_right (IsWrittenPredicate levels) filter_words predicate_marks unplaced_predicate (filter_kept levels) u.filter is.2);
      written = behind (codes "UPDATE") (joined t.written (behind (codes "SET") (joined (ap listed (list_written (IsWrittenSet levels) set_words set_marks unplaced_set (set_kept levels) u.sets is.1))
          (maybe_written (IsWrittenPredicate levels) filter_words predicate_marks unplaced_predicate (filter_kept levels) u.filter is.2))));
      noted = way_noted _ 2 (both_noted _ _ t.noted (both_noted _ _ (list_noted (IsWrittenSet levels) set_words set_marks unplaced_set (set_kept levels) u.sets is.1)
          (maybe_noted (IsWrittenPredicate levels) filter_words predicate_marks unplaced_predicate (filter_kept levels) u.filter is.2)));
    }
dml_kept levels (dml.Delete d) is =
    let t = table_kept d.table is.0 in
    record {
      right = (t.right, maybe_right (IsWrittenPredicate levels) filter_words predicate_marks unplaced_predicate (filter_kept levels) d.filter is.1);
      written = behind (codes "DELETE") (behind (codes "FROM") (joined t.written (maybe_written (IsWrittenPredicate levels) filter_words predicate_marks unplaced_predicate (filter_kept levels) d.filter is.1)));
      noted = way_noted _ 3 (both_noted _ _ t.noted (maybe_noted (IsWrittenPredicate levels) filter_words predicate_marks unplaced_predicate (filter_kept levels) d.filter is.1));
    }
dml_kept levels (dml.Copy c) is =
    let t = table_kept c.table is.0 in
    record {
      right = (t.right, is.1);
      written = behind (codes "COPY") (behind (codes "INTO") (ap (λ (w : Words). w ++ (codes "FROM" ∷ quoted_words c.file)) t.written));
      noted = way_noted _ 4 (both_noted _ (quoted_marks c.file) t.noted refl);
    }

-- ---- tables

kind_noted : (k : Kind) → kind_marks k ≡ unplaced (kind_marks k)
kind_noted kinds.Int = refl
kind_noted kinds.Date = refl
kind_noted kinds.Varchar = refl

table_kind_noted : (k : TableKind) → table_kind_marks k ≡ unplaced (table_kind_marks k)
table_kind_noted tables.Permanent = refl
table_kind_noted tables.Transient = refl
table_kind_noted tables.Temporary = refl

definition_kept : (d : ColumnDefinition) → IsWrittenDefinition d → Kept IsWrittenDefinition column_words definition_marks unplaced_definition d
definition_kept d is = record { right = is; written = refl; noted = both_noted (name_marks d.name) _ refl (both_noted _ _ (kind_noted d.kind) (flag_noted d.not_null)) }

cluster_kept : (n : Name) → IsWrittenName n → Kept IsWrittenName cluster_words name_marks unplaced_name n
cluster_kept n is = record { right = is; written = refl; noted = refl }

retention_kept : (n : Number) → IsWrittenNumber n → Kept IsWrittenNumber retention_words number_marks unplaced_number n
retention_kept n is = record { right = is; written = refl; noted = refl }

options_kept : (o : TableOptions) → IsWrittenOptions o → Kept IsWrittenOptions options_words options_marks unplaced_options o
options_kept o is = record {
  right = (maybe_right IsWrittenName cluster_words name_marks unplaced_name cluster_kept o.cluster_by is.0, maybe_right IsWrittenNumber retention_words number_marks unplaced_number retention_kept o.retention is.1);
  written = joined (maybe_written IsWrittenName cluster_words name_marks unplaced_name cluster_kept o.cluster_by is.0) (maybe_written IsWrittenNumber retention_words number_marks unplaced_number retention_kept o.retention is.1);
  noted = both_noted _ _ (maybe_noted IsWrittenName cluster_words name_marks unplaced_name cluster_kept o.cluster_by is.0) (maybe_noted IsWrittenNumber retention_words number_marks unplaced_number retention_kept o.retention is.1);
}

change_kept : (c : Change) → IsWrittenChange c → Kept IsWrittenChange change_words change_marks unplaced_change c
change_kept (change.RenameTo t) is = let k = table_kept t is in record { right = k.right; written = behind (codes "RENAME") (behind (codes "TO") k.written); noted = way_noted _ 0 k.noted }
change_kept (change.SwapWith t) is = let k = table_kept t is in record { right = k.right; written = behind (codes "SWAP") (behind (codes "WITH") k.written); noted = way_noted _ 1 k.noted }
change_kept (change.SetRetention n) is = record { right = is; written = refl; noted = refl }
change_kept (change.ClusterBy n) is = record { right = is; written = refl; noted = refl }
change_kept change.DropClusteringKey is = record { right = tt; written = refl; noted = refl }
change_kept change.SuspendRecluster is = record { right = tt; written = refl; noted = refl }
change_kept change.ResumeRecluster is = record { right = tt; written = refl; noted = refl }

quoted_same : (schema : Option Name) (n : Name) → schema ≡ None → table_text (unplaced_table (record { schema = schema; name = n })) ≡ table_text (record { schema = schema; name = n })
quoted_same None n alone = refl
quoted_same (Some front) n alone = absurd cc

-- ---- statements

pub statement_kept : (levels : ℕ) (s : Statement) → IsWrittenStatement levels s → Kept (IsWrittenStatement levels) statement_words statement_marks unplaced_statement s
statement_kept levels (statement.Query q) is = let k = query_kept levels q is in record { right = k.right; written = k.written; noted = way_noted (query_marks q) 0 k.noted }
statement_kept levels (statement.Dml d) is = let k = dml_kept levels d is in record { right = k.right; written = k.written; noted = k.noted }
statement_kept levels (statement.Create c) is =
    let t = table_kept c.table is.1 in
    let o = options_kept c.options is.3 in
    record {
      right = (is.0, t.right, list_right IsWrittenDefinition column_words definition_marks unplaced_definition definition_kept c.columns is.2, o.right);
      written = ap (λ (w : Words). create_words c.replaces c.kind ++ w) (joined t.written (behind (codes "(") (joined (ap listed (list_written IsWrittenDefinition column_words definition_marks unplaced_definition definition_kept c.columns is.2)) (behind (codes ")") o.written))));
      noted = way_noted _ 5 (both_noted _ _ (both_noted _ _ (flag_noted c.replaces) (both_noted _ _ (table_kind_noted c.kind) t.noted))
          (both_noted _ _ (list_noted IsWrittenDefinition column_words definition_marks unplaced_definition definition_kept c.columns is.2) o.noted));
    }
statement_kept levels (statement.Clone c) is =
    let t = table_kept c.table is.1 in
    let s = source_kept c.source is.2 in
    record {
      right = (is.0, t.right, s.right);
      written = ap (λ (w : Words). create_words c.replaces c.kind ++ w) (joined t.written (behind (codes "CLONE") s.written));
      noted = way_noted _ 6 (both_noted _ _ (both_noted _ _ (flag_noted c.replaces) (both_noted _ _ (table_kind_noted c.kind) t.noted)) s.noted);
    }
statement_kept levels (statement.Drop t) is = let k = table_kept t is in record { right = k.right; written = behind (codes "DROP") (behind (codes "TABLE") k.written); noted = way_noted _ 7 k.noted }
statement_kept levels (statement.Undrop t) is = let k = table_kept t is in record { right = k.right; written = behind (codes "UNDROP") (behind (codes "TABLE") k.written); noted = way_noted _ 8 k.noted }
statement_kept levels (statement.Truncate t) is = let k = table_kept t is in record { right = k.right; written = behind (codes "TRUNCATE") (behind (codes "TABLE") k.written); noted = way_noted _ 9 k.noted }
statement_kept levels (statement.Alter a) is =
    let t = table_kept a.table is.0 in
    let c = change_kept a.change is.1 in
    record { right = (t.right, c.right); written = behind (codes "ALTER") (behind (codes "TABLE") (joined t.written c.written)); noted = way_noted _ 10 (both_noted _ _ t.noted c.noted) }
statement_kept levels statement.Begin is = record { right = tt; written = refl; noted = refl }
statement_kept levels statement.Commit is = record { right = tt; written = refl; noted = refl }
statement_kept levels statement.Rollback is = record { right = tt; written = refl; noted = refl }
statement_kept levels (statement.Wait w) is = record { right = is; written = refl; noted = refl }
statement_kept levels (statement.Explain q) is = let k = query_kept levels q is in record { right = k.right; written = behind (codes "EXPLAIN") k.written; noted = way_noted (query_marks q) 15 k.noted }
statement_kept levels (statement.Show history) is = record { right = tt; written = refl; noted = way_noted _ 16 (flag_noted history) }
statement_kept levels statement.Metrics is = record { right = tt; written = refl; noted = refl }
statement_kept levels (statement.Depth t) is =
    let k = table_kept t is in
    record { right = k.right; written = ap (λ (word : List ℕ). codes "SELECT" ∷ codes "SYSTEM$CLUSTERING_DEPTH" ∷ codes "(" ∷ word ∷ codes ")" ∷ []) (quoted_same t.schema t.name is.0); noted = way_noted _ 18 k.noted }

-- two statements whose marks are the same but for places
pub alike_statements : (i j : ℕ) (s t : Statement) → IsWrittenStatement i s → IsWrittenStatement j t → unplaced (statement_marks s) ≡ unplaced (statement_marks t) → unplaced_statement s ≡ unplaced_statement t
alike_statements i j s t is are alike =
    let k = statement_kept i s is in
    let l = statement_kept j t are in
    one_statement_tree (unplaced_statement s) (unplaced_statement t) (statement_given i (unplaced_statement s) k.right) (statement_given j (unplaced_statement t) l.right) (k.noted ∙ alike ∙ sym l.noted)
