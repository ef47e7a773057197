-- Statements that make and change tables are read again.
use Rattle.std.proofs.Common.{◌≡◌, arith, Bool, true, false, [], ◌∷◌, ◌++◌, map, Option, Some, None, refl, sym, ap, ◌∙◌, append_assoc}
use Rattle.std.specs.Prelude.{codes, pos}
use Rattle.tt_value.specs.declared.name.Name.{Name}
use Rattle.tt_value.specs.declared.name.Number.{Number}
use Rattle.tt_value.specs.declared.name.TableName.{TableName}
use Rattle.tt_value.specs.declared.value.Kind.{Kind}
use Rattle.tt_value.specs.declared.value.Kind.TheVariants as kinds
use Rattle.tt_sql.specs.declared.table.Alter.{Alter}
use Rattle.tt_sql.specs.declared.table.Change.{Change}
use Rattle.tt_sql.specs.declared.table.Change.TheVariants as change
use Rattle.tt_sql.specs.declared.table.ClonedTable.{ClonedTable}
use Rattle.tt_sql.specs.declared.table.ColumnDefinition.{ColumnDefinition}
use Rattle.tt_sql.specs.declared.table.CreatedTable.{CreatedTable}
use Rattle.tt_sql.specs.declared.table.TableKind.{TableKind}
use Rattle.tt_sql.specs.declared.table.TableKind.TheVariants as tables
use Rattle.tt_sql.specs.trees.Lists.{IsListed, WhenThere}
use Rattle.tt_sql.specs.grammar.Grammar.{Way, Meant}
use Rattle.tt_sql.specs.grammar.Combinators.{◌▸◌, one, maybe}
use Rattle.tt_sql.specs.grammar.TokenKinds.{NOT, NULL, word_kind, sign_kind}
use Rattle.tt_print.specs.text.Words.{Words, word_if, words_if, table_name_words, listed as listed_words}
use Rattle.tt_print.specs.text.Queries.{clause_words, source_words}
use Rattle.tt_print.specs.text.Tables.{create_words, kind_word, column_words, cluster_words, retention_words, options_words, created_words, cloned_words, change_words, alter_words}
use Rattle.tt_sql.specs.marks.Expressions.{flag_marks, maybe_marks, name_marks, number_marks, table_marks}
use Rattle.tt_sql.specs.marks.Queries.{clause_marks}
use Rattle.tt_sql.specs.marks.Tables.{kind_marks, definition_marks, table_kind_marks, create_marks, clone_marks, change_marks, alter_marks}
use Rattle.tt_sql.specs.grammar.Written.{kind, column, cluster_by, retention, options, create_front, create, clone, clause, change as change_part, alter}
use Rattle.tt_print.specs.again.Spelling.{IsReadAs}
use Rattle.tt_sql.specs.trees.Expressions.{IsWrittenName, IsWrittenTable, IsWrittenNumber}
use Rattle.tt_sql.specs.trees.Queries.{IsWrittenClause, IsWrittenSource}
use Rattle.tt_sql.specs.trees.Statements.{IsWrittenDefinition, IsWrittenKind, IsWrittenOptions, IsWrittenChange}
use Rattle.tt_print.proofs.again.Quoted.{lone_number}
use Rattle.tt_print.proofs.again.Tokens.{number_token}
use Rattle.tt_print.proofs.again.Parts.{as_told, in_order, as_first, as_second, a_word, a_way, word_first, with_way, in_list, when_there, put_in, left_out, in_brackets}
use Rattle.tt_print.proofs.again.Expressions.{name_read, table_read, number_read}
use Rattle.tt_print.proofs.again.Moments.{clause_read}

-- ---- columns and options

kind_read : (k : Kind) → IsReadAs kind (kind_word k ∷ []) (kind_marks k)
unfolding word_kind
kind_read kinds.Int = as_first (word_first (codes "INT") (λ at. refl) (a_way 0))
kind_read kinds.Date = as_second (as_first (word_first (codes "DATE") (λ at. refl) (a_way 1)))
kind_read kinds.Varchar = as_second (as_second (word_first (codes "VARCHAR") (λ at. refl) (a_way 2)))

not_null_read : (b : Bool) → IsReadAs (maybe (one NOT ▸ one NULL)) (word_if b (codes "NOT") ++ word_if b (codes "NULL")) (flag_marks b)
unfolding word_kind
not_null_read true = put_in (word_first (codes "NOT") (λ at. refl) (a_word (codes "NULL") (λ at. refl)))
not_null_read false = left_out

definition_read : (d : ColumnDefinition) → IsWrittenDefinition d → IsReadAs column (column_words d) (definition_marks d)
definition_read d is = in_order (name_read d.name is) (in_order (kind_read d.kind) (not_null_read d.not_null))

cluster_read : (n : Name) → IsWrittenName n → IsReadAs cluster_by (cluster_words n) (name_marks n)
unfolding word_kind
cluster_read n is = word_first (codes "CLUSTER") (λ at. refl) (word_first (codes "BY") (λ at. refl) (in_brackets (name_read n is)))

retention_read : (n : Number) → IsWrittenNumber n → IsReadAs retention (retention_words n) (number_marks n)
unfolding word_kind sign_kind
retention_read n is = word_first (codes "DATA_RETENTION_TIME_IN_DAYS") (λ at. refl) (word_first (codes "=") (λ at. refl) (number_read n is))

options_read : (key : Option Name) (days : Option Number) → WhenThere IsWrittenName key → WhenThere IsWrittenNumber days
    → IsReadAs options (words_if cluster_words key ++ words_if retention_words days) (maybe_marks name_marks key ++ maybe_marks number_marks days)
unfolding word_kind sign_kind
options_read (Some n) days is are = as_first (in_order (cluster_read n is) (in_order (a_way 1) (when_there retention retention_words number_marks IsWrittenNumber retention_read days are)))
options_read None (Some n) is are = as_second (as_first (word_first (codes "DATA_RETENTION_TIME_IN_DAYS") (λ at. refl) (word_first (codes "=") (λ at. refl)
    (record { tokens = (number_token n.value (omega (arith, are)), tt); notes = λ at. Way 0 ∷ Meant (pos n.value) at ∷ Way 1 ∷ []; alike = λ at. refl; spelled = λ at. lone_number at n.value are }))))
options_read None None is are = as_second (as_second (in_order (a_way 0) (a_way 0)))

-- ---- new tables

front_read : (replaces : Bool) (k : TableKind) (t : TableName) → IsWrittenKind k → IsWrittenTable t
    → IsReadAs create_front (create_words replaces k ++ table_name_words t) (flag_marks replaces ++ (table_kind_marks k ++ table_marks t))
unfolding word_kind
front_read true tables.Permanent t is named = word_first (codes "CREATE") (λ at. refl) (in_order (put_in (word_first (codes "OR") (λ at. refl) (a_word (codes "REPLACE") (λ at. refl))))
    (in_order left_out (word_first (codes "TABLE") (λ at. refl) (table_read t named))))
front_read false tables.Permanent t is named = word_first (codes "CREATE") (λ at. refl) (in_order left_out (in_order left_out (word_first (codes "TABLE") (λ at. refl) (table_read t named))))
front_read true tables.Transient t is named = word_first (codes "CREATE") (λ at. refl) (in_order (put_in (word_first (codes "OR") (λ at. refl) (a_word (codes "REPLACE") (λ at. refl))))
    (in_order (put_in (a_word (codes "TRANSIENT") (λ at. refl))) (word_first (codes "TABLE") (λ at. refl) (table_read t named))))
front_read false tables.Transient t is named = word_first (codes "CREATE") (λ at. refl) (in_order left_out (in_order (put_in (a_word (codes "TRANSIENT") (λ at. refl))) (word_first (codes "TABLE") (λ at. refl) (table_read t named))))
front_read replaces tables.Temporary t is named = absurd is

created_shape : (front table columns rest : Words) → front ++ (table ++ (codes "(" ∷ (columns ++ (codes ")" ∷ rest)))) ≡ (front ++ table) ++ ((codes "(" ∷ (columns ++ (codes ")" ∷ []))) ++ rest)
created_shape front table columns rest =
    sym (append_assoc front table (codes "(" ∷ (columns ++ (codes ")" ∷ rest))))
    ∙ ap (λ x. (front ++ table) ++ (codes "(" ∷ x)) (sym (append_assoc columns (codes ")" ∷ []) rest))

pub created_read : (c : CreatedTable) → IsWrittenKind c.kind → IsWrittenTable c.table → IsListed IsWrittenDefinition c.columns → IsWrittenOptions c.options → IsReadAs create (created_words c) (create_marks c)
created_read c is named columns chosen =
    as_told (created_shape (create_words c.replaces c.kind) (table_name_words c.table) (listed_words (map column_words c.columns)) (options_words c.options)) refl
    (in_order (front_read c.replaces c.kind c.table is named)
    (in_order (in_brackets (in_list column column_words definition_marks IsWrittenDefinition definition_read c.columns columns))
    (options_read c.options.cluster_by c.options.retention chosen.0 chosen.1)))

pub cloned_read : (c : ClonedTable) → IsWrittenKind c.kind → IsWrittenTable c.table → IsWrittenSource c.source → IsReadAs clone (cloned_words c) (clone_marks c)
unfolding word_kind
cloned_read c is named source =
    as_told (sym (append_assoc (create_words c.replaces c.kind) (table_name_words c.table) (codes "CLONE" ∷ source_words c.source))) refl
    (in_order (front_read c.replaces c.kind c.table is named)
    (word_first (codes "CLONE") (λ at. refl) (in_order (table_read c.source.table source.0)
    (when_there clause clause_words clause_marks IsWrittenClause clause_read c.source.clause source.1))))

-- ---- changes of tables

change_read : (c : Change) → IsWrittenChange c → IsReadAs change_part (change_words c) (change_marks c)
unfolding word_kind
change_read (change.RenameTo t) is = as_first (word_first (codes "RENAME") (λ at. refl) (word_first (codes "TO") (λ at. refl) (with_way 0 (table_read t is))))
change_read (change.SwapWith t) is = as_second (as_first (word_first (codes "SWAP") (λ at. refl) (word_first (codes "WITH") (λ at. refl) (with_way 1 (table_read t is)))))
change_read (change.SetRetention n) is = as_second (as_second (as_first (word_first (codes "SET") (λ at. refl) (with_way 2 (retention_read n is)))))
change_read (change.ClusterBy n) is = as_second (as_second (as_second (as_first (with_way 3 (cluster_read n is)))))
change_read change.DropClusteringKey is = as_second (as_second (as_second (as_second (as_first (word_first (codes "DROP") (λ at. refl) (word_first (codes "CLUSTERING") (λ at. refl) (word_first (codes "KEY") (λ at. refl) (a_way 4))))))))
change_read change.SuspendRecluster is = as_second (as_second (as_second (as_second (as_second (as_first (word_first (codes "SUSPEND") (λ at. refl) (word_first (codes "RECLUSTER") (λ at. refl) (a_way 5))))))))
change_read change.ResumeRecluster is = as_second (as_second (as_second (as_second (as_second (as_second (word_first (codes "RESUME") (λ at. refl) (word_first (codes "RECLUSTER") (λ at. refl) (a_way 6))))))))

pub alter_read : (a : Alter) → IsWrittenTable a.table → IsWrittenChange a.change → IsReadAs alter (alter_words a) (alter_marks a)
unfolding word_kind
alter_read a table is = word_first (codes "ALTER") (λ at. refl) (word_first (codes "TABLE") (λ at. refl) (in_order (table_read a.table table) (change_read a.change is)))
