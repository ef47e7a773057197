-- Statements that change rows are read again.
use Rattle.std.proofs.Common.{ℕ, List, refl}
use Rattle.std.specs.Prelude.{codes}
use Rattle.tt_value.specs.declared.name.Name.{Name}
use Rattle.tt_sql.specs.declared.change.Copy.{Copy}
use Rattle.tt_sql.specs.declared.change.Delete.{Delete}
use Rattle.tt_sql.specs.declared.change.Insert.{Insert}
use Rattle.tt_sql.specs.declared.change.InsertSource.{InsertSource}
use Rattle.tt_sql.specs.declared.change.InsertSource.TheVariants as source
use Rattle.tt_sql.specs.declared.change.Set.{Set}
use Rattle.tt_sql.specs.declared.change.Tuple.{Tuple}
use Rattle.tt_sql.specs.declared.change.Update.{Update}
use Rattle.tt_sql.specs.trees.Lists.{IsListed, WhenThere}
use Rattle.tt_sql.specs.grammar.Combinators.{◌▸◌, ◌∣◌, one, way, name, brackets, listed}
use Rattle.tt_sql.specs.grammar.TokenKinds.{VALUES, WHERE, word_kind, sign_kind}
use Rattle.tt_print.specs.text.Words.{name_words, literal_words}
use Rattle.tt_print.specs.text.Predicates.{filter_words}
use Rattle.tt_print.specs.text.Changes.{column_list_words, tuple_words, insert_source_words, insert_words, set_words, update_words, delete_words, copy_words}
use Rattle.tt_sql.specs.marks.Expressions.{name_marks, literal_marks, predicate_marks}
use Rattle.tt_sql.specs.marks.Changes.{names_marks, tuple_marks, insert_source_marks, insert_marks, set_marks, update_marks, delete_marks, copy_marks}
use Rattle.tt_sql.specs.grammar.Written.{literal, pred, query, tuple, insert, set, update, delete, copy}
use Rattle.tt_print.specs.again.Spelling.{IsReadAs}
use Rattle.tt_sql.specs.trees.Expressions.{IsWrittenName, IsWrittenTable, IsWrittenQuoted, IsWrittenLiteral, IsWrittenPredicate}
use Rattle.tt_sql.specs.trees.Statements.{IsWrittenTuple, IsWrittenInsertSource, IsWrittenSet}
use Rattle.tt_print.proofs.again.Parts.{in_order, as_first, as_second, word_first, word_last, with_way, word_placed, in_list, when_there, in_brackets}
use Rattle.tt_print.proofs.again.Expressions.{name_read, table_read, literal_read, quoted_read, expr_read}
use Rattle.tt_print.proofs.again.Predicates.{filter_read}
use Rattle.tt_print.proofs.again.Queries.{query_read}

names_read : (names : List Name) → IsListed IsWrittenName names → IsReadAs (brackets (listed name)) (column_list_words names) (names_marks names)
names_read names are = in_brackets (in_list name name_words name_marks IsWrittenName name_read names are)

tuple_read : (t : Tuple) → IsWrittenTuple t → IsReadAs tuple (tuple_words t) (tuple_marks t)
unfolding sign_kind
tuple_read t are = in_order (word_placed (codes "(") t.place (λ at. refl) (λ at. refl)) (word_last (codes ")") (λ at. refl) (in_list literal literal_words literal_marks IsWrittenLiteral literal_read t.values are))

source_read : (levels : ℕ) (s : InsertSource) → IsWrittenInsertSource levels s → IsReadAs (one VALUES ▸ listed tuple ▸ way 0 ∣ query levels ▸ way 1) (insert_source_words s) (insert_source_marks s)
unfolding word_kind
source_read levels (source.Values tuples) are = as_first (word_first (codes "VALUES") (λ at. refl) (with_way 0 (in_list tuple tuple_words tuple_marks IsWrittenTuple tuple_read tuples are)))
source_read levels (source.Query q) is = as_second (with_way 1 (query_read levels q is))

pub insert_read : (levels : ℕ) (i : Insert) → IsWrittenTable i.table → WhenThere (IsListed IsWrittenName) i.columns → IsWrittenInsertSource levels i.source → IsReadAs (insert levels) (insert_words i) (insert_marks i)
unfolding word_kind
insert_read levels i table names rows =
    word_first (codes "INSERT") (λ at. refl) (word_first (codes "INTO") (λ at. refl) (in_order (table_read i.table table)
    (in_order (when_there (brackets (listed name)) column_list_words names_marks (IsListed IsWrittenName) names_read i.columns names) (source_read levels i.source rows))))

set_read : (levels : ℕ) (s : Set) → IsWrittenSet levels s → IsReadAs (set levels) (set_words s) (set_marks s)
unfolding sign_kind
set_read levels s is = in_order (name_read s.column is.0) (word_first (codes "=") (λ at. refl) (expr_read levels s.value is.1))

pub update_read : (levels : ℕ) (u : Update) → IsWrittenTable u.table → IsListed (IsWrittenSet levels) u.sets → WhenThere (IsWrittenPredicate levels) u.filter → IsReadAs (update levels) (update_words u) (update_marks u)
unfolding word_kind
update_read levels u table sets filter =
    word_first (codes "UPDATE") (λ at. refl) (in_order (table_read u.table table) (word_first (codes "SET") (λ at. refl)
    (in_order (in_list (set levels) set_words set_marks (IsWrittenSet levels) (set_read levels) u.sets sets)
    (when_there (one WHERE ▸ pred levels) filter_words predicate_marks (IsWrittenPredicate levels) (filter_read levels) u.filter filter))))

pub delete_read : (levels : ℕ) (d : Delete) → IsWrittenTable d.table → WhenThere (IsWrittenPredicate levels) d.filter → IsReadAs (delete levels) (delete_words d) (delete_marks d)
unfolding word_kind
delete_read levels d table filter =
    word_first (codes "DELETE") (λ at. refl) (word_first (codes "FROM") (λ at. refl) (in_order (table_read d.table table)
    (when_there (one WHERE ▸ pred levels) filter_words predicate_marks (IsWrittenPredicate levels) (filter_read levels) d.filter filter)))

pub copy_read : (c : Copy) → IsWrittenTable c.table → IsWrittenQuoted c.file → IsReadAs copy (copy_words c) (copy_marks c)
unfolding word_kind
copy_read c table text = word_first (codes "COPY") (λ at. refl) (word_first (codes "INTO") (λ at. refl) (in_order (table_read c.table table) (word_first (codes "FROM") (λ at. refl) (quoted_read c.file text))))
