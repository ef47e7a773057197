-- Queries are read again.
use Rattle.std.proofs.Common.{◌≡◌, ℕ, Bool, true, false, List, [], ◌∷◌, ◌++◌, map, refl, ap, ◌∙◌, append_assoc}
use Rattle.std.specs.Prelude.{codes}
use Rattle.std.specs.List.{flat_map}
use Rattle.std.proofs.lemmas.List.{append-nil}
use Rattle.tt_value.specs.declared.name.ColumnName.{ColumnName}
use Rattle.tt_value.specs.declared.name.Number.{Number}
use Rattle.tt_sql.specs.declared.query.Item.{Item}
use Rattle.tt_sql.specs.declared.query.Item.TheVariants as item
use Rattle.tt_sql.specs.declared.query.Join.{Join}
use Rattle.tt_sql.specs.declared.query.Key.{Key}
use Rattle.tt_sql.specs.declared.query.KeyColumn.{KeyColumn}
use Rattle.tt_sql.specs.declared.query.KeyColumn.TheVariants as key
use Rattle.tt_sql.specs.declared.query.Query.{Query}
use Rattle.tt_sql.specs.declared.query.Selection.{Selection}
use Rattle.tt_sql.specs.declared.query.Selection.TheVariants as selection
use Rattle.tt_sql.specs.trees.Lists.{Each}
use Rattle.tt_sql.specs.grammar.Grammar.{Mark, At}
use Rattle.tt_sql.specs.grammar.Combinators.{◌▸◌, ◌∣◌, one, way, name, number, maybe, listed}
use Rattle.tt_sql.specs.grammar.TokenKinds.{GROUP, BY, ORDER, LIMIT, ASC, DESC, WHERE, word_kind, sign_kind}
use Rattle.tt_print.specs.text.Words.{Words, words_if, word_if, column_name_words, table_name_words}
use Rattle.tt_print.specs.text.Predicates.{filter_words}
use Rattle.tt_print.specs.text.Queries.{item_words, selection_words, clause_words, join_words, key_column_words, key_words, group_words, order_words, limit_words, narrowed_words, query_words}
use Rattle.tt_sql.specs.marks.Expressions.{maybe_marks, flag_marks, number_marks, column_marks, table_marks, predicate_marks}
use Rattle.tt_sql.specs.marks.Queries.{item_marks, selection_marks, clause_marks, joins_marks, key_column_marks, key_marks, maybe_listed, query_marks}
use Rattle.tt_sql.specs.grammar.Written.{pred, clause, item as item_part, items, key as key_part, query_end, query}
use Rattle.tt_print.specs.again.Spelling.{IsReadAs}
use Rattle.tt_sql.specs.trees.Expressions.{IsWrittenColumn, IsWrittenNumber, IsWrittenPredicate}
use Rattle.tt_sql.specs.trees.Queries.{IsWrittenItem, IsWrittenSelection, IsWrittenClause, IsWrittenKeyColumn, IsWrittenKey, IsWrittenQuery}
use Rattle.tt_print.proofs.again.Parts.{as_told, in_order, as_first, as_second, a_word, a_way, word_first, with_way, word_placed, in_list, when_there, put_in, left_out, in_brackets}
use Rattle.tt_print.proofs.again.Expressions.{column_read, table_read, number_read, expr_read}
use Rattle.tt_print.proofs.again.Predicates.{filter_read}
use Rattle.tt_print.proofs.again.Moments.{clause_read}

-- ---- items

item_read : (levels : ℕ) (i : Item) → IsWrittenItem levels i → IsReadAs (item_part levels) (item_words i) (item_marks i)
unfolding word_kind sign_kind
item_read levels (item.Expr e) is = as_first (with_way 0 (expr_read levels e is))
item_read levels (item.CountAll place) is = as_second (as_first (in_order (word_placed (codes "COUNT") place (λ at. refl) (λ at. refl)) (with_way 4 (in_brackets (a_word (codes "*") (λ at. refl))))))
item_read levels (item.Count place c) is = as_second (as_second (as_first (in_order (word_placed (codes "COUNT") place (λ at. refl) (λ at. refl)) (with_way 5 (in_brackets (column_read c is))))))
item_read levels (item.Sum place c) is = as_second (as_second (as_second (as_first (in_order (word_placed (codes "SUM") place (λ at. refl) (λ at. refl)) (with_way 6 (in_brackets (column_read c is)))))))
item_read levels (item.Min place c) is = as_second (as_second (as_second (as_second (as_first (in_order (word_placed (codes "MIN") place (λ at. refl) (λ at. refl)) (with_way 7 (in_brackets (column_read c is))))))))
item_read levels (item.Max place c) is = as_second (as_second (as_second (as_second (as_second (in_order (word_placed (codes "MAX") place (λ at. refl) (λ at. refl)) (with_way 8 (in_brackets (column_read c is))))))))

selection_read : (levels : ℕ) (s : Selection) → IsWrittenSelection levels s → IsReadAs (items levels) (selection_words s) (selection_marks s)
unfolding sign_kind
selection_read levels (selection.All place) is = as_first (with_way 0 (word_placed (codes "*") place (λ at. refl) (λ at. refl)))
selection_read levels (selection.Listed things) are = as_second (with_way 1 (in_list (item_part levels) item_words item_marks (IsWrittenItem levels) (item_read levels) things are))

-- ---- groups, keys and limits

group_read : (columns : List ColumnName) → Each IsWrittenColumn columns → IsReadAs (maybe (one GROUP ▸ one BY ▸ listed name)) (group_words columns) (maybe_listed (map column_marks columns))
unfolding word_kind
group_read [] are = left_out
group_read (c ∷ columns) are = put_in (word_first (codes "GROUP") (λ at. refl) (word_first (codes "BY") (λ at. refl) (in_list name column_name_words column_marks IsWrittenColumn column_read (c ∷ columns) are)))

key_column_read : (k : KeyColumn) → IsWrittenKeyColumn k → IsReadAs (name ▸ way 0 ∣ number ▸ way 1) (key_column_words k) (key_column_marks k)
key_column_read (key.Column c) is = as_first (with_way 0 (column_read c is))
key_column_read (key.Position n) is = as_second (with_way 1 (number_read n is))

direction_read : (descending : Bool) → IsReadAs (one ASC ▸ way 0 ∣ one DESC ▸ way 1 ∣ way 0) (word_if descending (codes "DESC")) (flag_marks descending)
unfolding word_kind
direction_read true = as_second (as_first (word_first (codes "DESC") (λ at. refl) (a_way 1)))
direction_read false = as_second (as_second (a_way 0))

key_read : (k : Key) → IsWrittenKey k → IsReadAs key_part (key_words k) (key_marks k)
key_read k is = in_order (key_column_read k.by is) (direction_read k.descending)

order_read : (keys : List Key) → Each IsWrittenKey keys → IsReadAs (maybe (one ORDER ▸ one BY ▸ listed key_part)) (order_words keys) (maybe_listed (map key_marks keys))
unfolding word_kind
order_read [] are = left_out
order_read (k ∷ keys) are = put_in (word_first (codes "ORDER") (λ at. refl) (word_first (codes "BY") (λ at. refl) (in_list key_part key_words key_marks IsWrittenKey key_read (k ∷ keys) are)))

limit_read : (n : Number) → IsWrittenNumber n → IsReadAs (one LIMIT ▸ number) (limit_words n) (number_marks n)
unfolding word_kind
limit_read n is = word_first (codes "LIMIT") (λ at. refl) (number_read n is)

-- ---- queries

shape : (things table moment rest : Words) → (codes "SELECT" ∷ (things ++ (codes "FROM" ∷ ((table ++ moment) ++ [])))) ++ rest ≡ codes "SELECT" ∷ (things ++ (codes "FROM" ∷ (table ++ (moment ++ rest))))
shape things table moment rest =
    ap (λ x. codes "SELECT" ∷ x) (append_assoc things (codes "FROM" ∷ ((table ++ moment) ++ [])) rest
    ∙ ap (λ x. things ++ (codes "FROM" ∷ x)) (ap (λ x. x ++ rest) (append-nil (table ++ moment)) ∙ append_assoc table moment rest))

query_words_are : (q : Query) → q.joins ≡ [] → query_words q ≡ codes "SELECT" ∷ (selection_words q.selection ++ (codes "FROM" ∷ (table_name_words q.first.table ++ (words_if clause_words q.first.clause ++ narrowed_words q))))
query_words_are q none =
    let moment = words_if clause_words q.first.clause in
    ap (λ (joins : List Join). (codes "SELECT" ∷ (selection_words q.selection ++ (codes "FROM" ∷ ((table_name_words q.first.table ++ moment) ++ flat_map join_words joins)))) ++ narrowed_words q) none
    ∙ shape (selection_words q.selection) (table_name_words q.first.table) moment (narrowed_words q)

-- with these further tables
end_marks : Query → List Join → List Mark
end_marks q joins = maybe_marks clause_marks q.first.clause
    ++ (joins_marks joins
    ++ (maybe_marks predicate_marks q.filter
    ++ (maybe_listed (map column_marks q.group)
    ++ (maybe_listed (map key_marks q.order)
    ++ maybe_marks number_marks q.limit))))

query_marks_are : (q : Query) → q.joins ≡ [] → query_marks q ≡ At q.place ∷ (selection_marks q.selection ++ (table_marks q.first.table ++ end_marks q []))
unfolding end_marks
query_marks_are q none = ap (λ (joins : List Join). At q.place ∷ (selection_marks q.selection ++ (table_marks q.first.table ++ end_marks q joins))) none

end_read : (levels : ℕ) (q : Query) → IsWrittenQuery levels q → IsReadAs (query_end levels) (words_if clause_words q.first.clause ++ narrowed_words q) (end_marks q [])
unfolding end_marks
end_read levels q is =
    in_order (when_there clause clause_words clause_marks IsWrittenClause clause_read q.first.clause is.table.1)
    (in_order (a_way 0)
    (in_order (when_there (one WHERE ▸ pred levels) filter_words predicate_marks (IsWrittenPredicate levels) (filter_read levels) q.filter is.filter)
    (in_order (group_read q.group is.group)
    (in_order (order_read q.order is.order)
    (when_there (one LIMIT ▸ number) limit_words number_marks IsWrittenNumber limit_read q.limit is.limit)))))

pub query_read : (levels : ℕ) (q : Query) → IsWrittenQuery levels q → IsReadAs (query levels) (query_words q) (query_marks q)
unfolding word_kind
query_read levels q is = as_told (query_words_are q is.joins) (query_marks_are q is.joins)
    (in_order (word_placed (codes "SELECT") q.place (λ at. refl) (λ at. refl))
    (in_order (selection_read levels q.selection is.selection)
    (word_first (codes "FROM") (λ at. refl) (in_order (table_read q.first.table is.table.0) (end_read levels q is)))))
