-- A query without its places is the same but for these.
use Rattle.std.proofs.Common.{◌≡◌, ℕ, List, [], ◌∷◌, ◌++◌, map, ◌≤◌, refl, sym, ap, ap₂, subst, ◌∙◌}
use Rattle.std.specs.Prelude.{codes}
use Rattle.std.specs.List.{flat_map}
use Rattle.std.proofs.lemmas.List.{length-map}
use Rattle.tt_value.specs.declared.name.ColumnName.{ColumnName}
use Rattle.tt_value.specs.declared.name.Number.{Number}
use Rattle.tt_sql.specs.declared.query.Clause.{Clause}
use Rattle.tt_sql.specs.declared.query.Item.{Item}
use Rattle.tt_sql.specs.declared.query.Item.TheVariants as item
use Rattle.tt_sql.specs.declared.query.Join.{Join}
use Rattle.tt_sql.specs.declared.query.Key.{Key}
use Rattle.tt_sql.specs.declared.query.KeyColumn.{KeyColumn}
use Rattle.tt_sql.specs.declared.query.KeyColumn.TheVariants as key
use Rattle.tt_sql.specs.declared.query.Moment.{Moment}
use Rattle.tt_sql.specs.declared.query.Moment.TheVariants as moment
use Rattle.tt_sql.specs.declared.query.Query.{Query}
use Rattle.tt_sql.specs.declared.query.Selection.{Selection}
use Rattle.tt_sql.specs.declared.query.Selection.TheVariants as selection
use Rattle.tt_sql.specs.declared.query.Side.{Side}
use Rattle.tt_sql.specs.declared.query.Side.TheVariants as side
use Rattle.tt_sql.specs.declared.query.Source.{Source}
use Rattle.tt_sql.specs.trees.Lists.{Each}
use Rattle.tt_sql.specs.grammar.Grammar.{Mark, At}
use Rattle.tt_print.specs.text.Words.{Words, separated, listed, word_if, column_name_words, number_words}
use Rattle.tt_print.specs.text.Predicates.{filter_words}
use Rattle.tt_print.specs.text.Queries.{item_words, selection_words, moment_words, side_word, clause_words, source_words, join_words, key_column_words, key_words, group_words, order_words, limit_words, query_words}
use Rattle.tt_sql.specs.marks.Expressions.{number_marks, column_marks, predicate_marks}
use Rattle.tt_sql.specs.marks.Queries.{item_marks, selection_marks, moment_marks, side_marks, clause_marks, source_marks, joins_marks, key_column_marks, key_marks, query_marks}
use Rattle.tt_print.specs.places.Marks.{unplaced}
use Rattle.tt_sql.specs.trees.Expressions.{IsWrittenColumn, IsWrittenNumber, IsWrittenPredicate}
use Rattle.tt_sql.specs.trees.Queries.{IsWrittenItem, IsWrittenSelection, IsShortNumber, IsWrittenMoment, IsWrittenClause, IsWrittenSource, IsWrittenKeyColumn, IsWrittenKey, IsWrittenQuery}
use Rattle.tt_print.specs.places.Trees.{unplaced_number, unplaced_column, unplaced_predicate, unplaced_item, unplaced_selection, unplaced_moment, unplaced_clause, unplaced_source, unplaced_join, unplaced_key_column, unplaced_key, unplaced_query}
use Rattle.tt_print.proofs.places.Parts.{Kept, both_noted, way_noted, each_right, each_written, list_right, list_written, list_noted, some_noted, maybe_right, maybe_written, maybe_noted}
use Rattle.tt_print.proofs.places.Expressions.{column_kept, table_kept, expr_kept}
use Rattle.tt_print.proofs.places.Predicates.{flag_noted, filter_kept}

pub joined : {a b c d : Words} → a ≡ b → c ≡ d → a ++ c ≡ b ++ d
joined p q = ap₂ (λ (v : Words) (w : Words). v ++ w) p q

behind : {a b : Words} (word : List ℕ) → a ≡ b → word ∷ a ≡ word ∷ b
behind word p = ap (λ (w : Words). word ∷ w) p

at_zero : {a b : List Mark} → a ≡ b → At 0 ∷ a ≡ At 0 ∷ b
at_zero p = ap (λ (m : List Mark). At 0 ∷ m) p

-- ---- items

item_kept : (levels : ℕ) (i : Item) → IsWrittenItem levels i → Kept (IsWrittenItem levels) item_words item_marks unplaced_item i
item_kept levels (item.Expr e) is = let k = expr_kept levels e is in record { right = k.right; written = k.written; noted = way_noted _ 0 k.noted }
item_kept levels (item.CountAll place) is = record { right = tt; written = refl; noted = refl }
item_kept levels (item.Count place c) is = let k = column_kept c is in record { right = k.right; written = ap (λ (w : Words). codes "COUNT" ∷ (codes "(" ∷ (w ++ (codes ")" ∷ [])))) k.written; noted = at_zero (way_noted _ 5 k.noted) }
item_kept levels (item.Sum place c) is = let k = column_kept c is in record { right = k.right; written = ap (λ (w : Words). codes "SUM" ∷ (codes "(" ∷ (w ++ (codes ")" ∷ [])))) k.written; noted = at_zero (way_noted _ 6 k.noted) }
item_kept levels (item.Min place c) is = let k = column_kept c is in record { right = k.right; written = ap (λ (w : Words). codes "MIN" ∷ (codes "(" ∷ (w ++ (codes ")" ∷ [])))) k.written; noted = at_zero (way_noted _ 7 k.noted) }
item_kept levels (item.Max place c) is = let k = column_kept c is in record { right = k.right; written = ap (λ (w : Words). codes "MAX" ∷ (codes "(" ∷ (w ++ (codes ")" ∷ [])))) k.written; noted = at_zero (way_noted _ 8 k.noted) }

selection_kept : (levels : ℕ) (s : Selection) → IsWrittenSelection levels s → Kept (IsWrittenSelection levels) selection_words selection_marks unplaced_selection s
selection_kept levels (selection.All place) is = record { right = tt; written = refl; noted = refl }
selection_kept levels (selection.Listed items) are = record {
  right = list_right (IsWrittenItem levels) item_words item_marks unplaced_item (item_kept levels) items are;
  written = ap listed (list_written (IsWrittenItem levels) item_words item_marks unplaced_item (item_kept levels) items are);
  noted = way_noted _ 1 (list_noted (IsWrittenItem levels) item_words item_marks unplaced_item (item_kept levels) items are);
}

-- ---- sources

short_kept : (n : Number) → IsShortNumber n → Kept IsShortNumber number_words number_marks unplaced_number n
short_kept n is = record { right = is; written = refl; noted = refl }

moment_kept : (m : Moment) → IsWrittenMoment m → Kept IsWrittenMoment moment_words moment_marks unplaced_moment m
moment_kept (moment.Timestamp n) is = record { right = is; written = refl; noted = refl }
moment_kept (moment.Offset o) is = record {
  right = (list_right IsShortNumber number_words number_marks unplaced_number short_kept o.factors is.0, subst (λ n. n ≤ 3) (sym (length-map o.factors unplaced_number)) is.1);
  written = ap (λ (ws : List Words). codes "OFFSET" ∷ (codes "=>" ∷ (word_if o.negative (codes "-") ++ separated (codes "*") ws))) (list_written IsShortNumber number_words number_marks unplaced_number short_kept o.factors is.0);
  noted = way_noted _ 1 (both_noted _ _ (flag_noted o.negative) (list_noted IsShortNumber number_words number_marks unplaced_number short_kept o.factors is.0));
}
moment_kept (moment.Statement q) is = record { right = is; written = refl; noted = refl }

side_noted : (s : Side) → side_marks s ≡ unplaced (side_marks s)
side_noted side.At = refl
side_noted side.Before = refl

pub clause_kept : (c : Clause) → IsWrittenClause c → Kept IsWrittenClause clause_words clause_marks unplaced_clause c
clause_kept c is =
    let k = moment_kept c.moment is in
    record { right = k.right; written = ap (λ (w : Words). side_word c.side ∷ (codes "(" ∷ (w ++ (codes ")" ∷ [])))) k.written; noted = both_noted _ _ (side_noted c.side) k.noted }

pub source_kept : (s : Source) → IsWrittenSource s → Kept IsWrittenSource source_words source_marks unplaced_source s
source_kept s is =
    let t = table_kept s.table is.0 in
    record {
      right = (t.right, maybe_right IsWrittenClause clause_words clause_marks unplaced_clause clause_kept s.clause is.1);
      written = joined t.written (maybe_written IsWrittenClause clause_words clause_marks unplaced_clause clause_kept s.clause is.1);
      noted = both_noted _ _ t.noted (maybe_noted IsWrittenClause clause_words clause_marks unplaced_clause clause_kept s.clause is.1);
    }

-- ---- groups and keys

key_column_kept : (k : KeyColumn) → IsWrittenKeyColumn k → Kept IsWrittenKeyColumn key_column_words key_column_marks unplaced_key_column k
key_column_kept (key.Column c) is = let k = column_kept c is in record { right = k.right; written = k.written; noted = way_noted _ 0 k.noted }
key_column_kept (key.Position n) is = record { right = is; written = refl; noted = refl }

key_kept : (k : Key) → IsWrittenKey k → Kept IsWrittenKey key_words key_marks unplaced_key k
key_kept k is =
    let by = key_column_kept k.by is in
    record { right = by.right; written = ap (λ (w : Words). w ++ word_if k.descending (codes "DESC")) by.written; noted = both_noted _ _ by.noted (flag_noted k.descending) }

group_written : (columns : List ColumnName) → Each IsWrittenColumn columns → group_words (map unplaced_column columns) ≡ group_words columns
group_written [] are = refl
group_written (c ∷ columns) are = ap (λ (ws : List Words). codes "GROUP" ∷ codes "BY" ∷ listed ws) (each_written IsWrittenColumn column_name_words column_marks unplaced_column column_kept (c ∷ columns) are)

order_written : (keys : List Key) → Each IsWrittenKey keys → order_words (map unplaced_key keys) ≡ order_words keys
order_written [] are = refl
order_written (k ∷ keys) are = ap (λ (ws : List Words). codes "ORDER" ∷ codes "BY" ∷ listed ws) (each_written IsWrittenKey key_words key_marks unplaced_key key_kept (k ∷ keys) are)

limit_kept : (n : Number) → IsWrittenNumber n → Kept IsWrittenNumber limit_words number_marks unplaced_number n
limit_kept n is = record { right = is; written = refl; noted = refl }

-- ---- queries

no_joins_written : (joins : List Join) → joins ≡ [] → flat_map join_words (map unplaced_join joins) ≡ flat_map join_words joins
no_joins_written joins none = ap (λ (js : List Join). flat_map join_words (map unplaced_join js)) none ∙ sym (ap (λ (js : List Join). flat_map join_words js) none)

no_joins_noted : (joins : List Join) → joins ≡ [] → joins_marks (map unplaced_join joins) ≡ unplaced (joins_marks joins)
no_joins_noted joins none = ap (λ (js : List Join). joins_marks (map unplaced_join js)) none ∙ sym (ap (λ (js : List Join). unplaced (joins_marks js)) none)

pub query_kept : (levels : ℕ) (q : Query) → IsWrittenQuery levels q → Kept (IsWrittenQuery levels) query_words query_marks unplaced_query q
query_kept levels q is =
    let things = selection_kept levels q.selection is.selection in
    let table = table_kept q.first.table is.table.0 in
    let whole = source_kept q.first is.table in
    record {
      right = record {
        selection = things.right;
        table = whole.right;
        joins = ap (λ (js : List Join). map unplaced_join js) is.joins;
        filter = maybe_right (IsWrittenPredicate levels) filter_words predicate_marks unplaced_predicate (filter_kept levels) q.filter is.filter;
        group = each_right IsWrittenColumn column_name_words column_marks unplaced_column column_kept q.group is.group;
        order = each_right IsWrittenKey key_words key_marks unplaced_key key_kept q.order is.order;
        limit = maybe_right IsWrittenNumber limit_words number_marks unplaced_number limit_kept q.limit is.limit;
      };
      written = joined (behind (codes "SELECT") (joined things.written (behind (codes "FROM") (joined whole.written (no_joins_written q.joins is.joins)))))
          (joined (maybe_written (IsWrittenPredicate levels) filter_words predicate_marks unplaced_predicate (filter_kept levels) q.filter is.filter)
          (joined (group_written q.group is.group) (joined (order_written q.order is.order)
          (maybe_written IsWrittenNumber limit_words number_marks unplaced_number limit_kept q.limit is.limit))));
      noted = at_zero (both_noted _ _ things.noted (both_noted _ _ table.noted
          (both_noted _ _ (maybe_noted IsWrittenClause clause_words clause_marks unplaced_clause clause_kept q.first.clause is.table.1)
          (both_noted _ _ (no_joins_noted q.joins is.joins)
          (both_noted _ _ (maybe_noted (IsWrittenPredicate levels) filter_words predicate_marks unplaced_predicate (filter_kept levels) q.filter is.filter)
          (both_noted _ _ (some_noted IsWrittenColumn column_name_words column_marks unplaced_column column_kept q.group is.group)
          (both_noted _ _ (some_noted IsWrittenKey key_words key_marks unplaced_key key_kept q.order is.order)
          (maybe_noted IsWrittenNumber limit_words number_marks unplaced_number limit_kept q.limit is.limit))))))));
    }
