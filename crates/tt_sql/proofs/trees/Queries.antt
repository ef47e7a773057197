-- The tree of a query's derivation.
use Rattle.std.proofs.Common.{◌≡◌, ℕ, ◌≤◌, true, false, List, [], ◌∷◌, ◌++◌, map, refl, sym, ap, ap₂, ◌∙◌, append_assoc, length, arith}
use Rattle.std.specs.Prelude.{ℤ}
use Rattle.tt_value.specs.declared.name.Number.{Number}
use Rattle.tt_value.specs.declared.name.ColumnName.{ColumnName}
use Rattle.tt_sql.specs.declared.query.Item.TheVariants as items
use Rattle.tt_sql.specs.declared.query.Key.{Key}
use Rattle.tt_sql.specs.declared.query.KeyColumn.TheVariants as keys
use Rattle.tt_sql.specs.declared.query.Moment.TheVariants as moments
use Rattle.tt_sql.specs.declared.query.Selection.TheVariants as selections
use Rattle.tt_sql.specs.declared.query.Side.TheVariants as sides
use Rattle.tt_sql.specs.grammar.Grammar.{Lexeme, Mark, Way, At, Meant, Note, nowhere}
use Rattle.tt_sql.specs.grammar.TokenKinds.{AT, BEFORE, WHERE, GROUP, BY, ORDER, LIMIT, ASC, DESC, MINUS, TIME_TEXT}
use Rattle.tt_sql.specs.grammar.Combinators.{◌▸◌, ◌∣◌, one, way, name, number, maybe, listed, quoted_moment, as_moment, moment_mark}
use Rattle.tt_sql.specs.grammar.Written.{item, key, product, moment, clause, pred, query, items as selection}
use Rattle.tt_sql.specs.marks.Expressions.{listed_marks, maybe_marks, flag_marks, number_marks, column_marks, table_marks, quoted_marks, expr_marks, predicate_marks}
use Rattle.tt_sql.specs.marks.Queries.{item_marks, selection_marks, moment_marks, side_marks, clause_marks, key_column_marks, key_marks, maybe_listed, query_marks}
use Rattle.tt_sql.specs.trees.Lists.{Each, IsListed, WhenThere}
use Rattle.tt_sql.specs.trees.Expressions.{IsWrittenColumn, IsWrittenTable, IsWrittenNumber, IsWrittenQuoted, IsWrittenExpr, IsWrittenPredicate}
use Rattle.tt_sql.specs.trees.Queries.{IsWrittenItem, IsWrittenSelection, IsShortNumber, IsWrittenMoment, IsWrittenClause, IsWrittenKeyColumn, IsWrittenKey, IsWrittenQuery}
use Rattle.tt_sql.specs.trees.Leaves.{IsMoment}
use Rattle.tt_sql.proofs.grammar.LexemeTexts.{moment_known}
use Rattle.tt_sql.proofs.grammar.Lexemes.{only, has_moment}
use Rattle.tt_sql.proofs.grammar.Derivations.{Part, word, noted, pair, first, second}
use Rattle.tt_sql.proofs.trees.Leaves.{Tree, HasTrees, IsAny, joined_marks, no_end, column_trees, table_trees, number_trees, short_number_trees, quoted_trees, flag_trees, behind_word, listed_trees, maybe_trees, maybe_listed_trees}
use Rattle.tt_sql.proofs.trees.Expressions.{expr_trees}
use Rattle.tt_sql.proofs.trees.Predicates.{predicate_trees}

-- ---- items

expr_item : (levels : ℕ) (m : List Mark) → Tree expr_marks (IsWrittenExpr levels) m → Tree item_marks (IsWrittenItem levels) (m ++ Way 0 ∷ [])
expr_item levels m e = record { tree = items.Expr e.tree; given = e.given; same = ap (λ (x : List Mark). x ++ Way 0 ∷ []) e.same }

count_item : (levels place : ℕ) (m : List Mark) → Tree column_marks IsWrittenColumn m → Tree item_marks (IsWrittenItem levels) (At place ∷ ((m ++ []) ++ Way 5 ∷ []))
count_item levels place m c = let d = no_end m c in record { tree = items.Count place d.tree; given = d.given; same = ap (λ (x : List Mark). At place ∷ (x ++ Way 5 ∷ [])) d.same }

sum_item : (levels place : ℕ) (m : List Mark) → Tree column_marks IsWrittenColumn m → Tree item_marks (IsWrittenItem levels) (At place ∷ ((m ++ []) ++ Way 6 ∷ []))
sum_item levels place m c = let d = no_end m c in record { tree = items.Sum place d.tree; given = d.given; same = ap (λ (x : List Mark). At place ∷ (x ++ Way 6 ∷ [])) d.same }

min_item : (levels place : ℕ) (m : List Mark) → Tree column_marks IsWrittenColumn m → Tree item_marks (IsWrittenItem levels) (At place ∷ ((m ++ []) ++ Way 7 ∷ []))
min_item levels place m c = let d = no_end m c in record { tree = items.Min place d.tree; given = d.given; same = ap (λ (x : List Mark). At place ∷ (x ++ Way 7 ∷ [])) d.same }

max_item : (levels place : ℕ) (m : List Mark) → Tree column_marks IsWrittenColumn m → Tree item_marks (IsWrittenItem levels) (At place ∷ ((m ++ []) ++ Way 8 ∷ []))
max_item levels place m c = let d = no_end m c in record { tree = items.Max place d.tree; given = d.given; same = ap (λ (x : List Mark). At place ∷ (x ++ Way 8 ∷ [])) d.same }

item_trees : (levels : ℕ) → HasTrees (item levels) item_marks (IsWrittenItem levels)
item_trees levels done m after (first (pair {between = b} {m = x} p noted)) = expr_item levels x (expr_trees levels done x b p)
item_trees levels done m after (second (first (pair (pair (word {t = t} e is) noted) (pair (pair (word f was) (pair (word g had) (word h has))) noted)))) = record { tree = items.CountAll t.place; given = tt; same = refl }
item_trees levels done m after (second (second (first (pair (pair (word {t = t} e is) noted) (pair (pair (word {t = s} f was) (pair {between = b} {m = x} p (word h has))) noted))))) = count_item levels t.place x (column_trees (s ∷ t ∷ done) x b p)
item_trees levels done m after (second (second (second (first (pair (pair (word {t = t} e is) noted) (pair (pair (word {t = s} f was) (pair {between = b} {m = x} p (word h has))) noted)))))) = sum_item levels t.place x (column_trees (s ∷ t ∷ done) x b p)
item_trees levels done m after (second (second (second (second (first (pair (pair (word {t = t} e is) noted) (pair (pair (word {t = s} f was) (pair {between = b} {m = x} p (word h has))) noted))))))) = min_item levels t.place x (column_trees (s ∷ t ∷ done) x b p)
item_trees levels done m after (second (second (second (second (second (pair (pair (word {t = t} e is) noted) (pair (pair (word {t = s} f was) (pair {between = b} {m = x} p (word h has))) noted))))))) = max_item levels t.place x (column_trees (s ∷ t ∷ done) x b p)

items_listed : (levels : ℕ) (m : List Mark) → Tree (λ xs. listed_marks (map item_marks xs)) (IsListed (IsWrittenItem levels)) m → Tree selection_marks (IsWrittenSelection levels) (m ++ Way 1 ∷ [])
items_listed levels m xs = record { tree = selections.Listed xs.tree; given = xs.given; same = ap (λ (x : List Mark). x ++ Way 1 ∷ []) xs.same }

selection_trees : (levels : ℕ) → HasTrees (selection levels) selection_marks (IsWrittenSelection levels)
selection_trees levels done m after (first (pair (pair (word {t = t} e is) noted) noted)) = record { tree = selections.All t.place; given = tt; same = refl }
selection_trees levels done m after (second (pair {between = b} {m = x} p noted)) = items_listed levels x (listed_trees (item levels) item_marks (IsWrittenItem levels) (item_trees levels) done x b p)

-- ---- moments

abbrev factors_marks : List Number → List Mark
factors_marks factors = listed_marks (map number_marks factors)

abbrev AreFactors : List Number → Type 0
AreFactors factors = IsListed IsShortNumber factors × (length factors ≤ 3)

one_factor : (i : List Mark) → Tree number_marks IsShortNumber i → Tree factors_marks AreFactors (i ++ Way 0 ∷ [])
one_factor i a = record { tree = a.tree ∷ []; given = ((a.given, tt), omega arith); same = ap (λ (x : List Mark). x ++ Way 0 ∷ []) a.same }

two_factors : (i j : List Mark) → Tree number_marks IsShortNumber i → Tree number_marks IsShortNumber j → Tree factors_marks AreFactors (i ++ Way 1 ∷ (j ++ Way 0 ∷ []))
two_factors i j a b = record { tree = a.tree ∷ b.tree ∷ []; given = ((a.given, (b.given, tt)), omega arith); same = joined_marks a.same (ap (λ (x : List Mark). Way 1 ∷ (x ++ Way 0 ∷ [])) b.same) }

three_factors : (i j k : List Mark) → Tree number_marks IsShortNumber i → Tree number_marks IsShortNumber j → Tree number_marks IsShortNumber k → Tree factors_marks AreFactors (i ++ Way 1 ∷ (j ++ Way 1 ∷ (k ++ Way 0 ∷ [])))
three_factors i j k a b c = record { tree = a.tree ∷ b.tree ∷ c.tree ∷ []; given = ((a.given, (b.given, (c.given, tt))), omega arith); same = joined_marks a.same (ap₂ (λ (x : List Mark) (y : List Mark). Way 1 ∷ (x ++ Way 1 ∷ (y ++ Way 0 ∷ []))) b.same c.same) }

product_trees : HasTrees product factors_marks AreFactors
product_trees done m after (pair {between = b} {m = i} p (second noted)) = one_factor i (short_number_trees done i b p)
product_trees done m after (pair {between = b} {m = i} p (first (pair noted (pair {between = c} (word e is) (pair {between = d} {m = j} q (second noted)))))) = two_factors i j (short_number_trees done i b p) (short_number_trees c j d q)
product_trees done m after (pair {between = b} {m = i} p (first (pair noted (pair {between = c} (word e is) (pair {between = d} {m = j} q (first (pair noted (pair {between = h} (word f was) (pair {between = l} {m = k} r noted))))))))) =
    three_factors i j k (short_number_trees done i b p) (short_number_trees c j d q) (short_number_trees h k l r)

abbrev time_marks : ℤ → List Mark
time_marks n = Meant n 0 ∷ []

note_is : (f : List Lexeme → List Mark) (done : List Lexeme) (m : List Mark) (after : List Lexeme) → Part (Note f) done m after → f done ≡ m
note_is f done m after noted = refl

time_trees : HasTrees quoted_moment time_marks IsMoment
time_trees done m after (pair {n = i} (word {t = t} e is) p) = let n = has_moment t is (only TIME_TEXT t.kind e) in record { tree = n.0; given = moment_known t.text n.0 n.1; same = ap moment_mark (sym n.1) ∙ note_is as_moment (t ∷ done) i after p }

time_moment : (m : List Mark) → Tree time_marks IsMoment m → Tree moment_marks IsWrittenMoment (m ++ Way 0 ∷ [])
time_moment m n = record { tree = moments.Timestamp n.tree; given = n.given; same = ap (λ (x : List Mark). x ++ Way 0 ∷ []) n.same }

offset_moment : (i j : List Mark) → Tree flag_marks IsAny i → Tree factors_marks AreFactors j → Tree moment_marks IsWrittenMoment (i ++ (j ++ Way 1 ∷ []))
offset_moment i j a b = record { tree = moments.Offset (record { negative = a.tree; factors = b.tree }); given = b.given; same = append_assoc (flag_marks a.tree) (factors_marks b.tree) (Way 1 ∷ []) ∙ joined_marks a.same (ap (λ (x : List Mark). x ++ Way 1 ∷ []) b.same) }

statement_moment : (m : List Mark) → Tree quoted_marks IsWrittenQuoted m → Tree moment_marks IsWrittenMoment (m ++ Way 2 ∷ [])
statement_moment m q = record { tree = moments.Statement q.tree; given = q.given; same = ap (λ (x : List Mark). x ++ Way 2 ∷ []) q.same }

moment_trees : HasTrees moment moment_marks IsWrittenMoment
moment_trees done m after (first (pair (word e is) (pair {between = b} (word f was) (pair {between = c} {m = i} p (first (pair (word g had) (pair (word h has) noted))))))) = time_moment i (time_trees b i c p)
moment_trees done m after (first (pair (word e is) (pair {between = b} (word f was) (pair {between = c} {m = i} p (second noted))))) = time_moment i (time_trees b i c p)
moment_trees done m after (second (first (pair (word e is) (pair {between = b} (word f was) (pair {between = c} {m = i} p (pair {between = d} {m = j} q noted)))))) = offset_moment i j (flag_trees MINUS nowhere b i c p) (product_trees c j d q)
moment_trees done m after (second (second (pair (word e is) (pair {between = b} (word f was) (pair {between = c} {m = i} p noted))))) = statement_moment i (quoted_trees b i c p)

side_trees : HasTrees (one AT ▸ way 1 ∣ one BEFORE ▸ way 2) side_marks IsAny
side_trees done m after (first (pair (word e is) noted)) = record { tree = sides.At; given = tt; same = refl }
side_trees done m after (second (pair (word e is) noted)) = record { tree = sides.Before; given = tt; same = refl }

clause_from : (i j : List Mark) → Tree side_marks IsAny i → Tree moment_marks IsWrittenMoment j → Tree clause_marks IsWrittenClause (i ++ j)
clause_from i j a b = record { tree = record { side = a.tree; moment = b.tree }; given = b.given; same = joined_marks a.same b.same }

pub clause_trees : HasTrees clause clause_marks IsWrittenClause
clause_trees done m after (pair {between = b} {m = i} p (pair {between = c} (word e is) (pair {between = d} {m = j} q (word f was)))) = clause_from i (j ++ []) (side_trees done i b p) (no_end j (moment_trees c j d q))

-- ---- keys

column_key : (m : List Mark) → Tree column_marks IsWrittenColumn m → Tree key_column_marks IsWrittenKeyColumn (m ++ Way 0 ∷ [])
column_key m c = record { tree = keys.Column c.tree; given = c.given; same = ap (λ (x : List Mark). x ++ Way 0 ∷ []) c.same }

position_key : (m : List Mark) → Tree number_marks IsWrittenNumber m → Tree key_column_marks IsWrittenKeyColumn (m ++ Way 1 ∷ [])
position_key m n = record { tree = keys.Position n.tree; given = n.given; same = ap (λ (x : List Mark). x ++ Way 1 ∷ []) n.same }

key_column_trees : HasTrees (name ▸ way 0 ∣ number ▸ way 1) key_column_marks IsWrittenKeyColumn
key_column_trees done m after (first (pair {between = b} {m = i} p noted)) = column_key i (column_trees done i b p)
key_column_trees done m after (second (pair {between = b} {m = i} p noted)) = position_key i (number_trees done i b p)

descending_trees : HasTrees (one ASC ▸ way 0 ∣ one DESC ▸ way 1 ∣ way 0) flag_marks IsAny
descending_trees done m after (first (pair (word e is) noted)) = record { tree = false; given = tt; same = refl }
descending_trees done m after (second (first (pair (word e is) noted))) = record { tree = true; given = tt; same = refl }
descending_trees done m after (second (second noted)) = record { tree = false; given = tt; same = refl }

key_from : (i j : List Mark) → Tree key_column_marks IsWrittenKeyColumn i → Tree flag_marks IsAny j → Tree key_marks IsWrittenKey (i ++ j)
key_from i j a b = record { tree = record { by = a.tree; descending = b.tree }; given = a.given; same = joined_marks a.same b.same }

key_trees : HasTrees key key_marks IsWrittenKey
key_trees done m after (pair {between = b} {m = i} {n = j} p q) = key_from i j (key_column_trees done i b p) (descending_trees b j after q)

-- ---- queries

pub filter_trees : (levels : ℕ) → HasTrees (maybe (one WHERE ▸ pred levels)) (maybe_marks predicate_marks) (WhenThere (IsWrittenPredicate levels))
filter_trees levels = maybe_trees (one WHERE ▸ pred levels) predicate_marks (IsWrittenPredicate levels) (behind_word WHERE nowhere (pred levels) predicate_marks (IsWrittenPredicate levels) (predicate_trees levels))

abbrev columns_marks : List ColumnName → List Mark
columns_marks columns = listed_marks (map column_marks columns)

group_trees : HasTrees (maybe (one GROUP ▸ one BY ▸ listed name)) (λ xs. maybe_listed (map column_marks xs)) (Each IsWrittenColumn)
group_trees = maybe_listed_trees (one GROUP ▸ one BY ▸ listed name) column_marks IsWrittenColumn (behind_word GROUP nowhere (one BY ▸ listed name) columns_marks (IsListed IsWrittenColumn) (behind_word BY nowhere (listed name) columns_marks (IsListed IsWrittenColumn) (listed_trees name column_marks IsWrittenColumn column_trees)))

abbrev keys_marks : List Key → List Mark
keys_marks ks = listed_marks (map key_marks ks)

order_trees : HasTrees (maybe (one ORDER ▸ one BY ▸ listed key)) (λ xs. maybe_listed (map key_marks xs)) (Each IsWrittenKey)
order_trees = maybe_listed_trees (one ORDER ▸ one BY ▸ listed key) key_marks IsWrittenKey (behind_word ORDER nowhere (one BY ▸ listed key) keys_marks (IsListed IsWrittenKey) (behind_word BY nowhere (listed key) keys_marks (IsListed IsWrittenKey) (listed_trees key key_marks IsWrittenKey key_trees)))

limit_trees : HasTrees (maybe (one LIMIT ▸ number)) (maybe_marks number_marks) (WhenThere IsWrittenNumber)
limit_trees = maybe_trees (one LIMIT ▸ number) number_marks IsWrittenNumber (behind_word LIMIT nowhere number number_marks IsWrittenNumber number_trees)

query_from : (levels place : ℕ) (h i j k l n o : List Mark) → Tree selection_marks (IsWrittenSelection levels) h → Tree table_marks IsWrittenTable i → Tree (maybe_marks clause_marks) (WhenThere IsWrittenClause) j → Tree (maybe_marks predicate_marks) (WhenThere (IsWrittenPredicate levels)) k → Tree (λ xs. maybe_listed (map column_marks xs)) (Each IsWrittenColumn) l → Tree (λ xs. maybe_listed (map key_marks xs)) (Each IsWrittenKey) n → Tree (maybe_marks number_marks) (WhenThere IsWrittenNumber) o → Tree query_marks (IsWrittenQuery levels) (At place ∷ (h ++ (i ++ (j ++ Way 0 ∷ (k ++ (l ++ (n ++ o)))))))
query_from levels place h i j k l n o a b c d e f g = record {
  tree = record { place = place; selection = a.tree; first = record { table = b.tree; clause = c.tree }; joins = []; filter = d.tree; group = e.tree; order = f.tree; limit = g.tree };
  given = record { selection = a.given; table = (b.given, c.given); joins = refl; filter = d.given; group = e.given; order = f.given; limit = g.given };
  same = ap (λ (x : List Mark). At place ∷ x) (joined_marks a.same (joined_marks b.same (joined_marks c.same (ap (λ (x : List Mark). Way 0 ∷ x) (joined_marks d.same (joined_marks e.same (joined_marks f.same g.same)))))));
}

pub query_trees : (levels : ℕ) → HasTrees (query levels) query_marks (IsWrittenQuery levels)
query_trees levels done m after (pair (pair (word {t = t} e is) noted) (pair {between = b} {m = h} p (pair {between = c} (word f was) (pair {between = d} {m = i} q (pair {between = g} {m = j} r (pair noted (pair {between = u} {m = k} s (pair {between = v} {m = l} x (pair {between = w} {m = n} {n = o} y z))))))))) =
    query_from levels t.place h i j k l n o
    (selection_trees levels (t ∷ done) h b p)
    (table_trees c i d q)
    (maybe_trees clause clause_marks IsWrittenClause clause_trees d j g r)
    (filter_trees levels g k u s)
    (group_trees u l v x)
    (order_trees v n w y)
    (limit_trees w o after z)
