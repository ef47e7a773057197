-- The tree of a statement's derivation: what a statement notes are the marks of a tree.
use Rattle.std.proofs.Common.{◌≡◌, ℕ, zero, suc, ◌<◌, List, [], ◌∷◌, ◌++◌, map, None, refl, ap, arith}
use Rattle.tt_value.specs.declared.name.Literal.{Literal}
use Rattle.tt_sql.specs.declared.change.Dml.TheVariants as dml
use Rattle.tt_sql.specs.declared.change.Copy.{Copy}
use Rattle.tt_sql.specs.declared.change.Delete.{Delete}
use Rattle.tt_sql.specs.declared.change.Insert.{Insert}
use Rattle.tt_sql.specs.declared.change.InsertSource.TheVariants as sources
use Rattle.tt_sql.specs.declared.change.Update.{Update}
use Rattle.tt_sql.specs.declared.statement.Statement.TheVariants as statements
use Rattle.tt_sql.specs.declared.statement.TimeUnit.{TimeUnit}
use Rattle.tt_sql.specs.declared.statement.TimeUnit.TheVariants as time
use Rattle.tt_sql.specs.declared.statement.Wait.{Wait}
use Rattle.tt_sql.specs.grammar.Grammar.{Lexeme, Mark, Way, At, Note, nowhere}
use Rattle.tt_sql.specs.grammar.Statements.{IsStatement}
use Rattle.tt_sql.specs.grammar.TokenKinds.{EXPLAIN, HISTORY, VALUES, UNIT_TEXT, COMMA, place_in, unit_words, upper}
use Rattle.tt_sql.specs.grammar.Combinators.{◌▸◌, ◌∣◌, one, way, name, maybe, brackets, listed, as_unit}
use Rattle.tt_sql.specs.grammar.Written.{literal, query, tuple, insert, set, update, delete, copy, drop_table, undrop, truncate, begin, commit, rollback, wait, show, metrics, depth, statement}
use Rattle.tt_sql.specs.marks.Expressions.{listed_marks, maybe_marks, flag_marks, name_marks, number_marks, quoted_marks, table_marks, literal_marks, expr_marks, predicate_marks}
use Rattle.tt_sql.specs.marks.Queries.{query_marks}
use Rattle.tt_sql.specs.marks.Changes.{names_marks, tuple_marks, insert_source_marks, insert_marks, set_marks, update_marks, delete_marks, copy_marks}
use Rattle.tt_sql.specs.marks.Tables.{create_marks, clone_marks, alter_marks}
use Rattle.tt_sql.specs.marks.Statements.{unit_number, wait_marks, statement_marks, time_unit_marks}
use Rattle.tt_sql.specs.trees.Lists.{IsListed, WhenThere}
use Rattle.tt_sql.specs.trees.Expressions.{IsWrittenName, IsWrittenTable, IsWrittenQuoted, IsWrittenLiteral, IsWrittenExpr, IsWrittenPredicate}
use Rattle.tt_sql.specs.trees.Queries.{IsShortNumber, IsWrittenQuery}
use Rattle.tt_sql.proofs.grammar.LexemeTexts.{has_quoted_name}
use Rattle.tt_sql.specs.trees.Statements.{IsWrittenTuple, IsWrittenInsertSource, IsWrittenSet, IsWrittenStatement}
use Rattle.tt_sql.specs.grammar.Lexemes.{AreLexemes}
use Rattle.tt_sql.proofs.grammar.Lexemes.{only, has_unit}
use Rattle.tt_sql.proofs.grammar.Derivations.{Part, word, noted, pair, first, second, part_of}
use Rattle.tt_sql.proofs.trees.Leaves.{Tree, HasTrees, IsAny, joined_marks, no_end, name_trees, table_trees, short_number_trees, quoted_trees, flag_trees, literal_trees, behind_word, listed_trees, maybe_trees}
use Rattle.tt_sql.proofs.trees.Expressions.{expr_trees}
use Rattle.tt_sql.proofs.trees.Queries.{filter_trees, query_trees}
use Rattle.tt_sql.proofs.trees.Tables.{IsWrittenCreate, IsWrittenClone, IsWrittenAlter, create_trees, clone_trees, alter_trees}

-- ---- changes of rows

abbrev literals_marks : List Literal → List Mark
literals_marks literals = listed_marks (map literal_marks literals)

tuple_at : (place : ℕ) (m : List Mark) → Tree literals_marks (IsListed IsWrittenLiteral) m → Tree tuple_marks IsWrittenTuple (At place ∷ m)
tuple_at place m xs = record { tree = record { place = place; values = xs.tree }; given = xs.given; same = ap (λ (x : List Mark). At place ∷ x) xs.same }

tuple_trees : HasTrees tuple tuple_marks IsWrittenTuple
tuple_trees done m after (pair (pair (word {t = t} e is) noted) (pair {between = b} {m = i} p (word f was))) = tuple_at t.place (i ++ []) (no_end i (listed_trees literal literal_marks IsWrittenLiteral literal_trees (t ∷ done) i b p))

names_trees : HasTrees (maybe (brackets (listed name))) (maybe_marks names_marks) (WhenThere (IsListed IsWrittenName))
names_trees = maybe_trees (brackets (listed name)) names_marks (IsListed IsWrittenName) within
  where
    within : HasTrees (brackets (listed name)) names_marks (IsListed IsWrittenName)
    within done m after (pair {between = b} (word e is) (pair {between = c} {m = i} p (word f was))) = no_end i (listed_trees name name_marks IsWrittenName name_trees b i c p)

values_source : (levels : ℕ) (m : List Mark) → Tree (λ xs. listed_marks (map tuple_marks xs)) (IsListed IsWrittenTuple) m → Tree insert_source_marks (IsWrittenInsertSource levels) (m ++ Way 0 ∷ [])
values_source levels m xs = record { tree = sources.Values xs.tree; given = xs.given; same = ap (λ (x : List Mark). x ++ Way 0 ∷ []) xs.same }

query_source : (levels : ℕ) (m : List Mark) → Tree query_marks (IsWrittenQuery levels) m → Tree insert_source_marks (IsWrittenInsertSource levels) (m ++ Way 1 ∷ [])
query_source levels m q = record { tree = sources.Query q.tree; given = q.given; same = ap (λ (x : List Mark). x ++ Way 1 ∷ []) q.same }

source_trees : (levels : ℕ) → HasTrees (one VALUES ▸ listed tuple ▸ way 0 ∣ query levels ▸ way 1) insert_source_marks (IsWrittenInsertSource levels)
source_trees levels done m after (first (pair {between = b} (word e is) (pair {between = c} {m = i} p noted))) = values_source levels i (listed_trees tuple tuple_marks IsWrittenTuple tuple_trees b i c p)
source_trees levels done m after (second (pair {between = b} {m = i} p noted)) = query_source levels i (query_trees levels done i b p)

abbrev IsWrittenInsert : ℕ → Insert → Type 0
IsWrittenInsert levels i = IsWrittenTable i.table × WhenThere (IsListed IsWrittenName) i.columns × IsWrittenInsertSource levels i.source

insert_from : (levels : ℕ) (i j k : List Mark) → Tree table_marks IsWrittenTable i → Tree (maybe_marks names_marks) (WhenThere (IsListed IsWrittenName)) j → Tree insert_source_marks (IsWrittenInsertSource levels) k → Tree insert_marks (IsWrittenInsert levels) (i ++ (j ++ k))
insert_from levels i j k a b c = record { tree = record { table = a.tree; columns = b.tree; source = c.tree }; given = (a.given, b.given, c.given); same = joined_marks a.same (joined_marks b.same c.same) }

insert_trees : (levels : ℕ) → HasTrees (insert levels) insert_marks (IsWrittenInsert levels)
insert_trees levels done m after (pair (word e is) (pair {between = b} (word f was) (pair {between = c} {m = i} p (pair {between = d} {m = j} {n = k} q r)))) = insert_from levels i j k (table_trees b i c p) (names_trees c j d q) (source_trees levels d k after r)

set_from : (levels : ℕ) (i j : List Mark) → Tree name_marks IsWrittenName i → Tree expr_marks (IsWrittenExpr levels) j → Tree set_marks (IsWrittenSet levels) (i ++ j)
set_from levels i j a b = record { tree = record { column = a.tree; value = b.tree }; given = (a.given, b.given); same = joined_marks a.same b.same }

set_trees : (levels : ℕ) → HasTrees (set levels) set_marks (IsWrittenSet levels)
set_trees levels done m after (pair {between = b} {m = i} p (pair {between = c} {n = j} (word e is) q)) = set_from levels i j (name_trees done i b p) (expr_trees levels c j after q)

abbrev IsWrittenUpdate : ℕ → Update → Type 0
IsWrittenUpdate levels u = IsWrittenTable u.table × IsListed (IsWrittenSet levels) u.sets × WhenThere (IsWrittenPredicate levels) u.filter

update_from : (levels : ℕ) (i j k : List Mark) → Tree table_marks IsWrittenTable i → Tree (λ xs. listed_marks (map set_marks xs)) (IsListed (IsWrittenSet levels)) j → Tree (maybe_marks predicate_marks) (WhenThere (IsWrittenPredicate levels)) k → Tree update_marks (IsWrittenUpdate levels) (i ++ (j ++ k))
update_from levels i j k a b c = record { tree = record { table = a.tree; sets = b.tree; filter = c.tree }; given = (a.given, b.given, c.given); same = joined_marks a.same (joined_marks b.same c.same) }

update_trees : (levels : ℕ) → HasTrees (update levels) update_marks (IsWrittenUpdate levels)
update_trees levels done m after (pair {between = b} (word e is) (pair {between = c} {m = i} p (pair {between = d} (word f was) (pair {between = g} {m = j} {n = k} q r)))) = update_from levels i j k (table_trees b i c p) (listed_trees (set levels) set_marks (IsWrittenSet levels) (set_trees levels) d j g q) (filter_trees levels g k after r)

abbrev IsWrittenDelete : ℕ → Delete → Type 0
IsWrittenDelete levels d = IsWrittenTable d.table × WhenThere (IsWrittenPredicate levels) d.filter

delete_from : (levels : ℕ) (i j : List Mark) → Tree table_marks IsWrittenTable i → Tree (maybe_marks predicate_marks) (WhenThere (IsWrittenPredicate levels)) j → Tree delete_marks (IsWrittenDelete levels) (i ++ j)
delete_from levels i j a b = record { tree = record { table = a.tree; filter = b.tree }; given = (a.given, b.given); same = joined_marks a.same b.same }

delete_trees : (levels : ℕ) → HasTrees (delete levels) delete_marks (IsWrittenDelete levels)
delete_trees levels done m after (pair (word e is) (pair {between = b} (word f was) (pair {between = c} {m = i} {n = j} p q))) = delete_from levels i j (table_trees b i c p) (filter_trees levels c j after q)

abbrev IsWrittenCopy : Copy → Type 0
IsWrittenCopy c = IsWrittenTable c.table × IsWrittenQuoted c.file

copy_from : (i j : List Mark) → Tree table_marks IsWrittenTable i → Tree quoted_marks IsWrittenQuoted j → Tree copy_marks IsWrittenCopy (i ++ j)
copy_from i j a b = record { tree = record { table = a.tree; file = b.tree }; given = (a.given, b.given); same = joined_marks a.same b.same }

copy_trees : HasTrees copy copy_marks IsWrittenCopy
copy_trees done m after (pair (word e is) (pair {between = b} (word f was) (pair {between = c} {m = i} p (pair {between = d} {n = j} (word g had) q)))) = copy_from i j (table_trees b i c p) (quoted_trees d j after q)

-- ---- waits

unit_tree : (k : ℕ) → k < 5 → (u : TimeUnit) × (unit_number u ≡ k)
unit_tree zero less = (time.Days, refl)
unit_tree (suc zero) less = (time.Hours, refl)
unit_tree (suc (suc zero)) less = (time.Minutes, refl)
unit_tree (suc (suc (suc zero))) less = (time.Seconds, refl)
unit_tree (suc (suc (suc (suc zero)))) less = (time.Milliseconds, refl)
unit_tree (suc (suc (suc (suc (suc k))))) less = absurd (omega (arith, less))

abbrev IsWrittenWait : Wait → Type 0
IsWrittenWait w = IsShortNumber w.amount

unit_at : (k : ℕ) → k < 5 → Tree time_unit_marks IsAny (Way k ∷ [])
unit_at k less = let u = unit_tree k less in record { tree = u.0; given = tt; same = ap (λ (n : ℕ). Way n ∷ []) u.1 }

unit_trees : HasTrees (one COMMA ▸ one UNIT_TEXT ▸ Note as_unit ∣ way 3) time_unit_marks IsAny
unit_trees done m after (first (pair (word e is) (pair (word {t = t} f was) noted))) = unit_at (place_in unit_words (upper t.text)) (has_unit t was (only UNIT_TEXT t.kind f))
unit_trees done m after (second noted) = record { tree = time.Seconds; given = tt; same = refl }

wait_from : (i j : List Mark) → Tree number_marks IsShortNumber i → Tree time_unit_marks IsAny j → Tree wait_marks IsWrittenWait (i ++ j)
wait_from i j a b = record { tree = record { amount = a.tree; «unit» = b.tree }; given = a.given; same = joined_marks a.same b.same }

wait_trees : HasTrees wait wait_marks IsWrittenWait
wait_trees done m after (pair (word e is) (pair (word f was) (pair {between = b} (word g had) (pair {between = c} {m = i} p (pair {between = d} {m = j} q (word h has)))))) = wait_from i (j ++ []) (short_number_trees b i c p) (no_end j (unit_trees c j d q))

-- ---- statements

abbrev Whole : ℕ → List Mark → Type 0
Whole levels m = Tree statement_marks (IsWrittenStatement levels) m

query_whole : (levels : ℕ) (m : List Mark) → Tree query_marks (IsWrittenQuery levels) m → Whole levels (m ++ Way 0 ∷ [])
query_whole levels m t = record { tree = statements.Query t.tree; given = t.given; same = ap (λ (x : List Mark). x ++ Way 0 ∷ []) t.same }

insert_whole : (levels : ℕ) (m : List Mark) → Tree insert_marks (IsWrittenInsert levels) m → Whole levels (m ++ Way 1 ∷ [])
insert_whole levels m t = record { tree = statements.Dml (dml.Insert t.tree); given = t.given; same = ap (λ (x : List Mark). x ++ Way 1 ∷ []) t.same }

update_whole : (levels : ℕ) (m : List Mark) → Tree update_marks (IsWrittenUpdate levels) m → Whole levels (m ++ Way 2 ∷ [])
update_whole levels m t = record { tree = statements.Dml (dml.Update t.tree); given = t.given; same = ap (λ (x : List Mark). x ++ Way 2 ∷ []) t.same }

delete_whole : (levels : ℕ) (m : List Mark) → Tree delete_marks (IsWrittenDelete levels) m → Whole levels (m ++ Way 3 ∷ [])
delete_whole levels m t = record { tree = statements.Dml (dml.Delete t.tree); given = t.given; same = ap (λ (x : List Mark). x ++ Way 3 ∷ []) t.same }

copy_whole : (levels : ℕ) (m : List Mark) → Tree copy_marks IsWrittenCopy m → Whole levels (m ++ Way 4 ∷ [])
copy_whole levels m t = record { tree = statements.Dml (dml.Copy t.tree); given = t.given; same = ap (λ (x : List Mark). x ++ Way 4 ∷ []) t.same }

create_whole : (levels : ℕ) (m : List Mark) → Tree create_marks IsWrittenCreate m → Whole levels (m ++ Way 5 ∷ [])
create_whole levels m t = record { tree = statements.Create t.tree; given = t.given; same = ap (λ (x : List Mark). x ++ Way 5 ∷ []) t.same }

clone_whole : (levels : ℕ) (m : List Mark) → Tree clone_marks IsWrittenClone m → Whole levels (m ++ Way 6 ∷ [])
clone_whole levels m t = record { tree = statements.Clone t.tree; given = t.given; same = ap (λ (x : List Mark). x ++ Way 6 ∷ []) t.same }

drop_whole : (levels : ℕ) (m : List Mark) → Tree table_marks IsWrittenTable m → Whole levels (m ++ Way 7 ∷ [])
drop_whole levels m t = record { tree = statements.Drop t.tree; given = t.given; same = ap (λ (x : List Mark). x ++ Way 7 ∷ []) t.same }

undrop_whole : (levels : ℕ) (m : List Mark) → Tree table_marks IsWrittenTable m → Whole levels (m ++ Way 8 ∷ [])
undrop_whole levels m t = record { tree = statements.Undrop t.tree; given = t.given; same = ap (λ (x : List Mark). x ++ Way 8 ∷ []) t.same }

truncate_whole : (levels : ℕ) (m : List Mark) → Tree table_marks IsWrittenTable m → Whole levels (m ++ Way 9 ∷ [])
truncate_whole levels m t = record { tree = statements.Truncate t.tree; given = t.given; same = ap (λ (x : List Mark). x ++ Way 9 ∷ []) t.same }

alter_whole : (levels : ℕ) (m : List Mark) → Tree alter_marks IsWrittenAlter m → Whole levels (m ++ Way 10 ∷ [])
alter_whole levels m t = record { tree = statements.Alter t.tree; given = t.given; same = ap (λ (x : List Mark). x ++ Way 10 ∷ []) t.same }

wait_whole : (levels : ℕ) (m : List Mark) → Tree wait_marks IsWrittenWait m → Whole levels (m ++ Way 14 ∷ [])
wait_whole levels m t = record { tree = statements.Wait t.tree; given = t.given; same = ap (λ (x : List Mark). x ++ Way 14 ∷ []) t.same }

explain_whole : (levels : ℕ) (m : List Mark) → Tree query_marks (IsWrittenQuery levels) m → Whole levels (m ++ Way 15 ∷ [])
explain_whole levels m t = record { tree = statements.Explain t.tree; given = t.given; same = ap (λ (x : List Mark). x ++ Way 15 ∷ []) t.same }

show_whole : (levels : ℕ) (m : List Mark) → Tree flag_marks IsAny m → Whole levels (m ++ Way 16 ∷ [])
show_whole levels m t = record { tree = statements.Show t.tree; given = tt; same = ap (λ (x : List Mark). x ++ Way 16 ∷ []) t.same }

depth_trees : HasTrees depth table_marks IsWrittenTable
depth_trees done m after (pair (word e is) (pair (word f was) (pair (word g had) (pair (pair (word {t = t} h has) noted) (word k of_k))))) = record { tree = record { schema = None; name = record { text = upper t.text; place = t.place } }; given = (refl, has_quoted_name t has h); same = refl }

depth_whole : (levels : ℕ) (m : List Mark) → Tree table_marks IsWrittenTable m → Whole levels (m ++ Way 18 ∷ [])
depth_whole levels m t = record { tree = statements.Depth t.tree; given = t.given; same = ap (λ (x : List Mark). x ++ Way 18 ∷ []) t.same }

drop_trees : HasTrees drop_table table_marks IsWrittenTable
drop_trees done m after (pair (word e is) (pair {between = b} {n = n} (word f was) p)) = table_trees b n after p

undrop_trees : HasTrees undrop table_marks IsWrittenTable
undrop_trees done m after (pair (word e is) (pair {between = b} {n = n} (word f was) p)) = table_trees b n after p

truncate_trees : HasTrees truncate table_marks IsWrittenTable
truncate_trees done m after (pair (word e is) (pair {between = b} {n = n} (first (word f was)) p)) = table_trees b n after p
truncate_trees done m after (pair (word e is) (pair {between = b} {n = n} (second noted) p)) = table_trees b n after p

begin_whole : (levels : ℕ) (done : List Lexeme) (m : List Mark) (after : List Lexeme) → Part begin done m after → Whole levels (m ++ Way 11 ∷ [])
begin_whole levels done m after (first (pair (word e is) (first (word f was)))) = record { tree = statements.Begin; given = tt; same = refl }
begin_whole levels done m after (first (pair (word e is) (second noted))) = record { tree = statements.Begin; given = tt; same = refl }
begin_whole levels done m after (second (pair (word e is) (word f was))) = record { tree = statements.Begin; given = tt; same = refl }

commit_whole : (levels : ℕ) (done : List Lexeme) (m : List Mark) (after : List Lexeme) → Part commit done m after → Whole levels (m ++ Way 12 ∷ [])
commit_whole levels done m after (pair (word e is) (first (word f was))) = record { tree = statements.Commit; given = tt; same = refl }
commit_whole levels done m after (pair (word e is) (second noted)) = record { tree = statements.Commit; given = tt; same = refl }

rollback_whole : (levels : ℕ) (done : List Lexeme) (m : List Mark) (after : List Lexeme) → Part rollback done m after → Whole levels (m ++ Way 13 ∷ [])
rollback_whole levels done m after (pair (word e is) (first (word f was))) = record { tree = statements.Rollback; given = tt; same = refl }
rollback_whole levels done m after (pair (word e is) (second noted)) = record { tree = statements.Rollback; given = tt; same = refl }

metrics_whole : (levels : ℕ) (done : List Lexeme) (m : List Mark) (after : List Lexeme) → Part metrics done m after → Whole levels (m ++ Way 17 ∷ [])
metrics_whole levels done m after (pair (word e is) (pair (word f was) (pair (word g had) (pair (word h has) (pair (word k of_k) (word l of_l)))))) = record { tree = statements.Metrics; given = tt; same = refl }

show_trees : HasTrees show flag_marks IsAny
show_trees done m after (pair (word e is) (pair {between = b} {n = n} (word f was) p)) = flag_trees HISTORY nowhere b n after p

pub statement_trees : (levels : ℕ) → HasTrees (statement levels) statement_marks (IsWrittenStatement levels)
statement_trees levels done m after (first (pair {between = b} {m = i} p noted)) = query_whole levels i (query_trees levels done i b p)
statement_trees levels done m after (second (first (pair {between = b} {m = i} p noted))) = insert_whole levels i (insert_trees levels done i b p)
statement_trees levels done m after (second (second (first (pair {between = b} {m = i} p noted)))) = update_whole levels i (update_trees levels done i b p)
statement_trees levels done m after (second (second (second (first (pair {between = b} {m = i} p noted))))) = delete_whole levels i (delete_trees levels done i b p)
statement_trees levels done m after (second (second (second (second (first (pair {between = b} {m = i} p noted)))))) = copy_whole levels i (copy_trees done i b p)
statement_trees levels done m after (second (second (second (second (second (first (pair {between = b} {m = i} p noted))))))) = create_whole levels i (create_trees done i b p)
statement_trees levels done m after (second (second (second (second (second (second (first (pair {between = b} {m = i} p noted)))))))) = clone_whole levels i (clone_trees done i b p)
statement_trees levels done m after (second (second (second (second (second (second (second (first (pair {between = b} {m = i} p noted))))))))) = drop_whole levels i (drop_trees done i b p)
statement_trees levels done m after (second (second (second (second (second (second (second (second (first (pair {between = b} {m = i} p noted)))))))))) = undrop_whole levels i (undrop_trees done i b p)
statement_trees levels done m after (second (second (second (second (second (second (second (second (second (first (pair {between = b} {m = i} p noted))))))))))) = truncate_whole levels i (truncate_trees done i b p)
statement_trees levels done m after (second (second (second (second (second (second (second (second (second (second (first (pair {between = b} {m = i} p noted)))))))))))) = alter_whole levels i (alter_trees done i b p)
statement_trees levels done m after (second (second (second (second (second (second (second (second (second (second (second (first (pair {between = b} {m = i} p noted))))))))))))) = begin_whole levels done i b p
statement_trees levels done m after (second (second (second (second (second (second (second (second (second (second (second (second (first (pair {between = b} {m = i} p noted)))))))))))))) = commit_whole levels done i b p
statement_trees levels done m after (second (second (second (second (second (second (second (second (second (second (second (second (second (first (pair {between = b} {m = i} p noted))))))))))))))) = rollback_whole levels done i b p
statement_trees levels done m after (second (second (second (second (second (second (second (second (second (second (second (second (second (second (first (pair {between = b} {m = i} p noted)))))))))))))))) = wait_whole levels i (wait_trees done i b p)
statement_trees levels done m after (second (second (second (second (second (second (second (second (second (second (second (second (second (second (second (first (pair {between = b} {m = i} p noted))))))))))))))))) = explain_whole levels i (behind_word EXPLAIN nowhere (query levels) query_marks (IsWrittenQuery levels) (query_trees levels) done i b p)
statement_trees levels done m after (second (second (second (second (second (second (second (second (second (second (second (second (second (second (second (second (first (pair {between = b} {m = i} p noted)))))))))))))))))) = show_whole levels i (show_trees done i b p)
statement_trees levels done m after (second (second (second (second (second (second (second (second (second (second (second (second (second (second (second (second (second (first (pair {between = b} {m = i} p noted))))))))))))))))))) = metrics_whole levels done i b p
statement_trees levels done m after (second (second (second (second (second (second (second (second (second (second (second (second (second (second (second (second (second (second (pair {between = b} {m = i} p noted))))))))))))))))))) = depth_whole levels i (depth_trees done i b p)

-- what a statement notes are the marks of a tree
pub whole_statement : (levels : ℕ) (m : List Mark) (ts : List Lexeme) → AreLexemes ts → IsStatement levels m ts → Tree statement_marks (IsWrittenStatement levels) m
whole_statement levels m ts are d = let p = part_of (statement levels) m ts d are in statement_trees levels [] m p.0 p.1
