-- Marks of a query are read back as the query.
use Rattle.std.proofs.Common.{◌≡◌, ℕ, zero, suc, Bool, true, false, List, [], ◌∷◌, ◌++◌, map, length, Option, Some, None, refl, sym, ap, ◌∙◌, subst, append_assoc, length-append, arith}
use Rattle.std.specs.Prelude.{⊤}
use Rattle.tt_value.specs.declared.name.Name.{Name}
use Rattle.tt_value.specs.declared.name.Number.{Number}
use Rattle.tt_value.specs.declared.name.ColumnName.{ColumnName}
use Rattle.tt_value.specs.declared.name.TableName.{TableName}
use Rattle.tt_value.specs.declared.value.Value.{Value}
use Rattle.tt_value.specs.declared.value.Value.TheVariants.{Null, Int, Date, Text}
use Rattle.tt_value.specs.declared.expression.Expr.{Expr}
use Rattle.tt_value.specs.declared.predicate.Operand.{Operand}
use Rattle.tt_value.specs.declared.predicate.Operand.TheVariants as operand
use Rattle.tt_value.specs.declared.predicate.Predicate.{Predicate}
use Rattle.tt_value.specs.declared.predicate.Conjunction.{Conjunction}
use Rattle.tt_value.specs.declared.predicate.Unit.{Unit as Test}
use Rattle.tt_sql.specs.declared.query.Clause.{Clause}
use Rattle.tt_sql.specs.declared.query.Item.{Item}
use Rattle.tt_sql.specs.declared.query.Item.TheVariants as item
use Rattle.tt_sql.specs.declared.query.Join.{Join}
use Rattle.tt_sql.specs.declared.query.KeyColumn.{KeyColumn}
use Rattle.tt_sql.specs.declared.query.KeyColumn.TheVariants as key
use Rattle.tt_sql.specs.declared.query.Moment.{Moment}
use Rattle.tt_sql.specs.declared.query.Moment.TheVariants as moment
use Rattle.tt_sql.specs.declared.query.Pair.{Pair}
use Rattle.tt_sql.specs.declared.query.Query.{Query}
use Rattle.tt_sql.specs.declared.query.Selection.{Selection}
use Rattle.tt_sql.specs.declared.query.Selection.TheVariants as selection
use Rattle.tt_sql.specs.declared.query.Side.{Side}
use Rattle.tt_sql.specs.declared.query.Side.TheVariants as side
use Rattle.tt_sql.specs.grammar.Grammar.{Mark, Way, At, Said, Prefix, Meant}
use Rattle.tt_sql.specs.marks.Expressions.{repeated, listed_marks, maybe_marks, flag_marks, qualified, value_marks, name_marks, number_marks, column_marks, table_marks, operand_marks, expr_marks, unit_marks, conjunction_marks, predicate_marks}
use Rattle.tt_sql.proofs.marks.Expressions.{marks-Not, marks-Group, marks-Compare, marks-IsNull, marks-In, marks-Between, marks-StartsWith, marks-Conjunction, marks-Predicate}
use Rattle.tt_sql.specs.marks.Queries.{item_marks, selection_marks, moment_marks, clause_marks, side_marks, source_marks, pair_marks, join_marks, joins_marks, key_column_marks, key_marks, maybe_listed, query_marks}
use Rattle.tt_sql.specs.trees.Lists.{Each, IsListed, WhenThere}
use Rattle.tt_sql.specs.determined.Marks.{IsAny}
use Rattle.tt_sql.specs.determined.Expressions.{IsGivenExpr, IsGivenPredicate}
use Rattle.tt_sql.specs.determined.Queries.{IsGivenItem, IsGivenSelection, IsGivenMoment, IsGivenClause, IsGivenSource, IsGivenJoin, IsGivenQuery}
use Rattle.tt_sql.specs.machine.ExpressionTrees.{Reader, go_on, first_of, marked_all, marked_column}
use Rattle.tt_sql.proofs.machine.ExpressionTrees.{all_reads, expr_reads, one_tree}
use Rattle.tt_sql.proofs.machine.PredicateTrees.{by_unit, by_conjunction, by_predicate, predicate_reads}
use Rattle.tt_sql.specs.machine.QueryTrees.{marked_name, marked_number, marked_table, marked_listed, present, marked_maybe, marked_maybe_listed, marked_sum, marked_test, expr_item, marked_aggregate, marked_item, all_star, marked_selection, offset_of, marked_moment, clause_at, marked_clause, marked_key, made_source, source_behind, marked_source, made_pair, pair_behind, marked_pair, made_join, join_behind, marked_join, made, behind_order, behind_group, behind_filter, behind_joins, behind_clause, behind_table, behind_selection, marked_query}

-- marks of trees are read, whatever follows them
abbrev pub Always : {A : Type 0} → (A → List Mark) → (A → Type 0) → Reader A → Type 0
Always {A} marks ok r = (x : A) → ok x → (rest : List Mark) → r (marks x ++ rest) ≡ Some (x, rest)

-- one part in front of others
pub in_front : {A B : Type 0} (r : Reader A) (next : A → Reader B) (m k rest : List Mark) (x : A) → r (m ++ (k ++ rest)) ≡ Some (x, k ++ rest) → go_on (r ((m ++ k) ++ rest)) next ≡ next x (k ++ rest)
in_front {A} r next m k rest x e = ap (λ (z : List Mark). go_on (r z) next) (append_assoc m k rest) ∙ ap (λ (o : Option (A × List Mark)). go_on o next) e

-- ---- lists

pub always_all : {A : Type 0} (marks : A → List Mark) (ok : A → Type 0) (r : Reader A) → Always marks ok r → (xs : List A) → Each ok xs → (rest : List Mark) → marked_all r (repeated (map marks xs) ++ rest) ≡ Some (xs, rest)
always_all marks ok r good xs each rest = all_reads marks ok (suc (length (repeated (map marks xs)))) r (λ x o less later. good x o later) xs each (omega arith) rest

listed_on : {A : Type 0} (marks : A → List Mark) (ok : A → Type 0) (r : Reader A) → Always marks ok r → (x : A) (xs : List A) → ok x → Each ok xs → (rest : List Mark) → marked_listed r ((marks x ++ repeated (map marks xs)) ++ rest) ≡ Some (x ∷ xs, rest)
listed_on {A} marks ok r good x xs o each rest =
    in_front r (λ y later. go_on (marked_all r later) (λ ys end. Some (y ∷ ys, end))) (marks x) (repeated (map marks xs)) rest x (good x o (repeated (map marks xs) ++ rest))
    ∙ ap (λ (z : Option (List A × List Mark)). go_on z (λ ys end. Some (x ∷ ys, end))) (always_all marks ok r good xs each rest)

pub listed_reads : {A : Type 0} (marks : A → List Mark) (ok : A → Type 0) (r : Reader A) → Always marks ok r → (xs : List A) → IsListed ok xs → (rest : List Mark) → marked_listed r (listed_marks (map marks xs) ++ rest) ≡ Some (xs, rest)
listed_reads marks ok r good [] g rest = absurd g
listed_reads marks ok r good (x ∷ xs) g rest = listed_on marks ok r good x xs g.0 g.1 rest

-- ---- what may be left out

-- they do not begin with 0
abbrev pub Starts : List Mark → Type 0
Starts [] = ⊥
Starts (Way zero ∷ m) = ⊥
Starts (Way (suc n) ∷ m) = ⊤
Starts (At place ∷ m) = ⊤
Starts (Said text place ∷ m) = ⊤
Starts (Prefix text place ∷ m) = ⊤
Starts (Meant n place ∷ m) = ⊤

pub starts_on : (m z : List Mark) → Starts m → Starts (m ++ z)
starts_on [] z s = absurd s
starts_on (Way zero ∷ m) z s = absurd s
starts_on (Way (suc n) ∷ m) z s = tt
starts_on (At place ∷ m) z s = tt
starts_on (Said text place ∷ m) z s = tt
starts_on (Prefix text place ∷ m) z s = tt
starts_on (Meant n place ∷ m) z s = tt

there_maybe : {A : Type 0} (r : Reader A) (m z : List Mark) → Starts m → marked_maybe r (m ++ z) ≡ go_on (r (m ++ z)) (present (λ x. Some x))
there_maybe r [] z s = absurd s
there_maybe r (Way zero ∷ m) z s = absurd s
there_maybe r (Way (suc n) ∷ m) z s = refl
there_maybe r (At place ∷ m) z s = refl
there_maybe r (Said text place ∷ m) z s = refl
there_maybe r (Prefix text place ∷ m) z s = refl
there_maybe r (Meant n place ∷ m) z s = refl

there_listed : {A : Type 0} (r : Reader A) (m z : List Mark) → Starts m → marked_maybe_listed r (m ++ z) ≡ go_on (marked_listed r (m ++ z)) (present (λ xs. xs))
there_listed r [] z s = absurd s
there_listed r (Way zero ∷ m) z s = absurd s
there_listed r (Way (suc n) ∷ m) z s = refl
there_listed r (At place ∷ m) z s = refl
there_listed r (Said text place ∷ m) z s = refl
there_listed r (Prefix text place ∷ m) z s = refl
there_listed r (Meant n place ∷ m) z s = refl

pub maybe_reads : {A : Type 0} (marks : A → List Mark) (ok : A → Type 0) (r : Reader A) → Always marks ok r → ((x : A) → ok x → Starts (marks x)) → (o : Option A) → WhenThere ok o → (rest : List Mark) → marked_maybe r (maybe_marks marks o ++ rest) ≡ Some (o, rest)
maybe_reads marks ok r good starts None g rest = refl
maybe_reads {A} marks ok r good starts (Some x) g rest =
    ap (marked_maybe r) (append_assoc (marks x) (Way 1 ∷ []) rest)
    ∙ there_maybe r (marks x) (Way 1 ∷ rest) (starts x g)
    ∙ ap (λ (o : Option (A × List Mark)). go_on o (present (λ y. Some y))) (good x g (Way 1 ∷ rest))

pub maybe_listed_reads : {A : Type 0} (marks : A → List Mark) (ok : A → Type 0) (r : Reader A) → Always marks ok r → ((x : A) → Starts (marks x)) → (xs : List A) → Each ok xs → (rest : List Mark) → marked_maybe_listed r (maybe_listed (map marks xs) ++ rest) ≡ Some (xs, rest)
maybe_listed_reads marks ok r good starts [] g rest = refl
maybe_listed_reads {A} marks ok r good starts (x ∷ xs) g rest =
    let m = marks x ++ repeated (map marks xs) in
    ap (marked_maybe_listed r) (append_assoc m (Way 1 ∷ []) rest)
    ∙ there_listed r m (Way 1 ∷ rest) (starts_on (marks x) (repeated (map marks xs)) (starts x))
    ∙ ap (λ (o : Option (List A × List Mark)). go_on o (present (λ ys. ys))) (listed_on marks ok r good x xs g.0 g.1 (Way 1 ∷ rest))

-- ---- small parts

pub name_reads : Always name_marks (λ n. ⊤) marked_name
name_reads n g rest = refl

pub number_reads : Always number_marks (λ n. ⊤) marked_number
number_reads n g rest = refl

column_whole : (table : Option Name) (name : Name) (rest : List Mark) → marked_column (qualified table name ++ rest) ≡ Some (record { table = table; name = name }, rest)
column_whole None name rest = refl
column_whole (Some front) name rest = refl

pub column_reads : Always column_marks (λ c. ⊤) marked_column
column_reads c g rest = column_whole c.table c.name rest

table_whole : (schema : Option Name) (name : Name) (rest : List Mark) → marked_table (qualified schema name ++ rest) ≡ Some (record { schema = schema; name = name }, rest)
table_whole None name rest = refl
table_whole (Some front) name rest = refl

pub table_reads : (t : TableName) (rest : List Mark) → marked_table (table_marks t ++ rest) ≡ Some (t, rest)
table_reads t rest = table_whole t.schema t.name rest

qualified_starts : (front : Option Name) (name : Name) → Starts (qualified front name)
qualified_starts None name = tt
qualified_starts (Some front) name = tt

pub sum_reads : Always expr_marks IsGivenExpr marked_sum
sum_reads e g rest = expr_reads (suc (length (expr_marks e ++ rest))) e g (omega (arith, length-append (expr_marks e) rest)) rest

pub test_reads : Always predicate_marks IsGivenPredicate marked_test
test_reads p g rest = predicate_reads (suc (length (predicate_marks p ++ rest))) p g (omega (arith, length-append (predicate_marks p) rest)) rest

-- ---- a predicate does not begin with 0

value_starts : (v : Value) (place : ℕ) (m : List Mark) → Starts (value_marks v place ++ m)
value_starts Null place m = tt
value_starts (Int n) place m = tt
value_starts (Text text) place m = tt
value_starts (Date day) place m = tt

operand_starts : (a : Operand) → Starts (operand_marks a)
operand_starts (operand.Column c) = starts_on (column_marks c) (Way 0 ∷ []) (qualified_starts c.table c.name)
operand_starts (operand.Literal l) = value_starts l.value l.place (Way 1 ∷ [])

unit_starts : (u : Test) → Starts (unit_marks u)
unit_starts = by_unit (λ u. Starts (unit_marks u))
    (λ u. subst Starts (sym (marks-Not u)) tt)
    (λ p. subst Starts (sym (marks-Group p)) tt)
    (λ a c b. subst Starts (sym (marks-Compare a c b)) (starts_on (operand_marks a) _ (operand_starts a)))
    (λ a negated. subst Starts (sym (marks-IsNull a negated)) (starts_on (operand_marks a) _ (operand_starts a)))
    (λ a negated literals. subst Starts (sym (marks-In a negated literals)) (starts_on (operand_marks a) _ (operand_starts a)))
    (λ a negated least greatest. subst Starts (sym (marks-Between a negated least greatest)) (starts_on (operand_marks a) _ (operand_starts a)))
    (λ c front. subst Starts (sym (marks-StartsWith c front)) (starts_on (column_marks c) _ (qualified_starts c.table c.name)))

conjunction_starts : (c : Conjunction) → Starts (conjunction_marks c)
conjunction_starts = by_conjunction (λ c. Starts (conjunction_marks c)) (λ u others. subst Starts (sym (marks-Conjunction u others)) (starts_on (unit_marks u) _ (unit_starts u)))

pub predicate_starts : (p : Predicate) → Starts (predicate_marks p)
predicate_starts = by_predicate (λ p. Starts (predicate_marks p)) (λ c others. subst Starts (sym (marks-Predicate c others)) (starts_on (conjunction_marks c) _ (conjunction_starts c)))

-- ---- items

count_whole : (place : ℕ) (table : Option Name) (name : Name) (rest : List Mark) → marked_item ((At place ∷ (qualified table name ++ Way 5 ∷ [])) ++ rest) ≡ Some (item.Count place (record { table = table; name = name }), rest)
count_whole place None name rest = refl
count_whole place (Some front) name rest = refl

sum_whole : (place : ℕ) (table : Option Name) (name : Name) (rest : List Mark) → marked_item ((At place ∷ (qualified table name ++ Way 6 ∷ [])) ++ rest) ≡ Some (item.Sum place (record { table = table; name = name }), rest)
sum_whole place None name rest = refl
sum_whole place (Some front) name rest = refl

min_whole : (place : ℕ) (table : Option Name) (name : Name) (rest : List Mark) → marked_item ((At place ∷ (qualified table name ++ Way 7 ∷ [])) ++ rest) ≡ Some (item.Min place (record { table = table; name = name }), rest)
min_whole place None name rest = refl
min_whole place (Some front) name rest = refl

max_whole : (place : ℕ) (table : Option Name) (name : Name) (rest : List Mark) → marked_item ((At place ∷ (qualified table name ++ Way 8 ∷ [])) ++ rest) ≡ Some (item.Max place (record { table = table; name = name }), rest)
max_whole place None name rest = refl
max_whole place (Some front) name rest = refl

pub item_reads : Always item_marks IsGivenItem marked_item
item_reads (item.Expr e) g rest =
    ap marked_item (append_assoc (expr_marks e) (Way 0 ∷ []) rest)
    ∙ ap (λ (o : Option (Expr × List Mark)). first_of (go_on o expr_item) (marked_aggregate (expr_marks e ++ (Way 0 ∷ rest)))) (sum_reads e g (Way 0 ∷ rest))
item_reads (item.CountAll place) g rest = refl
item_reads (item.Count place c) g rest = count_whole place c.table c.name rest
item_reads (item.Sum place c) g rest = sum_whole place c.table c.name rest
item_reads (item.Min place c) g rest = min_whole place c.table c.name rest
item_reads (item.Max place c) g rest = max_whole place c.table c.name rest

all_reads_star : (here : ℕ) (schema : Option Name) (name : Name) (rest : List Mark) → marked_selection (selection_marks (selection.All here) ++ (qualified schema name ++ rest)) ≡ Some (selection.All here, qualified schema name ++ rest)
all_reads_star here None name rest = refl
all_reads_star here (Some front) name rest = refl

-- in front of a table's name
selection_reads : (s : Selection) → IsGivenSelection s → (t : TableName) (rest : List Mark) → marked_selection (selection_marks s ++ (table_marks t ++ rest)) ≡ Some (s, table_marks t ++ rest)
selection_reads (selection.All here) g t rest = all_reads_star here t.schema t.name rest
selection_reads (selection.Listed items) g t rest =
    let m = listed_marks (map item_marks items) in
    let z = Way 1 ∷ (table_marks t ++ rest) in
    ap marked_selection (append_assoc m (Way 1 ∷ []) (table_marks t ++ rest))
    ∙ ap (λ (o : Option (List Item × List Mark)). first_of (go_on o (present selection.Listed)) (all_star (m ++ z))) (listed_reads item_marks IsGivenItem marked_item item_reads items g z)

-- ---- moments

factors_read : (negative : Bool) (factors : List Number) → IsListed (λ n. ⊤) factors → (rest : List Mark) → go_on (marked_listed marked_number ((listed_marks (map number_marks factors) ++ Way 1 ∷ []) ++ rest)) (offset_of negative) ≡ Some (moment.Offset (record { negative = negative; factors = factors }), rest)
factors_read negative factors g rest = in_front (marked_listed marked_number) (offset_of negative) (listed_marks (map number_marks factors)) (Way 1 ∷ []) rest factors (listed_reads number_marks (λ n. ⊤) marked_number number_reads factors g (Way 1 ∷ rest))

offset_reads : (negative : Bool) (factors : List Number) → IsListed (λ n. ⊤) factors → (rest : List Mark) → marked_moment (((flag_marks negative ++ listed_marks (map number_marks factors)) ++ Way 1 ∷ []) ++ rest) ≡ Some (moment.Offset (record { negative = negative; factors = factors }), rest)
offset_reads false factors g rest = factors_read false factors g rest
offset_reads true factors g rest = factors_read true factors g rest

moment_reads : Always moment_marks IsGivenMoment marked_moment
moment_reads (moment.Timestamp n) g rest = refl
moment_reads (moment.Offset o) g rest = offset_reads o.negative o.factors g rest
moment_reads (moment.Statement q) g rest = refl

side_reads : (s : Side) (m : Moment) → IsGivenMoment m → (rest : List Mark) → marked_clause ((side_marks s ++ moment_marks m) ++ rest) ≡ Some (record { side = s; moment = m }, rest)
side_reads side.At m g rest = ap (λ (o : Option (Moment × List Mark)). go_on o (clause_at side.At)) (moment_reads m g rest)
side_reads side.Before m g rest = ap (λ (o : Option (Moment × List Mark)). go_on o (clause_at side.Before)) (moment_reads m g rest)

pub clause_reads : Always clause_marks IsGivenClause marked_clause
clause_reads c g rest = side_reads c.side c.moment g rest

side_starts : (s : Side) (m : List Mark) → Starts (side_marks s ++ m)
side_starts side.At m = tt
side_starts side.Before m = tt

pub clause_starts : (c : Clause) → Starts (clause_marks c)
clause_starts c = side_starts c.side (moment_marks c.moment)

-- ---- keys

key_column_reads : (table : Option Name) (name : Name) (descending : Bool) (rest : List Mark) → marked_key (((qualified table name ++ Way 0 ∷ []) ++ flag_marks descending) ++ rest) ≡ Some (record { by = key.Column (record { table = table; name = name }); descending = descending }, rest)
key_column_reads None name false rest = refl
key_column_reads None name true rest = refl
key_column_reads (Some front) name false rest = refl
key_column_reads (Some front) name true rest = refl

key_position_reads : (n : Number) (descending : Bool) (rest : List Mark) → marked_key (((number_marks n ++ Way 1 ∷ []) ++ flag_marks descending) ++ rest) ≡ Some (record { by = key.Position n; descending = descending }, rest)
key_position_reads n false rest = refl
key_position_reads n true rest = refl

by_reads : (by : KeyColumn) (descending : Bool) (rest : List Mark) → marked_key ((key_column_marks by ++ flag_marks descending) ++ rest) ≡ Some (record { by = by; descending = descending }, rest)
by_reads (key.Column c) descending rest = key_column_reads c.table c.name descending rest
by_reads (key.Position n) descending rest = key_position_reads n descending rest

pub key_reads : Always key_marks (λ k. ⊤) marked_key
key_reads k g rest = by_reads k.by k.descending rest

by_starts : (by : KeyColumn) (m : List Mark) → Starts (key_column_marks by ++ m)
by_starts (key.Column c) m = starts_on (column_marks c ++ Way 0 ∷ []) m (starts_on (column_marks c) (Way 0 ∷ []) (qualified_starts c.table c.name))
by_starts (key.Position n) m = tt

-- ---- queries

pub always_there : {A : Type 0} (o : Option A) → WhenThere (λ x. ⊤) o
always_there None = tt
always_there (Some x) = tt

always_each : {A : Type 0} (xs : List A) → Each (λ x. ⊤) xs
always_each [] = tt
always_each (x ∷ xs) = (tt, always_each xs)

-- ---- further tables

source_reads : Always source_marks IsGivenSource marked_source
source_reads s g rest =
    in_front marked_table source_behind (table_marks s.table) (maybe_marks clause_marks s.clause) rest s.table (table_reads s.table (maybe_marks clause_marks s.clause ++ rest))
    ∙ ap (λ (z : Option (Option Clause × List Mark)). go_on z (made_source s.table)) (maybe_reads clause_marks IsGivenClause marked_clause clause_reads (λ x h. clause_starts x) s.clause g rest)

pair_reads : Always pair_marks (λ p. ⊤) marked_pair
pair_reads p g rest =
    in_front marked_column pair_behind (column_marks p.left) (column_marks p.right) rest p.left (column_reads p.left tt (column_marks p.right ++ rest))
    ∙ ap (λ (z : Option (ColumnName × List Mark)). go_on z (made_pair p.left)) (column_reads p.right tt rest)

join_reads : Always join_marks IsGivenJoin marked_join
join_reads j g rest =
    let pairs = listed_marks (map pair_marks j.pairs) in
    in_front marked_source join_behind (source_marks j.source) pairs rest j.source (source_reads j.source g.0 (pairs ++ rest))
    ∙ ap (λ (z : Option (List Pair × List Mark)). go_on z (made_join j.source)) (listed_reads pair_marks (λ p. ⊤) marked_pair pair_reads j.pairs g.1 rest)

-- ---- queries

pub query_reads : Always query_marks IsGivenQuery marked_query
query_reads q g rest =
    let limit = maybe_marks number_marks q.limit in
    let order = maybe_listed (map key_marks q.order) in
    let group = maybe_listed (map column_marks q.group) in
    let filter = maybe_marks predicate_marks q.filter in
    let joins = joins_marks q.joins in
    let clause = maybe_marks clause_marks q.first.clause in
    let tail = clause ++ (joins ++ (filter ++ (group ++ (order ++ limit)))) in
    in_front marked_selection (behind_selection q.place) (selection_marks q.selection) (table_marks q.first.table ++ tail) rest q.selection (selection_reads_front tail)
    ∙ in_front marked_table (behind_table q.place q.selection) (table_marks q.first.table) tail rest q.first.table (table_reads q.first.table (tail ++ rest))
    ∙ in_front (marked_maybe marked_clause) (behind_clause q.place q.selection q.first.table) clause (joins ++ (filter ++ (group ++ (order ++ limit)))) rest q.first.clause (maybe_reads clause_marks IsGivenClause marked_clause clause_reads (λ x h. clause_starts x) q.first.clause g.source ((joins ++ (filter ++ (group ++ (order ++ limit)))) ++ rest))
    ∙ in_front (marked_all marked_join) (behind_joins q.place q.selection q.first) joins (filter ++ (group ++ (order ++ limit))) rest q.joins (always_all join_marks IsGivenJoin marked_join join_reads q.joins g.joins ((filter ++ (group ++ (order ++ limit))) ++ rest))
    ∙ in_front (marked_maybe marked_test) (behind_filter q.place q.selection q.first q.joins) filter (group ++ (order ++ limit)) rest q.filter (maybe_reads predicate_marks IsGivenPredicate marked_test test_reads (λ x h. predicate_starts x) q.filter g.filter ((group ++ (order ++ limit)) ++ rest))
    ∙ in_front (marked_maybe_listed marked_column) (behind_group q.place q.selection q.first q.joins q.filter) group (order ++ limit) rest q.group (maybe_listed_reads column_marks (λ c. ⊤) marked_column column_reads (λ x. qualified_starts x.table x.name) q.group (always_each q.group) ((order ++ limit) ++ rest))
    ∙ in_front (marked_maybe_listed marked_key) (behind_order q.place q.selection q.first q.joins q.filter q.group) order limit rest q.order (maybe_listed_reads key_marks (λ k. ⊤) marked_key key_reads (λ x. by_starts x.by (flag_marks x.descending)) q.order (always_each q.order) (limit ++ rest))
    ∙ ap (λ (z : Option (Option Number × List Mark)). go_on z (made q.place q.selection q.first q.joins q.filter q.group q.order)) (maybe_reads number_marks (λ n. ⊤) marked_number number_reads (λ n h. tt) q.limit (always_there q.limit) rest)
  where
    selection_reads_front : (tail : List Mark) → marked_selection (selection_marks q.selection ++ ((table_marks q.first.table ++ tail) ++ rest)) ≡ Some (q.selection, (table_marks q.first.table ++ tail) ++ rest)
    selection_reads_front tail = subst (λ (z : List Mark). marked_selection (selection_marks q.selection ++ z) ≡ Some (q.selection, z)) (sym (append_assoc (table_marks q.first.table) tail rest)) (selection_reads q.selection g.selection q.first.table (tail ++ rest))

-- ---- the tree is determined

pub one_always : {A : Type 0} (marks : A → List Mark) (ok : A → Type 0) (r : Reader A) → Always marks ok r → (a b : A) → ok a → ok b → marks a ≡ marks b → a ≡ b
one_always marks ok r good = one_tree marks ok (λ n. r) (λ n x o less rest. good x o rest)

pub one_query : (a b : Query) → IsGivenQuery a → IsGivenQuery b → query_marks a ≡ query_marks b → a ≡ b
one_query = one_always query_marks IsGivenQuery marked_query query_reads

pub one_join : (a b : Join) → IsGivenJoin a → IsGivenJoin b → join_marks a ≡ join_marks b → a ≡ b
one_join = one_always join_marks IsGivenJoin marked_join join_reads

pub one_column : (a b : ColumnName) → IsAny a → IsAny b → column_marks a ≡ column_marks b → a ≡ b
one_column = one_always column_marks IsAny marked_column column_reads

pub one_table : (a b : TableName) → IsAny a → IsAny b → table_marks a ≡ table_marks b → a ≡ b
one_table = one_always table_marks IsAny marked_table (λ t g rest. table_reads t rest)
