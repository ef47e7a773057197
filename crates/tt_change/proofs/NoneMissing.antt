-- In the rows of an INSERT of written rows that is not refused no NULL stands where none may.
use Rattle.std.proofs.Common.{◌≡◌, ℕ, zero, suc, ◌+◌, ◌<◌, Bool, true, false, List, [], ◌∷◌, length, map, Option, Some, None, refl, sym, ap, ◌∙◌, subst, arith}
use Rattle.std.specs.Prelude.{◌&&◌, ◌==◌, not, is_some, slice_get, if◌then◌else◌, option_and_then, ℤ}
use Rattle.std.specs.Option.{option_map}
use Rattle.std.specs.List.{list_any, position, zip, range_with_len}
use Rattle.std.specs.Str.{bytes_eq}
use Rattle.std.proofs.lemmas.Bool.{false≢true}
use Rattle.std.proofs.lemmas.Bool.Decides.{nat_tests, same_from_decides, Decides-like}
use Rattle.std.proofs.lemmas.Option.{none-some, same_Some, slice_get_within}
use Rattle.std.proofs.lemmas.Slice.Eq.{bytes_eq-Decides}
use Rattle.tt_value.specs.declared.value.Value.{Value}
use Rattle.tt_value.specs.declared.value.Value.TheVariants.{Null, Int, Date, Text}
use Rattle.tt_value.specs.declared.value.Kind.{Kind}
use Rattle.tt_value.specs.declared.value.Kind.TheVariants as kinds
use Rattle.tt_value.specs.declared.value.Column.{Column}
use Rattle.tt_value.specs.declared.value.Schema.{Schema}
use Rattle.tt_value.specs.declared.value.Row.{Row}
use Rattle.tt_value.specs.declared.name.Name.{Name}
use Rattle.tt_value.specs.declared.name.Literal.{Literal}
use Rattle.tt_value.specs.trees.Scope.{beside, date_or_null, value_or_null}
use Rattle.tt_value.specs.calendar.Reading.{day_of}
use Rattle.tt_value.specs.trees.Predicates.{is_null}
use Rattle.tt_sql.specs.declared.change.Insert.{Insert}
use Rattle.tt_sql.specs.declared.change.InsertSource.TheVariants as source
use Rattle.tt_sql.specs.declared.change.Tuple.{Tuple}
use Rattle.tt_sql.specs.declared.change.Dml.TheVariants as dml
use Rattle.tt_sql.specs.declared.statement.Statement.TheVariants as statement
use Rattle.tt_sql.specs.meaning.Changes.{is_missing, is_missing_at, first_missing, for_column, given_value, in_order, stored_row, tuple_values}
use Rattle.tt_plain.specs.Places.{each, each_at, if_there, table_begin}
use Rattle.tt_plain.specs.Columns.{target_column}
use Rattle.tt_plain.specs.Kinds.{literal_fits, unless, misfit_literal}
use Rattle.tt_plain.specs.TypeMismatches.{kind_in, misfit_value, misfit_in_tuple}
use Rattle.tt_plain.specs.NullsInNotNull.{null_literal, null_value, nulls_in_tuple, is_left_out, left_out}
use Rattle.tt_plain.specs.WrongCounts.{is_name, width, unless_equal, named_again, miscounted_tuple}
use Rattle.tt_plain.specs.TypingRefusal.{IsWellTyped}
use Rattle.tt_plain.proofs.Lists.{nil_both, nil_each, any_false, same_bytes, position_none, position_passes, position_misses}
use Rattle.tt_plain.specs.ValueKinds.{IsFoundByName}

-- ---- lists

nil_each_at : {A : Type 0} (f : ℕ → A → List ℕ) (n : ℕ) (xs : List A) (k : ℕ) (x : A) → each_at f n xs ≡ [] → slice_get xs k ≡ Some x → f (n + k) x ≡ []
nil_each_at f n [] k x none at = absurd (none-some x at)
nil_each_at f n (first ∷ xs) zero x none at =
    let here : n + 0 ≡ n = omega arith in
    rw here (subst (λ y. f n y ≡ []) (same_Some first x at) (nil_both (f n first) (each_at f (n + 1) xs) none).0)
nil_each_at f n (first ∷ xs) (suc k) x none at =
    let further : n + suc k ≡ n + 1 + k = omega arith in
    rw further (nil_each_at f (n + 1) xs k x (nil_both (f n first) (each_at f (n + 1) xs) none).1 at)

nil_at : {A : Type 0} (f : ℕ → A → List ℕ) (xs : List A) (k : ℕ) (x : A) → each_at f 0 xs ≡ [] → slice_get xs k ≡ Some x → f k x ≡ []
nil_at f xs k x none at = let start : 0 + k ≡ k = omega arith in subst (λ j. f j x ≡ []) start (nil_each_at f 0 xs k x none at)

any_none : {A : Type 0} (test : A → Bool) (xs : List A) → ((k : ℕ) (x : A) → slice_get xs k ≡ Some x → test x ≡ false) → list_any test xs ≡ false
any_none test [] each = refl
any_none test (x ∷ xs) each = rw (each 0 x refl) (any_none test xs (λ k y at. each (suc k) y at))

map_at : {A B : Type 0} (f : A → B) (xs : List A) (k : ℕ) (y : B) → slice_get (map f xs) k ≡ Some y → (x : A) × (slice_get xs k ≡ Some x) × (f x ≡ y)
map_at f [] k y at = absurd (none-some y at)
map_at f (x ∷ xs) zero y at = (x, refl, same_Some (f x) y at)
map_at f (x ∷ xs) (suc k) y at = map_at f xs k y at

item_there : {A : Type 0} (xs : List A) (k : ℕ) → k < length xs → (x : A) × (slice_get xs k ≡ Some x)
item_there [] k less = absurd (omega (arith, less))
item_there (x ∷ xs) zero less = (x, refl)
item_there (x ∷ xs) (suc k) less = item_there xs k (omega (arith, less))

map_get : {A B : Type 0} (f : A → B) (xs : List A) (k : ℕ) (x : A) → slice_get xs k ≡ Some x → slice_get (map f xs) k ≡ Some (f x)
map_get f [] k x at = absurd (none-some x at)
map_get f (y ∷ xs) zero x at = ap (λ z. Some (f z)) (same_Some y x at)
map_get f (y ∷ xs) (suc k) x at = map_get f xs k x at

zip_parts : {A B : Type 0} (xs : List A) (ys : List B) (k : ℕ) (cell : A × B) → slice_get (zip xs ys) k ≡ Some cell → (slice_get xs k ≡ Some cell.0) × (slice_get ys k ≡ Some cell.1)
zip_parts [] ys k cell at = absurd (none-some cell at)
zip_parts (x ∷ xs) [] k cell at = absurd (none-some cell at)
zip_parts {A} {B} (x ∷ xs) (y ∷ ys) zero cell at = let same = same_Some (x, y) cell at in (ap (λ (c : A × B). Some c.0) same, ap (λ (c : A × B). Some c.1) same)
zip_parts (x ∷ xs) (y ∷ ys) (suc k) cell at = zip_parts xs ys k cell at

-- ---- a value in its column

not_listed : (b : Bool) (place : ℕ) → (if b then place ∷ [] else []) ≡ [] → b ≡ false
not_listed true place e = absurd cc
not_listed false place e = refl

holds_unless : (b : Bool) (place : ℕ) → unless b place ≡ [] → b ≡ true
holds_unless true place e = refl
holds_unless false place e = absurd cc

equal_unless : (place a b : ℕ) → unless_equal place a b ≡ [] → a ≡ b
equal_unless place a b e = by (a == b) refl e
  where
    by : (test : Bool) → (a == b) ≡ test → (if test then [] else place ∷ []) ≡ [] → a ≡ b
    by true h f = grind (arith, nat_tests)
    by false h f = absurd cc

and_none : (b : Bool) → (b && false) ≡ false
and_none true = refl
and_none false = refl

date_there : (day : Option ℤ) → is_some day ≡ true → is_null (date_or_null day) ≡ false
date_there None e = absurd (false≢true e)
date_there (Some day) e = refl

fills : (nullable : Bool) (kind : Kind) (v : Value) → (not nullable && is_null v) ≡ false → literal_fits (Some kind) v ≡ true → (not nullable && is_null (beside (Some kind) v)) ≡ false
fills nullable kinds.Int v filled fits = filled
fills nullable kinds.Varchar v filled fits = filled
fills nullable kinds.Date Null filled fits = filled
fills nullable kinds.Date (Int n) filled fits = filled
fills nullable kinds.Date (Date day) filled fits = filled
fills nullable kinds.Date (Text bytes) filled fits = rw (date_there (day_of bytes) fits) (and_none (not nullable))

-- a NULL stands in no column that takes none
abbrev IsFilled : Column × Value → Type 0
IsFilled cell = is_missing (Some (cell.0, for_column cell.0 cell.1)) ≡ false

literal_fills : (column : Column) (l : Literal) → null_literal (Some column) l ≡ [] → misfit_literal (Some column.kind) l ≡ [] → IsFilled (column, l.value)
literal_fills column l nulls kinds =
    fills column.nullable column.kind l.value (not_listed (not column.nullable && is_null l.value) l.place nulls) (holds_unless (literal_fits (Some column.kind) l.value) l.place kinds)

null_fills : (column : Column) → (not column.nullable) ≡ false → IsFilled (column, Null)
null_fills column e = rw e refl

-- ---- a tuple

pub record IsTupleAccepted (schema : Schema) (names : Option (List Name)) (t : Tuple) : Type 0 where
  count : length t.values ≡ width schema names
  kinds : misfit_in_tuple schema names t ≡ []
  nulls : nulls_in_tuple schema names t ≡ []

place_fills : (schema : Schema) (names : Option (List Name)) (t : Tuple) (k : ℕ) (l : Literal) (column : Column) → IsTupleAccepted schema names t → slice_get t.values k ≡ Some l → target_column schema names k ≡ Some column → IsFilled (column, l.value)
place_fills schema names t k l column accepted at target =
    let nulls = subst (λ c. null_literal c l ≡ []) target (nil_at (null_value schema names) t.values k l accepted.nulls at) in
    let kinds = subst (λ c. misfit_literal (kind_in c) l ≡ []) target (nil_at (misfit_value schema names) t.values k l accepted.kinds at) in
    literal_fills column l nulls kinds

-- without a list, by its place
plain_fills : (schema : Schema) (t : Tuple) (k : ℕ) (cell : Column × Value) → IsTupleAccepted schema None t → slice_get (zip schema.columns (tuple_values t)) k ≡ Some cell → IsFilled cell
plain_fills schema t k cell accepted at =
    let parts = zip_parts schema.columns (tuple_values t) k cell at in
    let literal = map_at (λ (l : Literal). l.value) t.values k cell.1 parts.1 in
    subst (λ v. IsFilled (cell.0, v)) literal.2 (place_fills schema None t k literal.0 cell.0 accepted literal.1 parts.0)

bytes_turn : (a b : List ℕ) → bytes_eq a b ≡ bytes_eq b a
bytes_turn a b = same_from_decides (bytes_eq a b) (bytes_eq b a) (bytes_eq-Decides a b) (Decides-like (bytes_eq b a) sym sym (bytes_eq-Decides b a))

-- with a list, by its name: a column that is left out takes NULL
left_fills : (schema : Schema) (names : List Name) (place k : ℕ) (column : Column) → left_out schema place names ≡ [] → slice_get schema.columns k ≡ Some column → position (λ (name : Name). bytes_eq name.text column.name) names ≡ None → IsFilled (column, Null)
left_fills schema names place k column left at misses =
    let none = not_listed (list_any (is_left_out names) schema.columns) place left in
    let here = any_false (is_left_out names) schema.columns k column none at in
    let unnamed : list_any (is_name column.name) names ≡ false = any_none (is_name column.name) names (λ j name is. bytes_turn column.name name.text ∙ any_false (λ (n : Name). bytes_eq n.text column.name) names j name (position_misses (λ (n : Name). bytes_eq n.text column.name) names misses) is) in
    null_fills column (takes (not column.nullable) (list_any (is_name column.name) names) unnamed here)
  where
    takes : (a b : Bool) → b ≡ false → (a && not b) ≡ false → a ≡ false
    takes true b e h = absurd (false≢true (sym h ∙ ap not e))
    takes false b e h = refl

named_fills : (schema : Schema) (names : List Name) (t : Tuple) (k p : ℕ) (column : Column) → IsFoundByName schema → IsTupleAccepted schema (Some names) t → slice_get schema.columns k ≡ Some column → position (λ (name : Name). bytes_eq name.text column.name) names ≡ Some p → IsFilled (column, value_or_null (slice_get (tuple_values t) p))
named_fills schema names t k p column found accepted at is =
    let passes = position_passes (λ (name : Name). bytes_eq name.text column.name) names p is in
    let same : passes.item.text ≡ column.name = same_bytes passes.item.text column.name passes.passes in
    let literal = item_there t.values p (omega (arith, accepted.count, slice_get_within names p passes.item passes.at)) in
    let value : slice_get (tuple_values t) p ≡ Some literal.0.value = map_get (λ (l : Literal). l.value) t.values p literal.0 literal.1 in
    let target : target_column schema (Some names) p ≡ Some column = rw (passes.at, same, found k column at) at in
    rw value (place_fills schema (Some names) t p literal.0 column accepted literal.1 target)

given_fills : (schema : Schema) (names : List Name) (place : ℕ) (t : Tuple) (k : ℕ) (column : Column) → IsFoundByName schema → IsTupleAccepted schema (Some names) t → left_out schema place names ≡ [] → slice_get schema.columns k ≡ Some column → (p : Option ℕ) → position (λ (name : Name). bytes_eq name.text column.name) names ≡ p → IsFilled (column, value_or_null (option_and_then (slice_get (tuple_values t)) p))
given_fills schema names place t k column found accepted left at None is = left_fills schema names place k column left at is
given_fills schema names place t k column found accepted left at (Some p) is = named_fills schema names t k p column found accepted at is

listed_fills : (schema : Schema) (names : List Name) (place : ℕ) (t : Tuple) (k : ℕ) (cell : Column × Value) → IsFoundByName schema → IsTupleAccepted schema (Some names) t → left_out schema place names ≡ [] → slice_get (zip schema.columns (map (given_value names (tuple_values t)) schema.columns)) k ≡ Some cell → IsFilled cell
listed_fills schema names place t k cell found accepted left at =
    let parts = zip_parts schema.columns (map (given_value names (tuple_values t)) schema.columns) k cell at in
    let given = map_get (given_value names (tuple_values t)) schema.columns k cell.0 parts.0 in
    subst (λ v. IsFilled (cell.0, v)) (same_Some (given_value names (tuple_values t) cell.0) cell.1 (sym given ∙ parts.1))
    (given_fills schema names place t k cell.0 found accepted left parts.0 (position (λ (name : Name). bytes_eq name.text cell.0.name) names) refl)

cell_fills : (schema : Schema) (names : Option (List Name)) (place : ℕ) (t : Tuple) (k : ℕ) (cell : Column × Value) → IsFoundByName schema → IsTupleAccepted schema names t → if_there (left_out schema place) names ≡ [] → slice_get (zip schema.columns (in_order schema names (tuple_values t))) k ≡ Some cell → IsFilled cell
cell_fills schema None place t k cell found accepted left at = plain_fills schema t k cell accepted at
cell_fills schema (Some names) place t k cell found accepted left at = listed_fills schema names place t k cell found accepted left at

-- ---- the row that is stored

abbrev stored_value : Column × Value → Value
stored_value cell = for_column cell.0 cell.1

stored_cell : (columns : List Column) (values : List Value) (k : ℕ) → slice_get (zip columns (map stored_value (zip columns values))) k ≡ option_map (λ (cell : Column × Value). (cell.0, stored_value cell)) (slice_get (zip columns values) k)
stored_cell [] values k = refl
stored_cell (column ∷ columns) [] k = refl
stored_cell (column ∷ columns) (value ∷ values) zero = refl
stored_cell (column ∷ columns) (value ∷ values) (suc k) = stored_cell columns values k

filled_or_none : (found : Option (Column × Value)) → ((cell : Column × Value) → found ≡ Some cell → IsFilled cell) → is_missing (option_map (λ (cell : Column × Value). (cell.0, stored_value cell)) found) ≡ false
filled_or_none None filled = refl
filled_or_none (Some cell) filled = filled cell refl

row_fills : (schema : Schema) (names : Option (List Name)) (place : ℕ) (t : Tuple) (k : ℕ) → IsFoundByName schema → IsTupleAccepted schema names t → if_there (left_out schema place) names ≡ [] → is_missing_at schema k (stored_row schema names (tuple_values t)) ≡ false
row_fills schema names place t k found accepted left =
    let values = in_order schema names (tuple_values t) in
    ap is_missing (stored_cell schema.columns values k)
    ∙ filled_or_none (slice_get (zip schema.columns values) k) (λ cell at. cell_fills schema names place t k cell found accepted left at)

-- ---- the statement

abbrev rows_of_tuples : Schema → Option (List Name) → List Tuple → List Row
rows_of_tuples schema names tuples = map (stored_row schema names) (map tuple_values tuples)

pub none_missing : (schema : Schema) (names : Option (List Name)) (place : ℕ) (tuples : List Tuple) → IsFoundByName schema → ((k : ℕ) (t : Tuple) → slice_get tuples k ≡ Some t → IsTupleAccepted schema names t) → if_there (left_out schema place) names ≡ [] → first_missing schema (rows_of_tuples schema names tuples) ≡ None
none_missing schema names place tuples found accepted left =
    position_none (λ k. list_any (is_missing_at schema k) (rows_of_tuples schema names tuples)) (range_with_len 0 (length schema.columns)) (λ j k at.
    any_none (is_missing_at schema k) (rows_of_tuples schema names tuples) (λ i row here.
    let stored = map_at (stored_row schema names) (map tuple_values tuples) i row here in
    let tuple = map_at tuple_values tuples i stored.0 stored.1 in
    subst (λ (r : Row). is_missing_at schema k r ≡ false) (ap (stored_row schema names) tuple.2 ∙ stored.2) (row_fills schema names place tuple.0 k found (accepted i tuple.0 tuple.1) left)))

-- an INSERT of these tuples
pub tuples_accepted : (schema : Schema) (insert : Insert) (tuples : List Tuple) → insert.source ≡ source.Values tuples → IsWellTyped (schema ∷ []) (statement.Dml (dml.Insert insert)) → (k : ℕ) (t : Tuple) → slice_get tuples k ≡ Some t → IsTupleAccepted schema insert.columns t
tuples_accepted schema insert tuples is typed k t at =
    let counts = nil_both (if_there (named_again schema) insert.columns) (each (miscounted_tuple (width schema insert.columns)) tuples) (rw is at typed.counts) in
    let nulls = nil_both (if_there (left_out schema (table_begin insert.table)) insert.columns) (each (nulls_in_tuple schema insert.columns) tuples) (rw is at typed.nulls) in
    record {
      count = equal_unless t.place (length t.values) (width schema insert.columns) (nil_each (miscounted_tuple (width schema insert.columns)) tuples k t counts.1 at);
      kinds = nil_each (misfit_in_tuple schema insert.columns) tuples k t (rw is at typed.kinds) at;
      nulls = nil_each (nulls_in_tuple schema insert.columns) tuples k t nulls.1 at;
    }

pub left_accepted : (schema : Schema) (insert : Insert) (tuples : List Tuple) → insert.source ≡ source.Values tuples → IsWellTyped (schema ∷ []) (statement.Dml (dml.Insert insert)) → if_there (left_out schema (table_begin insert.table)) insert.columns ≡ []
left_accepted schema insert tuples is typed =
    (nil_both (if_there (left_out schema (table_begin insert.table)) insert.columns) (each (nulls_in_tuple schema insert.columns) tuples) (rw is at typed.nulls)).0
