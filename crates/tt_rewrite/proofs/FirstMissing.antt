-- The first column with a NULL that may not be there, of rows joined.
use Rattle.std.proofs.Common.{◌≡◌, ◌∙◌, ℕ, zero, suc, ◌+◌, ◌<◌, ◌≤◌, min, get_or, Bool, true, false, cond, nat_lt, not, List, [], ◌∷◌, ◌++◌, length, Option, Some, None, refl, ap, sym, arith}
use Rattle.std.specs.Prelude.{◌||◌, ◌&&◌, slice_get}
use Rattle.std.specs.List.{list_any, position, position_or_len, range_with_len, zip}
use Rattle.std.proofs.lemmas.Bool.Decides.{nat_tests}
use Rattle.std.proofs.lemmas.Option.{slice_get_within}
use Rattle.std.proofs.lemmas.List.Folds.{list_any-append}
use Rattle.std.proofs.lemmas.List.FromFn.{get_or-range_with_len, length-range_with_len}
use Rattle.std.proofs.lemmas.List.Sums.{position_or_len_is}
use Rattle.tt_value.specs.declared.value.Column.{Column}
use Rattle.tt_value.specs.declared.value.Row.{Row}
use Rattle.tt_value.specs.declared.value.Schema.{Schema}
use Rattle.tt_value.specs.declared.value.Value.{Value}
use Rattle.tt_value.specs.trees.Predicates.{is_null}
use Rattle.tt_sql.specs.meaning.Changes.{first_missing, is_missing, is_missing_at}
use Rattle.tt_plain.proofs.Lists.{position_none, position_passes}
use Rattle.tt_rewrite.specs.Renewed.{earlier}

module _ (a b : ℕ → Bool) where
  either : (x y : Bool) (r m n : ℕ) → r ≡ min m n → cond (not (x || y)) (1 + r) 0 ≡ min (cond (not x) (1 + m) 0) (cond (not y) (1 + n) 0)
  either true y r m n is = omega arith
  either false true r m n is = omega arith
  either false false r m n is = omega (arith, is)

  either_len : (xs : List ℕ) → position_or_len (λ k. a k || b k) xs ≡ min (position_or_len a xs) (position_or_len b xs)
  either_len [] = omega arith
  either_len (x ∷ xs) = either (a x) (b x) (position_or_len (λ k. a k || b k) xs) (position_or_len a xs) (position_or_len b xs) (either_len xs)

abbrev if_below : ℕ → ℕ → Option ℕ
if_below k n = cond (nat_lt k n) (Some k) None

least_by : (m n end : ℕ) (x y : Bool) → nat_lt m end ≡ x → nat_lt n end ≡ y → if_below (min m n) end ≡ earlier (cond x (Some m) None) (cond y (Some n) None)
least_by m n end true true x y = let z : nat_lt (min m n) end ≡ true = grind (arith, nat_tests) in rw z refl
least_by m n end true false x y = let z : nat_lt (min m n) end ≡ true = grind (arith, nat_tests) in let w : min m n ≡ m = grind (arith, nat_tests) in rw (z, w) refl
least_by m n end false true x y = let z : nat_lt (min m n) end ≡ true = grind (arith, nat_tests) in let w : min m n ≡ n = grind (arith, nat_tests) in rw (z, w) refl
least_by m n end false false x y = let z : nat_lt (min m n) end ≡ false = grind (arith, nat_tests) in rw z refl

pub first_of_either : (a b : ℕ → Bool) (xs : List ℕ) → position (λ k. a k || b k) xs ≡ earlier (position a xs) (position b xs)
first_of_either a b xs =
    ap (λ n. if_below n (length xs)) (either_len a b xs)
    ∙ least_by (position_or_len a xs) (position_or_len b xs) (length xs) (nat_lt (position_or_len a xs) (length xs)) (nat_lt (position_or_len b xs) (length xs)) refl refl

same_len : (a b : ℕ → Bool) → ((k : ℕ) → a k ≡ b k) → (xs : List ℕ) → position_or_len a xs ≡ position_or_len b xs
same_len a b same [] = refl
same_len a b same (x ∷ xs) = rw (same x) (ap (λ n. cond (not (b x)) (1 + n) 0) (same_len a b same xs))

pub same_position : (a b : ℕ → Bool) → ((k : ℕ) → a k ≡ b k) → (xs : List ℕ) → position a xs ≡ position b xs
same_position a b same xs = ap (λ n. if_below n (length xs)) (same_len a b same xs)

module _ (schema : Schema) where
  pub missing_joined : (xs ys : List Row) → first_missing schema (xs ++ ys) ≡ earlier (first_missing schema xs) (first_missing schema ys)
  missing_joined xs ys =
      let all = range_with_len 0 (length schema.columns) in
      same_position (λ place. list_any (is_missing_at schema place) (xs ++ ys)) (λ place. list_any (is_missing_at schema place) xs || list_any (is_missing_at schema place) ys)
      (λ place. list_any-append (is_missing_at schema place) xs ys) all
      ∙ first_of_either (λ place. list_any (is_missing_at schema place) xs) (λ place. list_any (is_missing_at schema place) ys) all

pub earlier_assoc : (a b c : Option ℕ) → earlier (earlier a b) c ≡ earlier a (earlier b c)
earlier_assoc None b c = refl
earlier_assoc (Some a) None c = refl
earlier_assoc (Some a) (Some b) None = refl
earlier_assoc (Some a) (Some b) (Some c) = ap Some (omega arith)

pub earlier_none : (a : Option ℕ) → earlier a None ≡ a
earlier_none None = refl
earlier_none (Some a) = refl

pub none_missing_yet : (schema : Schema) → first_missing schema [] ≡ None
none_missing_yet schema = position_none (λ place. list_any (is_missing_at schema place) []) (range_with_len 0 (length schema.columns)) (λ k place at. refl)

-- ---- in one row

abbrev if_both : Option Column → Option Value → Bool
if_both None v = false
if_both (Some column) None = false
if_both (Some column) (Some v) = not column.nullable && is_null v

none_either : (c : Option Column) → if_both c None ≡ false
none_either None = refl
none_either (Some column) = refl

missing_cell : (columns : List Column) (values : List Value) (k : ℕ) (c : Option Column) (v : Option Value) → slice_get columns k ≡ c → slice_get values k ≡ v → is_missing (slice_get (zip columns values) k) ≡ if_both c v
missing_cell [] values k None v c_is v_is = refl
missing_cell [] values k (Some column) v c_is v_is = cc
missing_cell (column ∷ columns) [] zero c None c_is v_is = rw (sym c_is) refl
missing_cell (column ∷ columns) [] (suc k) None None c_is v_is = refl
missing_cell (column ∷ columns) [] (suc k) (Some other) None c_is v_is = refl
missing_cell (column ∷ columns) [] k c (Some v) c_is v_is = cc
missing_cell (column ∷ columns) (value ∷ values) zero c v c_is v_is = rw (sym c_is, sym v_is) refl
missing_cell (column ∷ columns) (value ∷ values) (suc k) c v c_is v_is = missing_cell columns values k c v c_is v_is

pub missing_there : (schema : Schema) (row : Row) (k : ℕ) (column : Column) (v : Value) → slice_get schema.columns k ≡ Some column → slice_get row.values k ≡ Some v → is_missing_at schema k row ≡ (not column.nullable && is_null v)
missing_there schema row k column v c_is v_is = missing_cell schema.columns row.values k (Some column) (Some v) c_is v_is

pub no_column : (schema : Schema) (row : Row) (k : ℕ) → slice_get schema.columns k ≡ None → is_missing_at schema k row ≡ false
no_column schema row k c_is = missing_cell schema.columns row.values k None (slice_get row.values k) c_is refl

pub no_value : (schema : Schema) (row : Row) (k : ℕ) → slice_get row.values k ≡ None → is_missing_at schema k row ≡ false
no_value schema row k v_is = missing_cell schema.columns row.values k (slice_get schema.columns k) None refl v_is ∙ none_either (slice_get schema.columns k)

or_false : (b : Bool) → (b || false) ≡ b
or_false true = refl
or_false false = refl

module _ (schema : Schema) (row : Row) where
  abbrev test : ℕ → Bool
  test place = list_any (is_missing_at schema place) (row ∷ [])

  abbrev places : List ℕ
  places = range_with_len 0 (length schema.columns)

  at_place : (k : ℕ) → k < length schema.columns → get_or places k 0 ≡ k
  at_place k below = get_or-range_with_len 0 (length schema.columns) k 0 below ∙ omega arith

  many : length places ≡ length schema.columns
  many = length-range_with_len 0 (length schema.columns)

  pub first_at : (place : ℕ) → place < length schema.columns → ((k : ℕ) → k < place → is_missing_at schema k row ≡ false) → is_missing_at schema place row ≡ true → first_missing schema (row ∷ []) ≡ Some place
  first_at place below before is =
      let len : position_or_len test places ≡ place = position_or_len_is test places place 0 (omega (arith, many, below))
      (λ k under. ap test (at_place k (omega (arith, under, below))) ∙ or_false (is_missing_at schema k row) ∙ before k under)
      (λ inside. ap test (at_place place below) ∙ or_false (is_missing_at schema place row) ∙ is) in
      let within : nat_lt place (length places) ≡ true = rw many (grind (arith, nat_tests)) in
      rw (len, within) refl

  pub none_at : (n : ℕ) → length schema.columns ≤ n → ((k : ℕ) → k < n → is_missing_at schema k row ≡ false) → first_missing schema (row ∷ []) ≡ None
  none_at n past before =
      let len : position_or_len test places ≡ length schema.columns = position_or_len_is test places (length schema.columns) 0 (omega (arith, many))
      (λ k under. ap test (at_place k under) ∙ or_false (is_missing_at schema k row) ∙ before k (omega (arith, under, past)))
      (λ inside. absurd (omega (arith, inside, many))) in
      let beyond : nat_lt (length schema.columns) (length places) ≡ false = rw many (grind (arith, nat_tests)) in
      rw (len, beyond) refl

pub first_below : (schema : Schema) (rows : List Row) (place : ℕ) → first_missing schema rows ≡ Some place → place < length schema.columns
first_below schema rows place is =
    let all = range_with_len 0 (length schema.columns) in
    let found = position_passes (λ k. list_any (is_missing_at schema k) rows) all place is in
    omega (arith, slice_get_within all place found.item found.at, length-range_with_len 0 (length schema.columns))
