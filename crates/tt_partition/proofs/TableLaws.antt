-- A table by rows and by columns is the same table.
use Rattle.std.proofs.Common.{◌≡◌, ℕ, zero, suc, ◌+◌, ◌≤◌, List, [], ◌∷◌, length, map, Some, refl, sym, ap, subst, ◌∙◌, arith}
use Rattle.std.specs.Prelude.{slice_get}
use Rattle.std.specs.Option.{option_map}
use Rattle.std.specs.List.{zip, range_with_len, AllByRecursion}
use Rattle.std.proofs.lemmas.List.{length-map}
use Rattle.std.proofs.lemmas.List.FromFn.{length-map-range_with_len}
use Rattle.std.proofs.lemmas.Option.{slice_get-map}
use Rattle.std.proofs.lemmas.Slice.Zip.{firsts-zip, seconds-zip}
use Rattle.tt_value.specs.declared.value.Kind.{Kind}
use Rattle.tt_value.specs.declared.value.Kind.TheVariants as kinds
use Rattle.tt_value.specs.declared.value.Value.{Value}
use Rattle.tt_value.specs.declared.value.Value.TheVariants.{Null}
use Rattle.tt_value.specs.declared.value.Row.{Row}
use Rattle.tt_value.specs.trees.Scope.{value_or_null}
use Rattle.tt_zone.specs.Zones.{column_at}
use Rattle.tt_partition.specs.Table.{Table, columns_of, row_of, table_of, IsOf, HasKinds, IsPart}

-- ---- lists by their places

tabulated_from : {X : Type 0} (xs : List X) (a : ℕ) (f : ℕ → X) → ((i : ℕ) (x : X) → slice_get xs i ≡ Some x → f (a + i) ≡ x) → map f (range_with_len a (length xs)) ≡ xs
tabulated_from [] a f is = refl
tabulated_from (x ∷ xs) a f is =
    let first : f a ≡ x = ap f (omega arith) ∙ is 0 x refl in
    let others : map f (range_with_len (a + 1) (length xs)) ≡ xs = tabulated_from xs (a + 1) f (λ i y e. ap f (omega arith) ∙ is (suc i) y e) in
    rw (first, others) refl

none_before : (i : ℕ) → 0 + i ≡ i
none_before i = omega arith

tabulated : {X : Type 0} (xs : List X) (f : ℕ → X) → ((i : ℕ) (x : X) → slice_get xs i ≡ Some x → f i ≡ x) → map f (range_with_len 0 (length xs)) ≡ xs
tabulated xs f is = tabulated_from xs 0 f (λ i x e. ap f (none_before i) ∙ is i x e)

-- the values of a list by their places, where each has a value
abbrev pub value_in : List Value → ℕ → Value
value_in vs k = value_or_null (slice_get vs k)

values_again : (vs : List Value) → map (value_in vs) (range_with_len 0 (length vs)) ≡ vs
values_again vs = tabulated vs (value_in vs) (λ i v e. ap value_or_null e)

map-map : {X Y Z : Type 0} (g : Y → Z) (f : X → Y) (xs : List X) → map g (map f xs) ≡ map (λ x. g (f x)) xs
map-map g f [] = refl
map-map g f (x ∷ xs) = ap (λ t. g (f x) ∷ t) (map-map g f xs)

same_map : {X Y : Type 0} (f g : X → Y) → ((x : X) → f x ≡ g x) → (xs : List X) → map f xs ≡ map g xs
same_map f g same [] = refl
same_map f g same (x ∷ xs) = rw (same x, same_map f g same xs) refl

value_at_map : {X : Type 0} (f : X → Value) (xs : List X) (k : ℕ) (x : X) → slice_get xs k ≡ Some x → value_in (map f xs) k ≡ f x
value_at_map f xs k x e = ap value_or_null (slice_get-map f xs k ∙ ap (option_map f) e)

-- ---- columns of a table of columns

-- the column at a place of these rows
abbrev column_of : List Row → ℕ → List Value
column_of rows k = column_at k rows

abbrev firsts : List (Kind × List Value) → List Kind
firsts cs = map (λ c. c.0) cs

abbrev seconds : List (Kind × List Value) → List (List Value)
seconds cs = map (λ c. c.1) cs

zipped : (cs : List (Kind × List Value)) → zip (firsts cs) (seconds cs) ≡ cs
zipped [] = refl
zipped (c ∷ cs) = ap (λ t. c ∷ t) (zipped cs)

-- a column of the rows of columns
column_again : (n k : ℕ) (vss : List (List Value)) (vs : List Value) → slice_get vss k ≡ Some vs → length vs ≡ n → column_of (map (row_of vss) (range_with_len 0 n)) k ≡ vs
column_again n k vss vs e len =
    map-map (λ (row : Row). value_in row.values k) (row_of vss) (range_with_len 0 n)
    ∙ same_map (λ i. value_in (map (λ (column : List Value). value_in column i) vss) k) (value_in vs) (λ i. value_at_map (λ (column : List Value). value_in column i) vss k vs e) (range_with_len 0 n)
    ∙ ap (λ m. map (value_in vs) (range_with_len 0 m)) (sym len) ∙ values_again vs

abbrev HasLength : ℕ → Kind × List Value → Type 0
HasLength n c = length c.1 ≡ n

length_at : (n : ℕ) (cs : List (Kind × List Value)) (k : ℕ) (vs : List Value) → AllByRecursion (HasLength n) cs → slice_get (seconds cs) k ≡ Some vs → length vs ≡ n
length_at n [] k vs all e = absurd cc
length_at n (c ∷ cs) zero vs all e = let same : c.1 ≡ vs = cc in ap length (sym same) ∙ all.0
length_at n (c ∷ cs) (suc k) vs all e = length_at n cs k vs all.1 e

pub columns_again : (n : ℕ) (cs : List (Kind × List Value)) → AllByRecursion (HasLength n) cs → columns_of (table_of n cs) ≡ cs
columns_again n cs all =
    let rows : List Row = map (row_of (seconds cs)) (range_with_len 0 n) in
    let count : length (firsts cs) ≡ length (seconds cs) = length-map cs (λ c. c.0) ∙ sym (length-map cs (λ c. c.1)) in
    let columns : map (column_of rows) (range_with_len 0 (length (firsts cs))) ≡ seconds cs
    = ap (λ m. map (column_of rows) (range_with_len 0 m)) count ∙ tabulated (seconds cs) (column_of rows) (λ k vs e. column_again n k (seconds cs) vs e (length_at n cs k vs all e)) in
    ap (zip (firsts cs)) columns ∙ zipped cs

-- ---- rows of the columns of a table

HasKinds-length : (ks : List Kind) (vs : List Value) → HasKinds ks vs → length vs ≡ length ks
HasKinds-length [] [] h = refl
HasKinds-length (k ∷ ks) (v ∷ vs) h = ap suc (HasKinds-length ks vs h.1)
HasKinds-length [] (v ∷ vs) h = absurd h
HasKinds-length (k ∷ ks) [] h = absurd h

abbrev pub FitsRow : List Kind → Row → Type 0
FitsRow ks row = HasKinds ks row.values

fits_at : (ks : List Kind) (rows : List Row) (i : ℕ) (row : Row) → AllByRecursion (FitsRow ks) rows → slice_get rows i ≡ Some row → HasKinds ks row.values
fits_at ks [] i row all e = absurd cc
fits_at ks (r ∷ rows) zero row all e = let same : r ≡ row = cc in subst (FitsRow ks) same all.0
fits_at ks (r ∷ rows) (suc i) row all e = fits_at ks rows i row all.1 e

row_again : (ks : List Kind) (rows : List Row) (i : ℕ) (row : Row) → AllByRecursion (FitsRow ks) rows → slice_get rows i ≡ Some row → row_of (map (column_of rows) (range_with_len 0 (length ks))) i ≡ row
row_again ks rows i row all e =
    let values : map (λ (column : List Value). value_in column i) (map (column_of rows) (range_with_len 0 (length ks))) ≡ row.values
    = map-map (λ (column : List Value). value_in column i) (column_of rows) (range_with_len 0 (length ks))
    ∙ same_map (λ k. value_in (column_of rows k) i) (value_in row.values) (λ k. value_at_map (λ (r : Row). value_in r.values k) rows i row e) (range_with_len 0 (length ks))
    ∙ ap (λ m. map (value_in row.values) (range_with_len 0 m)) (sym (HasKinds-length ks row.values (fits_at ks rows i row all e)))
    ∙ values_again row.values in
    ap (λ (vs : List Value). record { values = vs }) values

pub table_again : (table : Table) → AllByRecursion (FitsRow table.kinds) table.rows → table_of (length table.rows) (columns_of table) ≡ table
table_again table all =
    let ks : List Kind = table.kinds in
    let vss : List (List Value) = map (column_of table.rows) (range_with_len 0 (length ks)) in
    let len : length vss ≡ length ks = length-map-range_with_len (column_of table.rows) 0 (length ks) in
    let one : firsts (zip ks vss) ≡ ks = firsts-zip ks vss len in
    let two : seconds (zip ks vss) ≡ vss = seconds-zip ks vss len in
    let rows : map (row_of vss) (range_with_len 0 (length table.rows)) ≡ table.rows = tabulated table.rows (row_of vss) (λ i row e. row_again ks table.rows i row all e) in
    ap (λ (k : List Kind). record { kinds = k; rows = map (row_of (seconds (zip ks vss))) (range_with_len 0 (length table.rows)) }) one
    ∙ ap (λ (v : List (List Value)). record { kinds = ks; rows = map (row_of v) (range_with_len 0 (length table.rows)) }) two
    ∙ ap (λ (r : List Row). record { kinds = ks; rows = r }) rows

-- ---- kinds

abbrev pub IsColumn : ℕ → Kind × List Value → Type 0
IsColumn n c = (length c.1 ≡ n) × AllByRecursion (IsOf c.0) c.1

pub null_is_of : (kind : Kind) → IsOf kind Null
null_is_of kinds.Int = tt
null_is_of kinds.Date = tt
null_is_of kinds.Varchar = tt

pub of_at : (kind : Kind) (vs : List Value) (i : ℕ) → AllByRecursion (IsOf kind) vs → IsOf kind (value_in vs i)
of_at kind [] i all = null_is_of kind
of_at kind (v ∷ vs) zero all = all.0
of_at kind (v ∷ vs) (suc i) all = of_at kind vs i all.1

row_fits : (n i : ℕ) (cs : List (Kind × List Value)) → AllByRecursion (IsColumn n) cs → HasKinds (firsts cs) (map (λ (column : List Value). value_in column i) (seconds cs))
row_fits n i [] all = tt
row_fits n i (c ∷ cs) all = (of_at c.0 c.1 i all.0.1, row_fits n i cs all.1)

rows_fit : (n a m : ℕ) (cs : List (Kind × List Value)) → AllByRecursion (IsColumn n) cs → AllByRecursion (FitsRow (firsts cs)) (map (row_of (seconds cs)) (range_with_len a m))
rows_fit n a zero cs all = tt
rows_fit n a (suc m) cs all = (row_fits n a cs all, rows_fit n (a + 1) m cs all)

-- columns of so many values of their kinds are those of a table that a partition may hold
pub is_part : (n : ℕ) (cs : List (Kind × List Value)) → 1 ≤ n → n ≤ 65536 → 1 ≤ length cs → length cs ≤ 32 → AllByRecursion (IsColumn n) cs → IsPart (table_of n cs)
is_part n cs some few one most all =
    let columns : length (firsts cs) ≡ length cs = length-map cs (λ c. c.0) in
    let rows : length (map (row_of (seconds cs)) (range_with_len 0 n)) ≡ n = length-map-range_with_len (row_of (seconds cs)) 0 n in
    record { some_columns = omega (arith, columns); few_columns = omega (arith, columns); some_rows = omega (arith, rows); few_rows = omega (arith, rows); of_kinds = rows_fit n 0 n cs all }

pub all_lengths : (n : ℕ) (cs : List (Kind × List Value)) → AllByRecursion (IsColumn n) cs → AllByRecursion (HasLength n) cs
all_lengths n [] all = tt
all_lengths n (c ∷ cs) all = (all.0.0, all_lengths n cs all.1)

-- the columns of a table are of its kinds
kind_at : (ks : List Kind) (vs : List Value) (k : ℕ) (kind : Kind) → HasKinds ks vs → slice_get ks k ≡ Some kind → IsOf kind (value_in vs k)
kind_at [] vs k kind h e = absurd cc
kind_at (c ∷ ks) [] k kind h e = absurd h
kind_at (c ∷ ks) (v ∷ vs) zero kind h e = let same : c ≡ kind = cc in subst (λ (t : Kind). IsOf t v) same h.0
kind_at (c ∷ ks) (v ∷ vs) (suc k) kind h e = kind_at ks vs k kind h.1 e

pub column_fits : (ks : List Kind) (rows : List Row) (k : ℕ) (kind : Kind) → AllByRecursion (FitsRow ks) rows → slice_get ks k ≡ Some kind → AllByRecursion (IsOf kind) (column_of rows k)
column_fits ks [] k kind all e = tt
column_fits ks (row ∷ rows) k kind all e = (kind_at ks row.values k kind all.0 e, column_fits ks rows k kind all.1 e)

columns_fit : (n a : ℕ) (ks : List Kind) (f : ℕ → List Value) → ((i : ℕ) (kind : Kind) → slice_get ks i ≡ Some kind → IsColumn n (kind, f (a + i))) → AllByRecursion (IsColumn n) (zip ks (map f (range_with_len a (length ks))))
columns_fit n a [] f is = tt
columns_fit n a (kind ∷ ks) f is =
    let here : a + 0 ≡ a = omega arith in
    (subst (λ j. IsColumn n (kind, f j)) here (is 0 kind refl), columns_fit n (a + 1) ks f (λ i k e. let next : a + suc i ≡ a + 1 + i = omega arith in subst (λ j. IsColumn n (k, f j)) next (is (suc i) k e)))

pub all_columns : (table : Table) → AllByRecursion (FitsRow table.kinds) table.rows → AllByRecursion (IsColumn (length table.rows)) (columns_of table)
all_columns table all = columns_fit (length table.rows) 0 table.kinds (column_of table.rows) (λ k kind e. subst (λ j. IsColumn (length table.rows) (kind, column_of table.rows j)) (sym (none_before k)) (length-map table.rows (λ (row : Row). value_in row.values k), column_fits table.kinds table.rows k kind all e))

pub columns_count : (table : Table) → length (columns_of table) ≡ length table.kinds
columns_count table =
    let ks : List Kind = table.kinds in
    let vss : List (List Value) = map (column_of table.rows) (range_with_len 0 (length ks)) in
    sym (length-map (zip ks vss) (λ c. c.0)) ∙ ap length (firsts-zip ks vss (length-map-range_with_len (column_of table.rows) 0 (length ks)))
