-- Each table that a partition may hold has one image, and each image that is read is that of its table.
use Rattle.std.proofs.Common.{◌≡◌, ℕ, suc, ◌-◌, ◌^◌, ◌≤◌, ◌<◌, true, false, ltb, List, [], ◌∷◌, ◌++◌, length, take, drop, map, Result, Ok, Err, refl, sym, ap, subst, ◌∙◌, length-append, arith}
use Rattle.std.specs.List.{AllByRecursion, flat_map, range_with_len}
use Rattle.std.specs.Str.{bytes_eq}
use Rattle.std.specs.Int.{Width, byte_len, w16, w32, to_le_bytes, from_le_bytes}
use Rattle.std.proofs.lemmas.Bool.{le-ltb}
use Rattle.std.proofs.lemmas.Bool.Decides.{nat_tests}
use Rattle.std.proofs.lemmas.List.{append-nil, take-append-drop, take_at, drop_at}
use Rattle.std.proofs.lemmas.Slice.Eq.{bytes_eq-Decides}
use Rattle.std.proofs.lemmas.List.FromFn.{length-map-range_with_len}
use Rattle.std.proofs.lemmas.Nat.{from_le_bytes-to_le_bytes_2}
use Rattle.tt_value.specs.declared.value.Kind.{Kind}
use Rattle.tt_value.specs.declared.value.Value.{Value}
use Rattle.tt_value.specs.columns.Reading.{◌>>=◌, checked, number_at, values_at, ended}
use Rattle.tt_value.proofs.columns.Packing.{Fit}
use Rattle.tt_value.proofs.columns.Accepted.{same_ok, bound, held, enough, fit_rest, short_taken, word_taken, ended_taken, values_taken}
use Rattle.tt_value.proofs.columns.Again.{word_again, values_again}
use Rattle.tt_partition.specs.Table.{Table, columns_of, row_of, table_of, zones_of, IsPart}
use Rattle.std.specs.Prelude.{IfOk}
use Rattle.std.specs.Result.{result_unwrap_or}
use Rattle.tt_zone.specs.declared.zone.Zone.{Zone}
use Rattle.tt_partition.specs.declared.error.ImageError.{ImageError}
use Rattle.tt_partition.specs.declared.column.ColumnValues.{ColumnValues}
use Rattle.tt_partition.specs.declared.error.ImageError.TheVariants as image_errors
use Rattle.tt_value.specs.declared.value.Row.{Row}
use Rattle.tt_zone.specs.Zones.{zone_of, column_at as values_at_place}
use Rattle.tt_partition.specs.Outcome.{Gives, Fails}
use Rattle.tt_partition.specs.Sound.{table_in, IsSound}
use Rattle.tt_partition.specs.ColumnView.{column_view, column_values, IsValues}
use Rattle.tt_partition.specs.Image.{magic, column_bytes, columns_bytes, image_of}
use Rattle.tt_partition.specs.ImageReading.{magic_at, is_between, row_count_at, column_count_at, column_at, no_order, columns_in, table_at}
use Rattle.tt_partition.proofs.TableLaws.{IsColumn, is_part, columns_again, table_again, all_lengths, all_columns, columns_count}
use Rattle.tt_partition.proofs.ColumnsTaken.{column_taken}
use Rattle.tt_partition.proofs.ColumnsAgain.{column_again}

abbrev spell : Kind × List Value → List ℕ
spell c = column_bytes c.0 c.1

-- ---- the parts in front of the columns

between_is : (most n : ℕ) → is_between most n ≡ true → (1 ≤ n) × (n ≤ most)
between_is most n h = (grind (arith, nat_tests), grind (arith, nat_tests))

between_again : (most n : ℕ) → 1 ≤ n → n ≤ most → is_between most n ≡ true
between_again most n some few = grind (arith, nat_tests)

row_count_taken : (end : ℕ) (bs : List ℕ) (x : ℕ × List ℕ) → Fit 8 bs → row_count_at end bs ≡ Ok x → (bs ≡ to_le_bytes w32 x.0 ++ x.1) × (1 ≤ x.0) × (x.0 ≤ 65536)
unfolding row_count_at
row_count_taken end bs x fit e =
    let one = bound (number_at w32 end bs) (λ n. checked (is_between 65536 n.0) (end - length bs) n) x e in
    let two = held (is_between 65536 one.0.0) (end - length bs) one.0 x one.2 in
    let is = between_is 65536 one.0.0 two.0 in
    subst (λ (x : ℕ × List ℕ). (bs ≡ to_le_bytes w32 x.0 ++ x.1) × (1 ≤ x.0) × (x.0 ≤ 65536)) two.1 (word_taken end bs one.0 fit one.1, is.0, is.1)

column_count_taken : (end : ℕ) (bs : List ℕ) (x : ℕ × List ℕ) → Fit 8 bs → column_count_at end bs ≡ Ok x → (bs ≡ to_le_bytes w16 x.0 ++ x.1) × (1 ≤ x.0) × (x.0 ≤ 32)
unfolding column_count_at
column_count_taken end bs x fit e =
    let one = bound (number_at w16 end bs) (λ n. checked (is_between 32 n.0) (end - length bs) n) x e in
    let two = held (is_between 32 one.0.0) (end - length bs) one.0 x one.2 in
    let is = between_is 32 one.0.0 two.0 in
    subst (λ (x : ℕ × List ℕ). (bs ≡ to_le_bytes w16 x.0 ++ x.1) × (1 ≤ x.0) × (x.0 ≤ 32)) two.1 (short_taken end bs one.0 fit one.1, is.0, is.1)

same_bytes : (xs ys : List ℕ) → bytes_eq xs ys ≡ true → xs ≡ ys
same_bytes xs ys e = (bytes_eq-Decides xs ys).0 e

magic_taken : (end : ℕ) (bs rest : List ℕ) → magic_at end bs ≡ Ok rest → bs ≡ magic ++ rest
unfolding magic_at
magic_taken end bs rest e =
    let one = enough (ltb (length bs) 4) end (checked (bytes_eq (take 4 bs) magic) (end - length bs) (drop 4 bs)) rest e in
    let two = held (bytes_eq (take 4 bs) magic) (end - length bs) (drop 4 bs) rest one.1 in
    sym (take-append-drop 4 bs) ∙ ap (λ (t : List ℕ). t ++ drop 4 bs) (same_bytes (take 4 bs) magic two.0) ∙ ap (λ (t : List ℕ). magic ++ t) two.1

-- ---- images

abbrev pub IsImage : List ℕ → Table → Type 0
IsImage bytes table = (bytes ≡ image_of table) × IsPart table

image_is : (n : ℕ) (cs : List (Kind × List Value)) (bytes one two three : List ℕ) → bytes ≡ magic ++ one → one ≡ to_le_bytes w32 n ++ two → two ≡ to_le_bytes w16 (length cs) ++ three → three ≡ flat_map spell cs
    → 1 ≤ n → n ≤ 65536 → 1 ≤ length cs → length cs ≤ 32 → AllByRecursion (IsColumn n) cs → IsImage bytes (table_of n cs)
unfolding image_of
image_is n cs bytes one two three a b c d some few first most all =
    let table : Table = table_of n cs in
    let columns : columns_of table ≡ cs = columns_again n cs (all_lengths n cs all) in
    let rows : length table.rows ≡ n = length-map-range_with_len (row_of (map (λ c. c.1) cs)) 0 n in
    let kinds : length table.kinds ≡ length cs = sym (columns_count table) ∙ ap length columns in
    (a ∙ ap (λ (t : List ℕ). magic ++ t) (b ∙ ap (λ m. to_le_bytes w32 m ++ two) (sym rows) ∙ ap (λ (t : List ℕ). to_le_bytes w32 (length table.rows) ++ t) (c ∙ ap (λ m. to_le_bytes w16 m ++ three) (sym kinds) ∙ ap (λ (t : List ℕ). to_le_bytes w16 (length table.kinds) ++ t) (d ∙ ap columns_bytes (sym columns)))), is_part n cs some few first most all)

abbrev pub AreColumns : List ℕ → ℕ × List (Kind × List Value) → Type 0
AreColumns bytes x = IsImage bytes (table_of x.0 x.1) × AllByRecursion (IsColumn x.0) x.1

pub columns_taken : (bytes : List ℕ) (x : ℕ × List (Kind × List Value)) → Fit 8 bytes → columns_in bytes ≡ Ok x → AreColumns bytes x
unfolding columns_in
columns_taken bytes x fit e =
    let end : ℕ = length bytes in
    let one = bound (magic_at end bytes) (λ head. row_count_at end head >>= λ rows. column_count_at end rows.1 >>= λ count. values_at (column_at rows.0) no_order end count.0 count.1 >>= λ read. ended end read >>= λ columns. Ok (rows.0, columns)) x e in
    let head : List ℕ = one.0 in
    let two = bound (row_count_at end head) (λ rows. column_count_at end rows.1 >>= λ count. values_at (column_at rows.0) no_order end count.0 count.1 >>= λ read. ended end read >>= λ columns. Ok (rows.0, columns)) x one.2 in
    let rows : ℕ × List ℕ = two.0 in
    let three = bound (column_count_at end rows.1) (λ count. values_at (column_at rows.0) no_order end count.0 count.1 >>= λ read. ended end read >>= λ columns. Ok (rows.0, columns)) x two.2 in
    let count : ℕ × List ℕ = three.0 in
    let four = bound (values_at (column_at rows.0) no_order end count.0 count.1) (λ read. ended end read >>= λ columns. Ok (rows.0, columns)) x three.2 in
    let read : List (Kind × List Value) × List ℕ = four.0 in
    let five = bound (ended end read) (λ columns. Ok (rows.0, columns)) x four.2 in
    let columns : List (Kind × List Value) = five.0 in
    let a = magic_taken end bytes head one.1 in
    let fit_a = fit_rest bytes magic head fit a in
    let b = row_count_taken end head rows fit_a two.1 in
    let fit_b = fit_rest head (to_le_bytes w32 rows.0) rows.1 fit_a b.0 in
    let c = column_count_taken end rows.1 count fit_b three.1 in
    let fit_c = fit_rest rows.1 (to_le_bytes w16 count.0) count.1 fit_b c.0 in
    let d = values_taken spell (column_at rows.0) no_order (IsColumn rows.0) (column_taken rows.0) end count.0 count.1 read fit_c four.1 in
    let last = ended_taken end read columns five.1 in
    let whole : count.1 ≡ flat_map spell columns = d.0 ∙ ap (λ (t : List ℕ). flat_map spell read.0 ++ t) last.0 ∙ append-nil (flat_map spell read.0) ∙ ap (flat_map spell) last.1 in
    let len : length columns ≡ count.0 = ap length (sym last.1) ∙ d.1 in
    let all : AllByRecursion (IsColumn rows.0) columns = subst (λ (t : List (Kind × List Value)). AllByRecursion (IsColumn rows.0) t) last.1 d.2 in
    subst (AreColumns bytes) (same_ok (rows.0, columns) x five.2)
    (image_is rows.0 columns bytes head rows.1 count.1 a b.0 (c.0 ∙ ap (λ m. to_le_bytes w16 m ++ count.1) (sym len)) whole b.1 b.2 (omega (arith, len, c)) (omega (arith, len, c)) all, all)

pub table_taken : (bytes : List ℕ) (table : Table) → Fit 8 bytes → table_at bytes ≡ Ok table → IsImage bytes table
unfolding table_at
table_taken bytes table fit e =
    let one = bound (columns_in bytes) (λ read. Ok (table_of read.0 read.1)) table e in
    subst (IsImage bytes) (same_ok (table_of one.0.0 one.0.1) table one.2) (columns_taken bytes one.0 fit one.1).0

pub magic_again : (end : ℕ) (rest : List ℕ) → magic_at end (magic ++ rest) ≡ Ok rest
unfolding magic_at
magic_again end rest = let t : ltb (suc (suc (suc (suc (length rest))))) 4 ≡ false = le-ltb (suc (suc (suc (suc (length rest))))) 4 (omega arith) in rw t refl

pub row_count_again : (end n : ℕ) (rest : List ℕ) → 1 ≤ n → n ≤ 65536 → row_count_at end (to_le_bytes w32 n ++ rest) ≡ Ok (n, rest)
unfolding row_count_at
row_count_again end n rest some few = rw (word_again end n rest (omega arith), between_again 65536 n some few) refl

number_again : (w : Width) (end n : ℕ) (rest : List ℕ) → length (to_le_bytes w n) ≡ byte_len w → from_le_bytes w (to_le_bytes w n) ≡ n → number_at w end (to_le_bytes w n ++ rest) ≡ Ok (n, rest)
number_again w end n rest len back =
    let long : ltb (length (to_le_bytes w n ++ rest)) (byte_len w) ≡ false = le-ltb _ _ (omega (arith, length-append (to_le_bytes w n) rest)) in
    rw (long, take_at (to_le_bytes w n) rest (byte_len w) len, drop_at (to_le_bytes w n) rest (byte_len w) len, back) refl

half_again : (end n : ℕ) (rest : List ℕ) → n < 2 ^ 16 → number_at w16 end (to_le_bytes w16 n ++ rest) ≡ Ok (n, rest)
half_again end n rest few = number_again w16 end n rest refl (from_le_bytes-to_le_bytes_2 n few)

pub column_count_again : (end n : ℕ) (rest : List ℕ) → 1 ≤ n → n ≤ 32 → column_count_at end (to_le_bytes w16 n ++ rest) ≡ Ok (n, rest)
unfolding column_count_at
column_count_again end n rest some few = rw (half_again end n rest (omega arith), between_again 32 n some few) refl

columns_read_again : (table : Table) → IsPart table → columns_in (image_of table) ≡ Ok (length table.rows, columns_of table)
unfolding columns_in image_of
columns_read_again table is =
    let n : ℕ = length table.rows in
    let k : ℕ = length table.kinds in
    let cs : List (Kind × List Value) = columns_of table in
    let end : ℕ = length (magic ++ (to_le_bytes w32 n ++ (to_le_bytes w16 k ++ columns_bytes cs))) in
    let some_rows = is.some_rows in
    let few_rows = is.few_rows in
    let columns : values_at (column_at n) no_order end k (columns_bytes cs) ≡ Ok (cs, [])
    = ap (λ m. values_at (column_at n) no_order end m (columns_bytes cs)) (sym (columns_count table)) ∙ ap (values_at (column_at n) no_order end (length cs)) (sym (append-nil (columns_bytes cs)))
    ∙ values_again spell (column_at n) no_order (IsColumn n) (λ c v. column_again n c (omega (arith, few_rows)) v) cs (all_columns table is.of_kinds) end [] in
    rw (magic_again end (to_le_bytes w32 n ++ (to_le_bytes w16 k ++ columns_bytes cs)), row_count_again end n (to_le_bytes w16 k ++ columns_bytes cs) is.some_rows is.few_rows, column_count_again end k (columns_bytes cs) is.some_columns is.few_columns, columns) refl

pub table_read_again : (table : Table) → IsPart table → table_at (image_of table) ≡ Ok table
unfolding table_at
table_read_again table is = rw (columns_read_again table is) (ap (λ (t : Table). Ok t) (table_again table is.of_kinds))

-- ---- what a partition keeps

pub table_of_image : (image : List ℕ) (x : ℕ × List (Kind × List Value)) → columns_in image ≡ Ok x → table_at image ≡ Ok (table_of x.0 x.1)
unfolding table_at
table_of_image image x e = rw e refl

pub sound : (image : List ℕ) (table : Table) (zones : List Zone) (rows : ℕ) → table_at image ≡ Ok table → zones ≡ zones_of table → rows ≡ length table.rows → IsSound image zones rows
sound image table zones rows e f g =
    let same : table_in image ≡ table = ap (λ (r : Result Table ℕ). result_unwrap_or r (record { kinds = []; rows = [] })) e in
    record { is_image = e ∙ ap (λ (t : Table). Ok t) (sym same); true_zones = f ∙ ap zones_of (sym same); row_count = g ∙ ap (λ (t : Table). length t.rows) (sym same) }

pub only_image : {X : Type 0} (bytes : List ℕ) (view : X → Table) (result : Result X ImageError) → Fit 8 bytes → Gives view result (table_at bytes) → IfOk result (λ x. IsImage bytes (view x))
only_image bytes view (Ok x) fit h = table_taken bytes (view x) fit h
only_image bytes view (Err e) fit h = tt

pub again_image : {X : Type 0} (bytes : List ℕ) (view : X → Table) (result : Result X ImageError) (table : Table) → Gives view result (table_at bytes) → IsPart table → bytes ≡ image_of table → Gives view result (Ok table)
again_image bytes view result table h is e = subst (Gives view result) (ap table_at e ∙ table_read_again table is) h

pub are_values : (n : ℕ) (columns : List ColumnValues) → AllByRecursion (IsColumn n) (map column_view columns) → AllByRecursion IsValues columns
are_values n [] all = tt
are_values n (c ∷ cs) all = (all.0.1, are_values n cs all.1)

-- the values that were read are of their kinds
pub read_values : (image : List ℕ) (n : ℕ) (columns : List ColumnValues) → Fit 8 image → columns_in image ≡ Ok (n, map column_view columns) → AllByRecursion IsValues columns
read_values image n columns fit e = are_values n columns (columns_taken image (n, map column_view columns) fit e).1

values_seen : (columns : List ColumnValues) → map (λ (c : Kind × List Value). c.1) (map column_view columns) ≡ map column_values columns
values_seen [] = refl
values_seen (c ∷ cs) = ap (λ t. column_values c ∷ t) (values_seen cs)

kinds_seen : (columns : List ColumnValues) → length (map (λ (c : Kind × List Value). c.0) (map column_view columns)) ≡ length columns
kinds_seen [] = refl
kinds_seen (c ∷ cs) = ap suc (kinds_seen cs)

pub rows_seen : (n : ℕ) (columns : List ColumnValues) → map (row_of (map column_values columns)) (range_with_len 0 n) ≡ (table_of n (map column_view columns)).rows
rows_seen n columns = ap (λ (v : List (List Value)). map (row_of v) (range_with_len 0 n)) (sym (values_seen columns))

pub rows_count : (n : ℕ) (columns : List ColumnValues) (rows : List Row) → rows ≡ map (row_of (map column_values columns)) (range_with_len 0 n) → length rows ≡ n
rows_count n columns rows e = ap length e ∙ length-map-range_with_len (row_of (map column_values columns)) 0 n

pub built : (image bytes : List ℕ) (n : ℕ) (columns : List ColumnValues) (rows : List Row) (zones : List Zone) → image ≡ bytes → columns_in bytes ≡ Ok (n, map column_view columns)
    → rows ≡ map (row_of (map column_values columns)) (range_with_len 0 n) → zones ≡ map (λ k. zone_of (values_at_place k rows)) (range_with_len 0 (length columns)) → IsSound image zones n
built image bytes n columns rows zones same read rows_are zones_are =
    let table : Table = table_of n (map column_view columns) in
    let seen : rows ≡ table.rows = rows_are ∙ rows_seen n columns in
    let zoned : zones ≡ zones_of table
    = zones_are ∙ ap (λ (r : List Row). map (λ k. zone_of (values_at_place k r)) (range_with_len 0 (length columns))) seen ∙ ap (λ m. map (λ k. zone_of (values_at_place k table.rows)) (range_with_len 0 m)) (sym (kinds_seen columns)) in
    let count : n ≡ length table.rows = sym (rows_count n columns rows rows_are) ∙ ap length seen in
    sound image table zones n (ap table_at same ∙ table_of_image bytes (n, map column_view columns) read) zoned count

pub exact_is : (image bytes : List ℕ) (zones : List Zone) (n : ℕ) → image ≡ bytes → IsSound image zones n → table_at bytes ≡ Ok (table_in image)
exact_is image bytes zones n same is = ap table_at (sym same) ∙ is.is_image

pub fails_on : (bytes : List ℕ) (e : ImageError) → Fails e (columns_in bytes) → Fails e (table_at bytes)
unfolding table_at
fails_on bytes image_errors.Memory h = tt
fails_on bytes (image_errors.BadImage bad) h = rw h refl

pub not_image : (image : List ℕ) (place : ℕ) (table : Table) → columns_in image ≡ Err place → table_at image ≡ Ok table → ⊥
unfolding table_at
not_image image place table h e = let both : Err place ≡ Ok table = (rw h at e) in absurd cc

pub if_same : {X E : Type 0} (view : X → List Row) (result : Result X E) (rows other : List Row) → IfOk result (λ v. view v ≡ rows) → rows ≡ other → IfOk result (λ v. view v ≡ other)
if_same view (Ok v) rows other h e = h ∙ e
if_same view (Err f) rows other h e = tt

-- the rows of what a partition keeps
pub kept_rows : (image : List ℕ) (n : ℕ) (columns : List ColumnValues) → columns_in image ≡ Ok (n, map column_view columns) → table_at image ≡ Ok (table_in image) → map (row_of (map column_values columns)) (range_with_len 0 n) ≡ (table_in image).rows
kept_rows image n columns read e =
    let table : Table = table_of n (map column_view columns) in
    let same : table ≡ table_in image = same_ok table (table_in image) (sym (table_of_image image (n, map column_view columns) read) ∙ e) in
    rows_seen n columns ∙ ap (λ (t : Table). t.rows) same

pub few_read : (image : List ℕ) (n : ℕ) (columns : List ColumnValues) → Fit 8 image → columns_in image ≡ Ok (n, map column_view columns) → n ≤ 65536
few_read image n columns fit e =
    let few = (columns_taken image (n, map column_view columns) fit e).0.1.few_rows in
    let len = length-map-range_with_len (row_of (map (λ (c : Kind × List Value). c.1) (map column_view columns))) 0 n in
    omega (arith, few, len)

-- ---- what is built

pub table_in_is : (image : List ℕ) (table : Table) → IsPart table → image ≡ image_of table → table_in image ≡ table
table_in_is image table is e = ap table_in e ∙ ap (λ (r : Result Table ℕ). result_unwrap_or r (record { kinds = []; rows = [] })) (table_read_again table is)

pub built_one : (image : List ℕ) (table : Table) (zones : List Zone) (k n : ℕ) → IsPart table → image ≡ image_of table → zones ≡ map (λ k. zone_of (values_at_place k table.rows)) (range_with_len 0 k) → k ≡ length table.kinds → n ≡ length table.rows → IsSound image zones n
built_one image table zones k n is e zoned count rows =
    sound image table zones n (ap table_at e ∙ table_read_again table is) (zoned ∙ ap (λ m. map (λ k. zone_of (values_at_place k table.rows)) (range_with_len 0 m)) count) rows
