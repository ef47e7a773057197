-- The column at a place of an image is the column of its table there.
use Rattle.std.proofs.Common.{◌≡◌, ℕ, zero, suc, ◌-◌, ◌+◌, ◌≤◌, ◌<◌, ◌^◌, List, [], ◌∷◌, ◌++◌, length, take, drop, get_or, Some, Result, Ok, Err, refl, sym, ap, subst, ◌∙◌, arith}
use Rattle.std.specs.Prelude.{slice_get}
use Rattle.std.specs.List.{AllByRecursion, AllZip, flat_map}
use Rattle.std.specs.Int.{w16, w32, to_le_bytes}
use Rattle.tt_value.specs.declared.value.Kind.{Kind}
use Rattle.tt_value.specs.declared.value.Value.{Value}
use Rattle.tt_value.specs.columns.Reading.{◌>>=◌}
use Rattle.tt_value.proofs.columns.Accepted.{same_ok, bound}
use Rattle.tt_partition.specs.declared.head.Head.{Head}
use Rattle.tt_partition.specs.Table.{Table, columns_of, zones_of, IsPart}
use Rattle.std.proofs.lemmas.List.FromFn.{length-map-range_with_len}
use Rattle.tt_partition.specs.Image.{magic, column_bytes, columns_bytes, image_of}
use Rattle.tt_partition.specs.ImageReading.{head_at, behind, column_values_at, column_at, table_at}
use Rattle.tt_partition.specs.Sound.{table_in}
use Rattle.tt_value.proofs.columns.Packing.{Fit}
use Rattle.tt_partition.specs.Picking.{past_column, past_columns, column_in}
use Rattle.tt_partition.proofs.TableLaws.{IsColumn, all_columns}
use Rattle.tt_partition.proofs.ColumnsAgain.{column_again}
use Rattle.tt_partition.proofs.ImageLaws.{IsImage, table_taken, magic_again, row_count_again, column_count_again}
use Rattle.tt_partition.proofs.ColumnPlaces.{zip_at, none_before}
use Rattle.tt_partition.specs.declared.column.ColumnValues.{ColumnValues}
use Rattle.tt_partition.specs.ColumnView.{column_view, IsColumnAt}
use Rattle.tt_zone.specs.Zones.{zone_of, column_at as values_at_place}
use Rattle.tt_value.specs.declared.value.Kind.TheVariants as kinds
use Rattle.std.proofs.lemmas.Option.{slice_get-get_or}

abbrev spell : Kind × List Value → List ℕ
spell c = column_bytes c.0 c.1

-- a column that is read ends where it is skipped to
past_is : (n end : ℕ) (bs : List ℕ) (c : Kind × List Value) (rest : List ℕ) → column_at n end bs ≡ Ok (c, rest) → past_column n end bs ≡ Ok rest
unfolding column_at past_column
past_is n end bs c rest e =
    let one = bound (head_at end bs) (λ head. column_values_at n (end - length (drop 1 bs)) end head.0 head.1 >>= λ vs. Ok ((head.0.kind, vs), behind n head.0 head.1)) (c, rest) e in
    let h : Head = one.0.0 in
    let two = bound (column_values_at n (end - length (drop 1 bs)) end h one.0.1) (λ vs. Ok ((h.kind, vs), behind n h one.0.1)) (c, rest) one.2 in
    let same : behind n h one.0.1 ≡ rest = ap (λ (x : (Kind × List Value) × List ℕ). x.1) (same_ok ((h.kind, two.0), behind n h one.0.1) (c, rest) two.2) in
    rw (one.1) (ap (λ (t : List ℕ). Ok t) same)

-- behind the columns in front of a place stands the column of that place
pub past_again : (n end k : ℕ) (cs : List (Kind × List Value)) (c : Kind × List Value) → n < 2 ^ 32 → AllByRecursion (IsColumn n) cs → slice_get cs k ≡ Some c
    → past_columns n end k (flat_map spell cs) ≡ Ok (spell c ++ flat_map spell (drop (suc k) cs))
unfolding past_columns
past_again n end k [] c few all e = absurd cc
past_again n end zero (x ∷ cs) c few all e = let same : x ≡ c = cc in ap (λ (t : Kind × List Value). Ok (spell t ++ flat_map spell cs)) same
past_again n end (suc k) (x ∷ cs) c few all e = rw (past_is n end (spell x ++ flat_map spell cs) x (flat_map spell cs) (column_again n x few all.0 end (flat_map spell cs))) (past_again n end k cs c few all.1 e)

valid_at : (n k : ℕ) (cs : List (Kind × List Value)) (c : Kind × List Value) → AllByRecursion (IsColumn n) cs → slice_get cs k ≡ Some c → IsColumn n c
valid_at n k [] c all e = absurd cc
valid_at n zero (x ∷ cs) c all e = let same : x ≡ c = cc in subst (IsColumn n) same all.0
valid_at n (suc k) (x ∷ cs) c all e = valid_at n k cs c all.1 e

pub column_picked : (table : Table) (k : ℕ) (c : Kind × List Value) → IsPart table → slice_get (columns_of table) k ≡ Some c → column_in k (image_of table) ≡ Ok c
unfolding column_in image_of
column_picked table k c is e =
    let n : ℕ = length table.rows in
    let m : ℕ = length table.kinds in
    let cs : List (Kind × List Value) = columns_of table in
    let end : ℕ = length (magic ++ (to_le_bytes w32 n ++ (to_le_bytes w16 m ++ columns_bytes cs))) in
    let few_rows = is.few_rows in
    let few : n < 2 ^ 32 = omega (arith, few_rows) in
    let all : AllByRecursion (IsColumn n) cs = all_columns table is.of_kinds in
    let skipped : past_columns n end k (columns_bytes cs) ≡ Ok (spell c ++ flat_map spell (drop (suc k) cs)) = past_again n end k cs c few all e in
    let read : column_at n end (spell c ++ flat_map spell (drop (suc k) cs)) ≡ Ok (c, flat_map spell (drop (suc k) cs)) = column_again n c few (valid_at n k cs c all e) end (flat_map spell (drop (suc k) cs)) in
    rw (magic_again end (to_le_bytes w32 n ++ (to_le_bytes w16 m ++ columns_bytes cs)), row_count_again end n (to_le_bytes w16 m ++ columns_bytes cs) is.some_rows is.few_rows, column_count_again end m (columns_bytes cs) is.some_columns is.few_columns, skipped, read) refl

-- ---- skipping column by column

pub skipped_more : (n end count i : ℕ) (bytes after : List ℕ) (total : Result (List ℕ) ℕ) → i < count → past_column n end bytes ≡ Ok after → past_columns n end (count - i) bytes ≡ total → past_columns n end (count - (i + 1)) after ≡ total
unfolding past_columns
skipped_more n end count i bytes after total lt e so_far =
    let k : count - i ≡ suc (count - (i + 1)) = omega arith in
    let one : past_columns n end (count - i) bytes ≡ past_columns n end (count - (i + 1)) after = rw (k, e) refl in
    sym one ∙ so_far

pub skipped_fault : (n end count i : ℕ) (bytes : List ℕ) (place : ℕ) (total : Result (List ℕ) ℕ) → i < count → past_column n end bytes ≡ Err place → past_columns n end (count - i) bytes ≡ total → total ≡ Err place
unfolding past_columns
skipped_fault n end count i bytes place total lt e so_far =
    let k : count - i ≡ suc (count - (i + 1)) = omega arith in
    let one : past_columns n end (count - i) bytes ≡ Err place = rw (k, e) refl in
    sym so_far ∙ one

pub skipped_all : (n end count i : ℕ) (bytes : List ℕ) (total : Result (List ℕ) ℕ) → count ≤ i → past_columns n end (count - i) bytes ≡ total → total ≡ Ok bytes
unfolding past_columns
skipped_all n end count i bytes total le so_far =
    let k : count - i ≡ 0 = omega arith in
    let one : past_columns n end (count - i) bytes ≡ Ok bytes = rw k refl in
    sym so_far ∙ one

-- ---- the column at a place of a partition

abbrev IsThere : List ℕ → Table → ℕ → Kind → Type 0
IsThere image table k kind = (slice_get table.kinds k ≡ Some kind) × (column_in k image ≡ Ok (kind, values_at_place k table.rows))

there : (image : List ℕ) (table : Table) (k : ℕ) → IsImage image table → k < length table.kinds → (kind : Kind) × IsThere image table k kind
there image table k is lt =
    let kind : Kind = get_or table.kinds k kinds.Int in
    let named : slice_get table.kinds k ≡ Some kind = slice_get-get_or table.kinds k kinds.Int lt in
    let found : slice_get (columns_of table) k ≡ Some (kind, values_at_place k table.rows) = zip_at table.kinds 0 (λ j. values_at_place j table.rows) k kind named ∙ ap (λ j. Some (kind, values_at_place j table.rows)) (none_before k) in
    (kind, (named, ap (column_in k) is.0 ∙ column_picked table k (kind, values_at_place k table.rows) is.1 found))

pub picked : (image : List ℕ) (table : Table) (k : ℕ) (column : ColumnValues) → IsImage image table → k < length table.kinds → column_in k image ≡ Ok (column_view column) → IsColumnAt table k column
picked image table k column is lt e =
    let at = there image table k is lt in
    let same : (at.0, values_at_place k table.rows) ≡ column_view column = same_ok (at.0, values_at_place k table.rows) (column_view column) (sym at.1.1 ∙ e) in
    record { kind = at.1.0 ∙ ap (λ (c : Kind × List Value). Some c.0) same; values = sym (ap (λ (c : Kind × List Value). c.1) same) }

pub is_picked : (image : List ℕ) (table : Table) (k place : ℕ) → IsImage image table → k < length table.kinds → column_in k image ≡ Err place → ⊥
is_picked image table k place is lt e = let at = there image table k is lt in let both : Err place ≡ Ok (at.0, values_at_place k table.rows) = sym e ∙ at.1.1 in absurd cc

-- one more for each of two lists
zip_next : {A B : Type 0} (R : A → B → Type 0) (xs : List A) (ys : List B) (i : ℕ) (d : A) (y : B) → i < length xs → AllZip R (take i xs) ys → R (get_or xs i d) y → AllZip R (take (suc i) xs) (ys ++ y ∷ [])
zip_next R [] ys i d y lt all r = absurd (omega (arith, lt))
zip_next R (a ∷ xs) [] zero d y lt all r = (r, tt)
zip_next R (a ∷ xs) (b ∷ ys) zero d y lt all r = absurd all
zip_next R (a ∷ xs) [] (suc i) d y lt all r = absurd all
zip_next R (a ∷ xs) (b ∷ ys) (suc i) d y lt all r = (all.0, zip_next R xs ys i d y (omega (arith, lt)) all.1 r)

pub zip_more : {A B : Type 0} (R : A → B → Type 0) (xs : List A) (ys : List B) (i : ℕ) (d : A) (y : B) → i < length xs → AllZip R (take i xs) ys → R (get_or xs i d) y → AllZip R (take (i + 1) xs) (ys ++ y ∷ [])
zip_more R xs ys i d y lt all r = let next : suc i ≡ i + 1 = omega arith in subst (λ n. AllZip R (take n xs) (ys ++ y ∷ [])) next (zip_next R xs ys i d y lt all r)

-- the bytes of a partition are the image of its table
pub kept_image : (image bytes : List ℕ) (table : Table) → bytes ≡ image → Fit 8 bytes → table_at image ≡ Ok (table_in image) → table_in image ≡ table → IsImage bytes table
kept_image image bytes table same fit e is = subst (IsImage bytes) is (table_taken bytes (table_in image) fit (ap table_at same ∙ e))

-- a zone for each column
pub zone_count : (table : Table) → length (zones_of table) ≡ length table.kinds
zone_count table = length-map-range_with_len (λ k. zone_of (values_at_place k table.rows)) 0 (length table.kinds)
