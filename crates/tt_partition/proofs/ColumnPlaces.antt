-- Columns that are written one after the other.
use Rattle.std.proofs.Common.{◌≡◌, ℕ, zero, suc, ◌+◌, ◌<◌, List, [], ◌∷◌, ◌++◌, length, map, take, get_or, Some, refl, sym, ap, ◌∙◌, append_assoc, arith}
use Rattle.std.specs.Prelude.{slice_get}
use Rattle.std.specs.Option.{option_map}
use Rattle.std.specs.List.{zip, range_with_len, flat_map, AllByRecursion}
use Rattle.std.proofs.lemmas.List.{append-nil, take_more}
use Rattle.std.proofs.lemmas.Grind.{flat_map-append}
use Rattle.std.proofs.lemmas.Option.{slice_get-map, slice_get-get_or, slice_get_within, get_or_from_slice_get}
use Rattle.tt_value.specs.declared.value.Kind.{Kind}
use Rattle.tt_value.specs.declared.value.Value.{Value}
use Rattle.tt_value.specs.declared.value.Row.{Row}
use Rattle.tt_value.specs.declared.value.Column.{Column}
use Rattle.tt_value.specs.declared.value.Schema.{Schema}
use Rattle.tt_zone.specs.Zones.{column_at}
use Rattle.tt_partition.specs.Table.{columns_of, IsOf, IsPart}
use Rattle.tt_partition.specs.Image.{column_bytes, columns_bytes}
use Rattle.tt_partition.specs.Cuts.{kinds_of}
use Rattle.tt_partition.proofs.TableLaws.{column_fits}

abbrev spell : Kind × List Value → List ℕ
spell c = column_bytes c.0 c.1

pub none_before : (i : ℕ) → 0 + i ≡ i
none_before i = omega arith

pub zip_at : (ks : List Kind) (a : ℕ) (f : ℕ → List Value) (i : ℕ) (kind : Kind) → slice_get ks i ≡ Some kind → slice_get (zip ks (map f (range_with_len a (length ks)))) i ≡ Some (kind, f (a + i))
zip_at [] a f i kind e = absurd cc
zip_at (k ∷ ks) a f zero kind e = let same : k ≡ kind = cc in let here : a + 0 ≡ a = omega arith in rw (same, here) refl
zip_at (k ∷ ks) a f (suc i) kind e = let next : a + suc i ≡ a + 1 + i = omega arith in rw next (zip_at ks (a + 1) f i kind e)

take_next : {X : Type 0} (xs : List X) (i : ℕ) (x : X) → slice_get xs i ≡ Some x → take (i + 1) xs ≡ take i xs ++ x ∷ []
take_next xs i x e = take_more xs i x (slice_get_within xs i x e) ∙ ap (λ y. take i xs ++ y ∷ []) (get_or_from_slice_get xs i x x e)

kind_there : (schema : Schema) (columns : List Column) (place : ℕ) (d : Column) → columns ≡ schema.columns → place < length columns → slice_get (kinds_of schema) place ≡ Some (get_or columns place d).kind
kind_there schema columns place d same lt =
    ap (λ (cs : List Column). slice_get (map (λ (column : Column). column.kind) cs) place) (sym same)
    ∙ slice_get-map (λ (column : Column). column.kind) columns place ∙ ap (option_map (λ (column : Column). column.kind)) (slice_get-get_or columns place d lt)

pub values_fit : (schema : Schema) (columns : List Column) (place : ℕ) (d : Column) (rows : List Row) → columns ≡ schema.columns → place < length columns → IsPart (record { kinds = kinds_of schema; rows = rows }) → AllByRecursion (IsOf (get_or columns place d).kind) (column_at place rows)
values_fit schema columns place d rows same lt is = column_fits (kinds_of schema) rows place (get_or columns place d).kind is.of_kinds (kind_there schema columns place d same lt)

pub column_pushed : (schema : Schema) (columns : List Column) (place : ℕ) (d : Column) (rows : List Row) (start out new : List ℕ) → columns ≡ schema.columns → place < length columns
    → out ≡ start ++ columns_bytes (take place (columns_of (record { kinds = kinds_of schema; rows = rows }))) → new ≡ out ++ column_bytes (get_or columns place d).kind (column_at place rows)
    → new ≡ start ++ columns_bytes (take (place + 1) (columns_of (record { kinds = kinds_of schema; rows = rows })))
column_pushed schema columns place d rows start out new same lt before more =
    let kind : Kind = (get_or columns place d).kind in
    let cs : List (Kind × List Value) = columns_of (record { kinds = kinds_of schema; rows = rows }) in
    let c : Kind × List Value = (kind, column_at place rows) in
    let there : slice_get cs place ≡ Some c = zip_at (kinds_of schema) 0 (λ k. column_at k rows) place kind (kind_there schema columns place d same lt) ∙ ap (λ k. Some (kind, column_at k rows)) (none_before place) in
    let next : flat_map spell (take (place + 1) cs) ≡ flat_map spell (take place cs) ++ spell c
    = ap (flat_map spell) (take_next cs place c there) ∙ flat_map-append spell (take place cs) (c ∷ []) ∙ ap (λ (t : List ℕ). flat_map spell (take place cs) ++ t) (append-nil (spell c)) in
    more ∙ ap (λ (t : List ℕ). t ++ spell c) before ∙ append_assoc start (flat_map spell (take place cs)) (spell c) ∙ ap (λ (t : List ℕ). start ++ t) (sym next)
