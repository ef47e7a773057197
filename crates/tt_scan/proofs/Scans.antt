-- What is scanned, part by part.
use Rattle.std.proofs.Common.{◌≡◌, ℕ, zero, suc, ◌+◌, ◌<◌, ◌≤◌, List, [], ◌∷◌, ◌++◌, length, take, get_or, Option, refl, ap, sym, subst, ◌∙◌, arith}
use Rattle.std.specs.Prelude.{All, OnOk, Result, Ok, Err}
use Rattle.std.specs.List.{AllByRecursion, filter, flat_map}
use Rattle.std.proofs.lemmas.List.{take_more, take_all}
use Rattle.std.proofs.lemmas.List.Elements.{All-append, All-cons, All-nil, All-filter, filter-append}
use Rattle.std.proofs.lemmas.Grind.{flat_map-append}
use Rattle.tt_value.specs.declared.predicate.Predicate.{Predicate}
use Rattle.tt_value.specs.declared.value.Kind.{Kind}
use Rattle.tt_value.specs.declared.value.Kind.TheVariants as kinds
use Rattle.tt_value.specs.declared.value.Row.{Row}
use Rattle.tt_value.specs.declared.value.Schema.{Schema}
use Rattle.tt_value.specs.declared.value.Value.{Value}
use Rattle.tt_value.specs.declared.value.Value.TheVariants.{Null, Int, Date, Text}
use Rattle.tt_value.specs.trees.Predicates.{takes}
use Rattle.tt_value.specs.trees.Scope.{table_scope}
use Rattle.tt_value.specs.values.RowText.{IsPrintable, IsPrintableValue}
use Rattle.tt_partition.specs.Table.{Table, HasKinds, IsOf, IsPart}
use Rattle.tt_scan.specs.Held.{rows_taken}

-- ---- lists

pub all_at : {A : Type 0} (P : A → Type 0) (xs : List A) (i : ℕ) (x : A) → AllByRecursion P xs → i < length xs → x ≡ get_or xs i x → P x
all_at P [] i x all below is = absurd (omega (arith, below))
all_at P (y ∷ ys) zero x all below is = subst P (sym is) all.0
all_at P (y ∷ ys) (suc i) x all below is = all_at P ys i x all.1 (omega (arith, below)) is

next_taken : {A : Type 0} (xs : List A) (i : ℕ) (x : A) → i < length xs → x ≡ get_or xs i x → take (i + 1) xs ≡ take i xs ++ x ∷ []
next_taken xs i x below is = take_more xs i x below ∙ ap (λ y. take i xs ++ y ∷ []) (sym is)

-- ---- results

pub on_ok : {A E : Type 0} {P Q : Type 0} (result : Result A E) → (P → Q) → OnOk result P → OnOk result Q
on_ok (Ok x) then p = then p
on_ok (Err e) then p = tt

pub and_nothing : (rows : List Row) → rows ++ [] ≡ rows
and_nothing [] = refl
and_nothing (row ∷ rows) = ap (λ rs. row ∷ rs) (and_nothing rows)

-- ---- rows

abbrev pub so_far : List (ℕ × Table) → ℕ → List Row
so_far parts i = flat_map (λ (part : ℕ × Table). part.1.rows) (take i parts)

pub taken_more : (schema : Schema) (predicate : Option Predicate) (parts : List (ℕ × Table)) (i : ℕ) (part : ℕ × Table) → i < length parts → part ≡ get_or parts i part → rows_taken schema predicate (so_far parts i) ++ rows_taken schema predicate part.1.rows ≡ rows_taken schema predicate (so_far parts (i + 1))
taken_more schema predicate parts i part below is =
    let rows_of = λ (part : ℕ × Table). part.1.rows in
    let test = takes (table_scope schema) predicate in
    ap (λ rows. filter test (so_far parts i) ++ filter test rows) (sym (and_nothing part.1.rows))
    ∙ sym (filter-append test (so_far parts i) (flat_map rows_of (part ∷ [])))
    ∙ ap (filter test) (sym (flat_map-append rows_of (take i parts) (part ∷ [])) ∙ ap (flat_map rows_of) (sym (next_taken parts i part below is)))

pub taken_whole : (schema : Schema) (predicate : Option Predicate) (parts : List (ℕ × Table)) (i : ℕ) → length parts ≤ i → rows_taken schema predicate (so_far parts i) ≡ rows_taken schema predicate (flat_map (λ (part : ℕ × Table). part.1.rows) parts)
taken_whole schema predicate parts i past = ap (λ ps. rows_taken schema predicate (flat_map (λ (part : ℕ × Table). part.1.rows) ps)) (take_all i parts past)

-- ---- rows that can be written

printable_value : (kind : Kind) (v : Value) → IsOf kind v → IsPrintableValue v
printable_value kind Null is = tt
printable_value kinds.Date (Int n) is = elim is [ ]
printable_value kinds.Varchar (Int n) is = elim is [ ]
printable_value kinds.Int (Date day) is = elim is [ ]
printable_value kinds.Varchar (Date day) is = elim is [ ]
printable_value kinds.Int (Text text) is = elim is [ ]
printable_value kinds.Date (Text text) is = elim is [ ]
printable_value kinds.Int (Int n) is = tt
printable_value kinds.Date (Date day) is = is
printable_value kinds.Varchar (Text text) is = tt

printable_row : (ks : List Kind) (vs : List Value) → HasKinds ks vs → All IsPrintableValue vs
printable_row [] [] has = All-nil IsPrintableValue
printable_row [] (v ∷ vs) has = elim has [ ]
printable_row (kind ∷ ks) [] has = elim has [ ]
printable_row (kind ∷ ks) (v ∷ vs) has = All-cons IsPrintableValue v vs (printable_value kind v has.0) (printable_row ks vs has.1)

printable_rows : (ks : List Kind) (rows : List Row) → AllByRecursion (λ (row : Row). HasKinds ks row.values) rows → All IsPrintable rows
printable_rows ks [] has = All-nil IsPrintable
printable_rows ks (row ∷ rows) has = All-cons IsPrintable row rows (printable_row ks row.values has.0) (printable_rows ks rows has.1)

pub printable_taken : (schema : Schema) (predicate : Option Predicate) (part : Table) → IsPart part → All IsPrintable (rows_taken schema predicate part.rows)
printable_taken schema predicate part is = All-filter (takes (table_scope schema) predicate) IsPrintable part.rows (printable_rows part.kinds part.rows is.of_kinds)

pub more_printable : (old new found : List Row) → new ≡ old ++ found → All IsPrintable old → All IsPrintable found → All IsPrintable new
more_printable old new found is all more = subst (All IsPrintable) (sym is) (All-append IsPrintable old found all more)
