-- Rows that are cut from the front, so many at a time.
use Rattle.std.proofs.Common.{◌≡◌, ℕ, zero, suc, ◌+◌, ◌-◌, ◌*◌, ◌/◌, ◌≤◌, ◌<◌, List, [], ◌∷◌, length, take, drop, sym, ap, subst, ◌∙◌, arith}
use Rattle.std.specs.List.{AllByRecursion}
use Rattle.std.proofs.lemmas.List.{length-take, length-drop, length-map, drop-drop}
use Rattle.std.proofs.Math.Nat.{le-div_iff_mul-le, add-mul}
use Rattle.tt_value.specs.declared.value.Row.{Row}
use Rattle.tt_value.specs.declared.value.Column.{Column}
use Rattle.tt_value.specs.declared.value.Schema.{Schema}
use Rattle.tt_value.specs.declared.value.Kind.{Kind}
use Rattle.tt_value.specs.declared.value.Kind.TheVariants as kinds
use Rattle.tt_value.specs.declared.value.Value.{Value}
use Rattle.tt_value.specs.declared.value.Value.TheVariants.{Null, Int, Date, Text}
use Rattle.tt_partition.proofs.TableLaws.{null_is_of}
use Rattle.tt_partition.specs.Table.{IsOf, HasKinds, IsPart}
use Rattle.tt_partition.specs.Cuts.{kinds_of}
use Rattle.tt_partition.specs.Fits.{FitsKind, FitKinds, FitSchema}
use Rattle.tt_partition.specs.Validity.{IsValid, AreValid}

next_place : (t cap : ℕ) → (t + 1) * cap ≡ t * cap + cap
next_place t cap = add-mul t 1 cap ∙ ap (λ m. t * cap + m) (omega arith)

more_left : (t cap n : ℕ) → 1 ≤ cap → t < (n + (cap - 1)) / cap → t * cap < n
more_left t cap n one lt =
    let some : 0 < cap = omega (arith, one) in
    let next : t + 1 ≤ (n + (cap - 1)) / cap = omega (arith, lt) in
    let le : (t + 1) * cap ≤ n + (cap - 1) = (le-div_iff_mul-le some).0 next in
    let e = next_place t cap in
    omega (arith, le, e, one)

all_take : {X : Type 0} (P : X → Type 0) (n : ℕ) (xs : List X) → AllByRecursion P xs → AllByRecursion P (take n xs)
all_take P zero xs all = tt
all_take P (suc n) [] all = tt
all_take P (suc n) (x ∷ xs) all = (all.0, all_take P n xs all.1)

all_drop : {X : Type 0} (P : X → Type 0) (n : ℕ) (xs : List X) → AllByRecursion P xs → AllByRecursion P (drop n xs)
all_drop P zero xs all = all
all_drop P (suc n) [] all = tt
all_drop P (suc n) (x ∷ xs) all = all_drop P n xs all.1

-- ---- rows that fit, of values that keep what their types say, have the kinds of the schema

is_of : (kind : Kind) (v : Value) → FitsKind kind v → IsValid v → IsOf kind v
is_of kind Null h valid = null_is_of kind
is_of kinds.Int (Int n) h valid = valid
is_of kinds.Date (Date day) h valid = h
is_of kinds.Varchar (Text text) h valid = valid
is_of kinds.Int (Date day) h valid = absurd h
is_of kinds.Int (Text text) h valid = absurd h
is_of kinds.Date (Int n) h valid = absurd h
is_of kinds.Date (Text text) h valid = absurd h
is_of kinds.Varchar (Int n) h valid = absurd h
is_of kinds.Varchar (Date day) h valid = absurd h

have_kinds : (ks : List Kind) (vs : List Value) → FitKinds ks vs → AllByRecursion IsValid vs → HasKinds ks vs
have_kinds [] [] h valid = tt
have_kinds (k ∷ ks) (v ∷ vs) h valid = (is_of k v h.0 valid.0, have_kinds ks vs h.1 valid.1)
have_kinds [] (v ∷ vs) h valid = absurd h
have_kinds (k ∷ ks) [] h valid = absurd h

rows_have_kinds : (ks : List Kind) (rows : List Row) → AllByRecursion (λ (row : Row). FitKinds ks row.values) rows → AllByRecursion AreValid rows → AllByRecursion (λ (row : Row). HasKinds ks row.values) rows
rows_have_kinds ks [] h valid = tt
rows_have_kinds ks (row ∷ rows) h valid = (have_kinds ks row.values h.0 valid.0, rows_have_kinds ks rows h.1 valid.1)

-- the rows that are left
pub back_is : (rows rest after : List Row) (t cap : ℕ) → rest ≡ drop (t * cap) rows → after ≡ drop cap rest → after ≡ drop ((t + 1) * cap) rows
back_is rows rest after t cap e f = f ∙ ap (drop cap) e ∙ drop-drop cap (t * cap) rows ∙ ap (λ m. drop m rows) (sym (next_place t cap))

pub cut_is_part : (schema : Schema) (rows part : List Row) (t cap : ℕ) → 1 ≤ length schema.columns → length schema.columns ≤ 32 → 1 ≤ cap → cap ≤ 65536 → FitSchema schema rows → AllByRecursion AreValid rows → t < (length rows + (cap - 1)) / cap → part ≡ take cap (drop (t * cap) rows)
    → IsPart (record { kinds = kinds_of schema; rows = part })
cut_is_part schema rows part t cap some few one most fit valid lt is =
    let kinds = length-map schema.columns (λ (column : Column). column.kind) in
    let left = more_left t cap (length rows) one lt in
    let taken = length-take cap (drop (t * cap) rows) in
    let dropped = length-drop (t * cap) rows in
    let len = ap length is in
    record {
      some_columns = omega (arith, kinds, some);
      few_columns = omega (arith, kinds, few);
      some_rows = omega (arith, left, taken, dropped, len, one);
      few_rows = omega (arith, taken, len, most);
      of_kinds = subst (λ (r : List Row). AllByRecursion (λ (row : Row). HasKinds (kinds_of schema) row.values) r) (sym is) (all_take (λ (row : Row). HasKinds (kinds_of schema) row.values) cap (drop (t * cap) rows) (all_drop (λ (row : Row). HasKinds (kinds_of schema) row.values) (t * cap) rows (rows_have_kinds (kinds_of schema) rows fit valid)));
    }
