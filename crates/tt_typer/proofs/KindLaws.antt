-- Kinds of values and of rows.
use Rattle.std.proofs.Common.{◌≡◌, ℕ, zero, suc, Bool, true, false, List, [], ◌∷◌, ◌++◌, Option, Some, None, refl, ap, sym, ◌∙◌, subst}
use Rattle.std.specs.Prelude.{slice_get, option_and_then, IfSome}
use Rattle.std.specs.Option.{option_map}
use Rattle.std.specs.List.{AllZip, AllByRecursion}
use Rattle.tt_value.specs.declared.value.Kind.{Kind}
use Rattle.tt_value.specs.declared.value.Kind.TheVariants as kinds
use Rattle.tt_value.specs.declared.value.Value.{Value}
use Rattle.tt_value.specs.declared.value.Value.TheVariants.{Null, Int, Date, Text}
use Rattle.tt_value.specs.declared.value.Column.{Column}
use Rattle.tt_value.specs.declared.value.Row.{Row}
use Rattle.tt_value.specs.declared.name.ColumnName.{ColumnName}
use Rattle.tt_value.specs.trees.Scope.{Scope, column_in, column_kind, column_value, value_or_null, kind_of}
use Rattle.tt_plain.specs.Kinds.{fits, unless}
use Rattle.tt_plain.specs.Places.{each, where_none, column_begin}
use Rattle.tt_plain.specs.UnknownColumns.{unknown_name}
use Rattle.tt_plain.specs.ValueKinds.{IsOf, HasKinds, column_kinds}
use Rattle.tt_plain.specs.StrictMeaning.{value_there, is_number}

-- ---- lists with nothing in them

pub nil_parts : {A : Type 0} (xs ys : List A) → xs ++ ys ≡ [] → (xs ≡ []) × (ys ≡ [])
nil_parts [] ys is = (refl, is)
nil_parts (x ∷ xs) ys is = cc

pub nil_each : {A : Type 0} (f : A → List ℕ) (xs : List A) → each f xs ≡ [] → AllByRecursion (λ x. f x ≡ []) xs
nil_each f [] is = tt
nil_each f (x ∷ xs) is = let both = nil_parts (f x) (each f xs) is in (both.0, nil_each f xs both.1)

pub fits_unless : (b : Bool) (place : ℕ) → unless b place ≡ [] → b ≡ true
fits_unless true place is = refl
fits_unless false place is = cc

-- ---- values

pub is_of_kind : (v : Value) → IsOf (kind_of v) v
is_of_kind Null = tt
is_of_kind (Int n) = refl
is_of_kind (Date day) = refl
is_of_kind (Text bytes) = refl

pub fits_none : (a : Option Kind) → fits a None ≡ true
fits_none None = refl
fits_none (Some k) = refl

-- what fits a kind fits its values
pub fits_value : (a kind : Option Kind) (v : Value) → IsOf kind v → fits a kind ≡ true → fits a (kind_of v) ≡ true
fits_value a kind Null of fit = fits_none a
fits_value a kind (Int n) of fit = ap (fits a) of ∙ fit
fits_value a kind (Date day) of fit = ap (fits a) of ∙ fit
fits_value a kind (Text bytes) of fit = ap (fits a) of ∙ fit

pub number_is_int : (v : Value) → is_number (Some v) ≡ true → IsOf (Some kinds.Int) v
number_is_int Null is = tt
number_is_int (Int n) is = refl
number_is_int (Date day) is = cc
number_is_int (Text bytes) is = cc

pub number_of_kind : (kind : Option Kind) (o : Option Value) → IfSome o (IsOf kind) → fits (Some kinds.Int) kind ≡ true → is_number o ≡ true
number_of_kind kind None of fit = refl
number_of_kind kind (Some v) of fit = fits_value (Some kinds.Int) kind v of fit

pub int_of_number : (o : Option Value) → is_number o ≡ true → IfSome o (IsOf (Some kinds.Int))
int_of_number None is = tt
int_of_number (Some v) is = number_is_int v is

-- ---- columns

pub record IsThere (values : List Value) (k : ℕ) (kind : Option Kind) : Type 0 where
  pub value : Value
  pub is : slice_get values k ≡ Some value
  pub of_kind : IsOf kind value

pub value_at_place : (columns : List Column) (values : List Value) (k : ℕ) (column : Column) → AllZip IsOf (column_kinds columns) values → slice_get columns k ≡ Some column → IsThere values k (Some column.kind)
value_at_place [] values k column have is = cc
value_at_place (c ∷ columns) [] k column have is = absurd have
value_at_place (c ∷ columns) (v ∷ values) zero column have is = record { value = v; is = refl; of_kind = subst (λ (o : Option Column). IsOf (option_map (λ (column : Column). column.kind) o) v) is have.0 }
value_at_place (c ∷ columns) (v ∷ values) (suc k) column have is =
    let later = value_at_place columns values k column have.1 is in
    record { value = later.value; is = later.is; of_kind = later.of_kind }

-- a name that is a column stands for a value of its kind
pub record HasValue (there : Option Value) (value : Value) (kind : Option Kind) : Type 0 where
  pub is : there ≡ Some value
  pub of_kind : IsOf kind value

pub none_there : (place : ℕ) (o : Option Column) → where_none place o ≡ [] → (column : Column) × (o ≡ Some column)
none_there place None is = cc
none_there place (Some column) is = (column, refl)

module _ (scope : Scope) (row : Row) where
  at_place : (p : Option ℕ) (column : Column) → HasKinds (column_kinds scope.columns) row → option_and_then (λ k. slice_get scope.columns k) p ≡ Some column → HasValue (option_and_then (λ k. slice_get row.values k) p) (value_or_null (option_and_then (λ k. slice_get row.values k) p)) (option_map (λ (column : Column). column.kind) (option_and_then (λ k. slice_get scope.columns k) p))
  at_place None column have is = cc
  at_place (Some k) column have is =
      let there = value_at_place scope.columns row.values k column have is in
      record { is = there.is ∙ ap Some (ap value_or_null (sym there.is)); of_kind = subst (λ (o : Option Column). IsOf (option_map (λ (column : Column). column.kind) o) (value_or_null (slice_get row.values k))) (sym is) (subst (λ (o : Option Value). IsOf (Some column.kind) (value_or_null o)) (sym there.is) there.of_kind) }

  pub column_has_value : (c : ColumnName) → HasKinds (column_kinds scope.columns) row → unknown_name scope c ≡ [] → HasValue (value_there scope row c) (column_value scope row c) (column_kind scope c)
  column_has_value c have known =
      let column = none_there (column_begin c) (column_in scope c) known in
      at_place (scope.place_of c) column.0 have column.1
