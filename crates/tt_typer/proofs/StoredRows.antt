-- Rows that are stored are of the kinds of their columns, with no NULL where none may stand.
use Rattle.std.proofs.Common.{◌≡◌, ℕ, ◌<◌, true, false, List, [], ◌∷◌, length, map, get_or, Option, Some, None, refl, ap, sym, ◌∙◌, subst, arith}
use Rattle.std.specs.Prelude.{slice_get, option_and_then}
use Rattle.std.specs.Option.{option_map}
use Rattle.std.specs.List.{AllZip, AllByRecursion, list_any, position, zip}
use Rattle.std.specs.Str.{bytes_eq}
use Rattle.std.proofs.lemmas.Option.{same_Some, slice_get-get_or, slice_get-map, slice_get_within}
use Rattle.std.proofs.lemmas.Slice.Eq.{bytes_eq-Decides}
use Rattle.std.proofs.lemmas.List.{length-map}
use Rattle.std.proofs.lemmas.List.Quantifiers.{position-Some}
use Rattle.tt_value.specs.declared.value.Kind.{Kind}
use Rattle.tt_value.specs.declared.value.Kind.TheVariants as kinds
use Rattle.tt_value.specs.declared.value.Value.{Value}
use Rattle.tt_value.specs.declared.value.Value.TheVariants.{Null, Int, Date, Text}
use Rattle.tt_value.specs.declared.value.Column.{Column}
use Rattle.tt_value.specs.declared.value.Schema.{Schema}
use Rattle.tt_value.specs.declared.value.Row.{Row}
use Rattle.tt_value.specs.declared.name.Name.{Name}
use Rattle.tt_value.specs.declared.name.Literal.{Literal}
use Rattle.tt_value.specs.trees.Scope.{column_place, kind_of, beside, value_or_null}
use Rattle.tt_sql.specs.declared.change.Tuple.{Tuple}
use Rattle.tt_sql.specs.meaning.Changes.{Changes, is_missing, is_missing_at, first_missing, stores, for_column, given_value, in_order, tuple_values}
use Rattle.tt_plain.specs.Kinds.{fits, is_same_kind, literal_fits}
use Rattle.tt_plain.specs.Columns.{column_named, target_column}
use Rattle.tt_plain.specs.WrongCounts.{width}
use Rattle.tt_plain.specs.TypeMismatches.{kind_in, target_kind, misfit_value, misfit_in_tuple}
use Rattle.tt_plain.specs.ValueKinds.{IsOf, HasKinds, column_kinds, IsRowOf, IsFoundByName}
use Rattle.tt_plain.specs.StrictMeaning.{strict_beside}
use Rattle.tt_typer.proofs.KindLaws.{fits_unless}
use Rattle.tt_typer.proofs.ListLaws.{all_from_places, none_any, each_place, zip_from_places, zip_lengths, zip_mapped, pair_at_place, item_there, none_below}
use Rattle.tt_typer.proofs.PredicateKinds.{beside_fits}

-- ---- values that go into a column

same_kind : (a b : Kind) → is_same_kind a b ≡ true → b ≡ a
same_kind kinds.Int kinds.Int same = refl
same_kind kinds.Int kinds.Date same = cc
same_kind kinds.Int kinds.Varchar same = cc
same_kind kinds.Date kinds.Int same = cc
same_kind kinds.Date kinds.Date same = refl
same_kind kinds.Date kinds.Varchar same = cc
same_kind kinds.Varchar kinds.Int same = cc
same_kind kinds.Varchar kinds.Date same = cc
same_kind kinds.Varchar kinds.Varchar same = refl

pub of_kind_that_fits : (kind : Kind) (v : Value) → fits (Some kind) (kind_of v) ≡ true → IsOf (Some kind) v
of_kind_that_fits kind Null fit = tt
of_kind_that_fits kind (Int n) fit = ap Some (same_kind kind kinds.Int fit)
of_kind_that_fits kind (Date day) fit = ap Some (same_kind kind kinds.Date fit)
of_kind_that_fits kind (Text bytes) fit = ap Some (same_kind kind kinds.Varchar fit)

-- a value that goes into a column of a kind: it is not read as a date where it is none, and then it is of the kind
pub record GoesInto (kind : Kind) (v : Value) : Type 0 where
  pub read : strict_beside (Some kind) v ≡ Some (beside (Some kind) v)
  pub of_kind : IsOf (Some kind) (beside (Some kind) v)

pub null_goes : (kind : Kind) → GoesInto kind Null
null_goes kinds.Int = record { read = refl; of_kind = tt }
null_goes kinds.Date = record { read = refl; of_kind = tt }
null_goes kinds.Varchar = record { read = refl; of_kind = tt }

pub literal_goes : (kind : Kind) (v : Value) → literal_fits (Some kind) v ≡ true → GoesInto kind v
literal_goes kind v fit =
    let there = beside_fits (Some kind) v fit in
    record { read = there.0; of_kind = of_kind_that_fits kind (beside (Some kind) v) there.1 }

-- a value of the column's kind goes in as it is
own_kind_goes : (kind : Kind) (v : Value) → IsOf (Some kind) v → GoesInto kind v
own_kind_goes kinds.Int v of = record { read = refl; of_kind = of }
own_kind_goes kinds.Varchar v of = record { read = refl; of_kind = of }
own_kind_goes kinds.Date Null of = record { read = refl; of_kind = of }
own_kind_goes kinds.Date (Int n) of = record { read = refl; of_kind = of }
own_kind_goes kinds.Date (Date day) of = record { read = refl; of_kind = of }
own_kind_goes kinds.Date (Text bytes) of = cc

of_fitting_kind : (wanted : Kind) (kind : Option Kind) (v : Value) → fits (Some wanted) kind ≡ true → IsOf kind v → IsOf (Some wanted) v
of_fitting_kind wanted None Null fit of = tt
of_fitting_kind wanted None (Int n) fit of = cc
of_fitting_kind wanted None (Date day) fit of = cc
of_fitting_kind wanted None (Text bytes) fit of = cc
of_fitting_kind wanted (Some kind) v fit of = subst (λ (k : Kind). IsOf (Some k) v) (same_kind wanted kind fit) of

pub value_goes : (wanted : Kind) (kind : Option Kind) (v : Value) → fits (Some wanted) kind ≡ true → IsOf kind v → GoesInto wanted v
value_goes wanted kind v fit of = own_kind_goes wanted v (of_fitting_kind wanted kind v fit of)

abbrev pub Enters : Column → Value → Type 0
Enters column v = GoesInto column.kind v

pub stored_kinds : (columns : List Column) (values : List Value) → AllZip Enters columns values → AllZip IsOf (column_kinds columns) (map (λ cell. for_column cell.0 cell.1) (zip columns values))
stored_kinds [] [] all = tt
stored_kinds [] (v ∷ values) all = absurd all
stored_kinds (column ∷ columns) [] all = absurd all
stored_kinds (column ∷ columns) (v ∷ values) all = (all.0.of_kind, stored_kinds columns values all.1)

-- ---- the column that a list names

pub named_column : (schema : Schema) → IsFoundByName schema → (k : ℕ) (column : Column) (name : Name) → slice_get schema.columns k ≡ Some column → column.name ≡ name.text → column_named schema name ≡ Some column
named_column schema found k column name is same =
    let place : column_place schema name.text ≡ Some k = subst (λ text. column_place schema text ≡ Some k) same (found k column is) in
    ap (option_and_then (λ k. slice_get schema.columns k)) place ∙ is

-- a name that is listed at a place, for a column that it names
module _ (schema : Schema) (found : IsFoundByName schema) (names : List Name) where
  pub listed_column : (k p : ℕ) (column : Column) (name : Name) → slice_get schema.columns k ≡ Some column → slice_get names p ≡ Some name → bytes_eq name.text column.name ≡ true → target_column schema (Some names) p ≡ Some column
  listed_column k p column name is name_is same =
      ap (option_and_then (column_named schema)) name_is ∙ named_column schema found k column name is (sym ((bytes_eq-Decides name.text column.name).0 same))

  abbrev given_at : List Value → Option ℕ → Value
  given_at values o = value_or_null (option_and_then (slice_get values) o)

  given_goes : (values : List Value) → length values ≡ length names → ((p : ℕ) (kind : Kind) (v : Value) → target_kind schema (Some names) p ≡ Some kind → slice_get values p ≡ Some v → GoesInto kind v) → (k : ℕ) (column : Column) → slice_get schema.columns k ≡ Some column → (o : Option ℕ) → position (λ (name : Name). bytes_eq name.text column.name) names ≡ o → GoesInto column.kind (given_at values o)
  given_goes values same goes k column is None o_is = null_goes column.kind
  given_goes values same goes k column is (Some p) o_is =
      let within : p < length names = (position-Some (λ (name : Name). bytes_eq name.text column.name) names p (record { text = []; place = 0 }) o_is).0 in
      let passes = (position-Some (λ (name : Name). bytes_eq name.text column.name) names p (record { text = []; place = 0 }) o_is).1 in
      let name_is = slice_get-get_or names p (record { text = []; place = 0 }) within in
      let value = item_there values p (omega (arith, same, within)) in
      let target = listed_column k p column (get_or names p (record { text = []; place = 0 })) is name_is passes in
      subst (λ o. GoesInto column.kind (value_or_null o)) (sym value.1) (goes p column.kind value.0 (ap kind_in target) value.1)

-- ---- values in the order of the columns

-- each value goes into the column at its place
abbrev pub AllGo : Schema → Option (List Name) → List Value → Type 0
AllGo schema names values = (p : ℕ) (kind : Kind) (v : Value) → target_kind schema names p ≡ Some kind → slice_get values p ≡ Some v → GoesInto kind v

pub ordered_enter : (schema : Schema) → IsFoundByName schema → (names : Option (List Name)) (values : List Value) → length values ≡ width schema names → AllGo schema names values → AllZip Enters schema.columns (in_order schema names values)
ordered_enter schema found None values same goes =
    zip_from_places Enters schema.columns values (sym same) (λ k column v is v_is. goes k column.kind v (ap kind_in is) v_is)
ordered_enter schema found (Some names) values same goes =
    zip_mapped Enters (given_value names values) schema.columns
    (all_from_places (λ column. Enters column (given_value names values column)) schema.columns (λ k column is. given_goes schema found names values same goes k column is (position (λ (name : Name). bytes_eq name.text column.name) names) refl))

-- ---- NULLs

pub record Stored (removed added rows : List Row) (missing : Option ℕ) : Type 0 where
  pub none : missing ≡ None
  pub rows_are : added ≡ rows

pub stores_changes : (removed rows : List Row) (n : ℕ) (missing : Option ℕ) (out added : List Row) (count : ℕ) → stores removed rows n missing ≡ Changes out added count → Stored out added rows missing
stores_changes removed rows n None out added count is = record { none = refl; rows_are = cc }
stores_changes removed rows n (Some place) out added count is = cc

filled_row : (schema : Schema) (row : Row) → HasKinds (column_kinds schema.columns) row → ((k : ℕ) → k < length schema.columns → is_missing_at schema k row ≡ false) → IsRowOf schema row
filled_row schema row have none =
    let same : length (column_kinds schema.columns) ≡ length row.values = zip_lengths IsOf (column_kinds schema.columns) row.values have in
    record {
      kinds = have;
      filled = zip_from_places (λ (column : Column) (v : Value). is_missing (Some (column, v)) ≡ false) schema.columns row.values (sym (length-map schema.columns (λ (column : Column). Some column.kind)) ∙ same)
          (λ k column v is v_is. subst (λ o. is_missing o ≡ false) (pair_at_place schema.columns row.values k column v is v_is) (none k (slice_get_within schema.columns k column is)));
    }

-- rows of the kinds of the columns, in none of which a NULL is missing
pub filled_rows : (schema : Schema) (rows all : List Row) → AllByRecursion (HasKinds (column_kinds schema.columns)) rows → ((k : ℕ) → k < length schema.columns → AllByRecursion (λ row. is_missing_at schema k row ≡ false) rows) → AllByRecursion (IsRowOf schema) rows
filled_rows schema [] all have none = tt
filled_rows schema (row ∷ rows) all have none =
    (filled_row schema row have.0 (λ k below. (none k below).0), filled_rows schema rows all have.1 (λ k below. (none k below).1))

pub rows_stored : (schema : Schema) (removed rows : List Row) (n : ℕ) (out added : List Row) (count : ℕ) → AllByRecursion (HasKinds (column_kinds schema.columns)) rows → stores removed rows n (first_missing schema rows) ≡ Changes out added count → AllByRecursion (IsRowOf schema) added
rows_stored schema removed rows n out added count have is =
    let stored = stores_changes removed rows n (first_missing schema rows) out added count is in
    subst (AllByRecursion (IsRowOf schema)) (sym stored.rows_are)
    (filled_rows schema rows rows have (λ k below. none_any (is_missing_at schema k) rows (none_below (λ place. list_any (is_missing_at schema place) rows) (length schema.columns) stored.none k below)))

-- ---- tuples

tuple_goes : (schema : Schema) (names : Option (List Name)) (t : Tuple) → misfit_in_tuple schema names t ≡ [] → AllGo schema names (tuple_values t)
tuple_goes schema names t fit p kind v target v_is =
    let literal = item_there t.values p (subst (λ n. p < n) (length-map t.values (λ (l : Literal). l.value)) (slice_get_within (tuple_values t) p v v_is)) in
    let none = each_place (misfit_value schema names) t.values fit p literal.0 literal.1 in
    let value_is : v ≡ literal.0.value = same_Some v literal.0.value (sym v_is ∙ slice_get-map (λ (l : Literal). l.value) t.values p ∙ ap (option_map (λ (l : Literal). l.value)) literal.1) in
    let fit_there = fits_unless (literal_fits (target_kind schema names p) literal.0.value) literal.0.place none in
    subst (GoesInto kind) (sym value_is) (literal_goes kind literal.0.value (subst (λ (k : Option Kind). literal_fits k literal.0.value ≡ true) target fit_there))

pub tuple_enters : (schema : Schema) → IsFoundByName schema → (names : Option (List Name)) (t : Tuple) → length t.values ≡ width schema names → misfit_in_tuple schema names t ≡ [] → AllZip Enters schema.columns (in_order schema names (tuple_values t))
tuple_enters schema found names t same fit =
    ordered_enter schema found names (tuple_values t) (length-map t.values (λ (l : Literal). l.value) ∙ same) (tuple_goes schema names t fit)
