-- A row that an UPDATE makes of a row that fits its table fits it too.
use Rattle.std.proofs.Common.{◌≡◌, ℕ, Bool, true, false, cond, List, [], ◌∷◌, map, Option, Some, None, refl, sym, subst}
use Rattle.std.specs.Prelude.{ℤ, IfSome, slice_get}
use Rattle.std.specs.Option.{option_map}
use Rattle.std.specs.List.{AllByRecursion, AllZip, zip}
use Rattle.std.specs.Str.{bytes_eq}
use Rattle.std.proofs.lemmas.Slice.Eq.{bytes_eq-Decides}
use Rattle.tt_value.proofs.calendar.Dates.{day_of-read}
use Rattle.tt_value.specs.calendar.Reading.{day_of}
use Rattle.tt_value.specs.declared.value.Column.{Column}
use Rattle.tt_value.specs.declared.value.Kind.{Kind}
use Rattle.tt_value.specs.declared.value.Kind.TheVariants as kinds
use Rattle.tt_value.specs.declared.value.Row.{Row}
use Rattle.tt_value.specs.declared.value.Schema.{Schema}
use Rattle.tt_value.specs.declared.value.Value.{Value}
use Rattle.tt_value.specs.declared.value.Value.TheVariants.{Null, Int, Date, Text}
use Rattle.tt_value.specs.trees.Expressions.{value_of}
use Rattle.tt_value.specs.trees.Scope.{Scope, beside, date_or_null}
use Rattle.tt_value.specs.values.RowText.{IsPrintableValue}
use Rattle.tt_sql.specs.declared.change.Set.{Set}
use Rattle.tt_sql.specs.declared.change.Update.{Update}
use Rattle.tt_sql.specs.meaning.Changes.{for_column, set_value, updated_row}
use Rattle.tt_sql.specs.meaning.Queries.{all_some}
use Rattle.tt_sql.specs.text.StatementOf.{most_levels}
use Rattle.tt_sql.specs.trees.Lists.{Each, IsListed}
use Rattle.tt_sql.specs.trees.Statements.{IsWrittenSet}
use Rattle.tt_plain.specs.Places.{each, if_there}
use Rattle.tt_plain.specs.TypeMismatches.{misfit_in_predicate, misfit_in_set}
use Rattle.tt_plain.specs.TypingRefusal.{IsWellTyped}
use Rattle.tt_plain.specs.UnknownColumns.{unknown_in_predicate, unknown_in_set}
use Rattle.tt_plain.specs.ValueKinds.{HasKinds, IsOf, column_kinds}
use Rattle.tt_typer.proofs.Accepted.{well_typed}
use Rattle.tt_typer.proofs.ChangedRows.{in_scope, set_goes}
use Rattle.tt_typer.proofs.KindLaws.{nil_each, nil_parts}
use Rattle.tt_typer.proofs.ListLaws.{all_both, all_from_places, all_there}
use Rattle.tt_typer.proofs.OneTable.{columns_in_one}
use Rattle.tt_typer.proofs.QueryAnswers.{option_map_some}
use Rattle.tt_typer.proofs.StoredRows.{named_column}
use Rattle.tt_partition.specs.Cuts as cuts
use Rattle.tt_partition.specs.Fits.{FitKinds, FitsKind}
use Rattle.tt_state.specs.declared.ticket.Seen.{Seen}
use Rattle.tt_rewrite.proofs.WrittenValues.{Can, written_can}
use Rattle.tt_rewrite.specs.Updates.{KeepsFit, MayUpdate, scope_of, updating}

-- ---- values

value_fits : (kind : Kind) (v : Value) → IsOf (Some kind) v → IsPrintableValue v → FitsKind kind v
value_fits kinds.Int Null of can = tt
value_fits kinds.Date Null of can = tt
value_fits kinds.Varchar Null of can = tt
value_fits kinds.Int (Int n) of can = tt
value_fits kinds.Date (Int n) of can = cc
value_fits kinds.Varchar (Int n) of can = cc
value_fits kinds.Int (Date day) of can = cc
value_fits kinds.Date (Date day) of can = can
value_fits kinds.Varchar (Date day) of can = cc
value_fits kinds.Int (Text bytes) of can = cc
value_fits kinds.Date (Text bytes) of can = cc
value_fits kinds.Varchar (Text bytes) of can = tt

fits_of : (kind : Kind) (v : Value) → FitsKind kind v → IsOf (Some kind) v
fits_of kind Null fits = tt
fits_of kinds.Int (Int n) fits = refl
fits_of kinds.Date (Int n) fits = absurd fits
fits_of kinds.Varchar (Int n) fits = absurd fits
fits_of kinds.Int (Date day) fits = absurd fits
fits_of kinds.Date (Date day) fits = refl
fits_of kinds.Varchar (Date day) fits = absurd fits
fits_of kinds.Int (Text bytes) fits = absurd fits
fits_of kinds.Date (Text bytes) fits = absurd fits
fits_of kinds.Varchar (Text bytes) fits = refl

fits_can : (kind : Kind) (v : Value) → FitsKind kind v → IsPrintableValue v
fits_can kind Null fits = tt
fits_can kind (Int n) fits = tt
fits_can kinds.Int (Date day) fits = absurd fits
fits_can kinds.Date (Date day) fits = fits
fits_can kinds.Varchar (Date day) fits = absurd fits
fits_can kind (Text bytes) fits = tt

read_date : (bytes : List ℕ) (day : Option ℤ) → day_of bytes ≡ day → IsPrintableValue (date_or_null day)
read_date bytes None is = tt
read_date bytes (Some day) is = (day_of-read bytes day is).0

beside_can : (kind : Kind) (v : Value) → IsPrintableValue v → IsPrintableValue (beside (Some kind) v)
beside_can kinds.Int v can = can
beside_can kinds.Varchar v can = can
beside_can kinds.Date Null can = can
beside_can kinds.Date (Int n) can = can
beside_can kinds.Date (Date day) can = can
beside_can kinds.Date (Text bytes) can = read_date bytes (day_of bytes) refl

-- ---- rows

row_of : (columns : List Column) (values : List Value) → FitKinds (cuts.column_kinds columns) values → AllZip IsOf (column_kinds columns) values
row_of [] [] fit = tt
row_of [] (v ∷ values) fit = absurd fit
row_of (column ∷ columns) [] fit = absurd fit
row_of (column ∷ columns) (v ∷ values) fit = (fits_of column.kind v fit.0, row_of columns values fit.1)

row_can : (columns : List Column) (values : List Value) → FitKinds (cuts.column_kinds columns) values → AllByRecursion IsPrintableValue values
row_can [] [] fit = tt
row_can [] (v ∷ values) fit = absurd fit
row_can (column ∷ columns) [] fit = absurd fit
row_can (column ∷ columns) (v ∷ values) fit = (fits_can column.kind v fit.0, row_can columns values fit.1)

-- whatever fits a column, what is made of it fits too
abbrev KeepsColumn : (Column × Value → Option Value) → Column → Type 0
KeepsColumn make column = (v : Value) → FitsKind column.kind v → IfSome (make (column, v)) (FitsKind column.kind)

cells_fit : (make : Column × Value → Option Value) (columns : List Column) (values new : List Value) → AllByRecursion (KeepsColumn make) columns → FitKinds (cuts.column_kinds columns) values → AllZip (λ cell v. make cell ≡ Some v) (zip columns values) new → FitKinds (cuts.column_kinds columns) new
cells_fit make [] values [] keeps fit all = tt
cells_fit make [] [] (w ∷ new) keeps fit all = absurd all
cells_fit make [] (v ∷ values) (w ∷ new) keeps fit all = absurd fit
cells_fit make (column ∷ columns) [] new keeps fit all = absurd fit
cells_fit make (column ∷ columns) (v ∷ values) [] keeps fit all = absurd all
cells_fit make (column ∷ columns) (v ∷ values) (w ∷ new) keeps fit all =
    (subst (λ o. IfSome o (FitsKind column.kind)) all.0 (keeps.0 v fit.0), cells_fit make columns values new keeps.1 fit.1 all.1)

listed_each : {A : Type 0} (P : A → Type 0) (xs : List A) → IsListed P xs → AllByRecursion P xs
listed_each P [] is = absurd is
listed_each P (x ∷ xs) is = (is.0, others xs is.1)
  where
    others : (ys : List _) → Each P ys → AllByRecursion P ys
    others [] all = tt
    others (y ∷ ys) all = (all.0, others ys all.1)

module _ (seen : Seen) (update : Update) (may : MayUpdate seen update) where
  abbrev schema : Schema
  schema = seen.schema

  abbrev scope : Scope
  scope = scope_of seen update

  typed : IsWellTyped (schema ∷ []) (updating update)
  typed = well_typed (schema ∷ []) (updating update) may.typed

  abbrev Known : Set → Type 0
  Known s = (unknown_in_set update.table schema s ≡ []) × (misfit_in_set update.table schema s ≡ [])

  abbrev IsRight : Set → Type 0
  IsRight s = Known s × IsWrittenSet most_levels s

  sets_right : AllByRecursion IsRight update.sets
  sets_right =
      let known = nil_parts (each (unknown_in_set update.table schema) update.sets) (if_there (unknown_in_predicate scope) update.filter) typed.columns in
      let fit = nil_parts (each (misfit_in_set update.table schema) update.sets) (if_there (misfit_in_predicate scope) update.filter) typed.kinds in
      all_both Known (IsWrittenSet most_levels) update.sets
      (all_both (λ s. unknown_in_set update.table schema s ≡ []) (λ s. misfit_in_set update.table schema s ≡ []) update.sets
      (nil_each (unknown_in_set update.table schema) update.sets known.0) (nil_each (misfit_in_set update.table schema) update.sets fit.0))
      (listed_each (IsWrittenSet most_levels) update.sets may.written)

  module _ (row : Row) (fit : FitKinds (cuts.kinds_of schema) row.values) where
    have : HasKinds (column_kinds scope.columns) row
    have = in_scope update.table schema row (row_of schema.columns row.values fit)

    value_by_fits : (s : Set) → IsRight s → (column : Column) (k : ℕ) → slice_get schema.columns k ≡ Some column → bytes_eq s.column.text column.name ≡ true → (o : Option Value) → value_of scope row s.value ≡ o → IfSome (option_map (for_column column) o) (FitsKind column.kind)
    value_by_fits s right column k is same None o_is = tt
    value_by_fits s right column k is same (Some v) o_is =
        let named = named_column schema may.named k column s.column is (sym ((bytes_eq-Decides s.column.text column.name).0 same)) in
        let goes = set_goes update.table schema may.named row have s right.0 column named v o_is in
        let can = subst Can o_is (written_can scope row (row_can schema.columns row.values fit) most_levels s.value right.1.1) in
        value_fits column.kind (for_column column v) goes.of_kind (beside_can column.kind v can)

    set_or_later : (s : Set) (sets : List Set) → IsRight s → (column : Column) (k : ℕ) → slice_get schema.columns k ≡ Some column → (v : Value) → IfSome (set_value scope sets row (column, v)) (FitsKind column.kind) → (named : Bool) → bytes_eq s.column.text column.name ≡ named → IfSome (cond named (option_map (for_column column) (value_of scope row s.value)) (set_value scope sets row (column, v))) (FitsKind column.kind)
    set_or_later s sets right column k is v later true same = value_by_fits s right column k is same (value_of scope row s.value) refl
    set_or_later s sets right column k is v later false other = later

    set_fits : (sets : List Set) → AllByRecursion IsRight sets → (column : Column) (k : ℕ) → slice_get schema.columns k ≡ Some column → KeepsColumn (set_value scope sets row) column
    set_fits [] right column k is v fits = fits
    set_fits (s ∷ sets) right column k is v fits = set_or_later s sets right.0 column k is v (set_fits sets right.1 column k is v fits) (bytes_eq s.column.text column.name) refl

    new_values_fit : (new : List Value) → all_some (map (set_value scope update.sets row) (zip scope.columns row.values)) ≡ Some new → FitKinds (cuts.kinds_of schema) new
    new_values_fit new is =
        let own = subst (λ (columns : List Column). all_some (map (set_value scope update.sets row) (zip columns row.values)) ≡ Some new) (columns_in_one update.table schema) is in
        cells_fit (set_value scope update.sets row) schema.columns row.values new
        (all_from_places (KeepsColumn (set_value scope update.sets row)) schema.columns (λ k column at. set_fits update.sets sets_right column k at))
        fit (all_there (set_value scope update.sets row) (zip schema.columns row.values) new own)

  pub keeps_fit : KeepsFit schema (updated_row scope update.sets)
  keeps_fit row new fit is =
      let made = option_map_some (λ vs. record { values = vs }) (all_some (map (set_value scope update.sets row) (zip scope.columns row.values))) new is in
      subst (λ (r : Row). FitKinds (cuts.kinds_of schema) r.values) made.2 (new_values_fit row fit made.0 made.1)
