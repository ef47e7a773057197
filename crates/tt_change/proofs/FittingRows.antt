-- Rows of the kinds of their columns, whose dates can be written, fit the schema.
use Rattle.std.proofs.Common.{List, [], ◌∷◌, Some}
use Rattle.std.specs.List.{AllByRecursion, AllZip}
use Rattle.std.proofs.lemmas.List.Elements.{recursion_from_All}
use Rattle.tt_value.specs.declared.value.Kind.{Kind}
use Rattle.tt_value.specs.declared.value.Kind.TheVariants as kinds
use Rattle.tt_value.specs.declared.value.Value.{Value}
use Rattle.tt_value.specs.declared.value.Value.TheVariants.{Null, Int, Date, Text}
use Rattle.tt_value.specs.declared.value.Column.{Column}
use Rattle.tt_value.specs.declared.value.Schema.{Schema}
use Rattle.tt_value.specs.declared.value.Row.{Row}
use Rattle.tt_value.specs.values.RowText.{IsPrintable, IsPrintableValue}
use Rattle.tt_plain.specs.ValueKinds.{IsOf, IsRowOf, column_kinds}
use Rattle.tt_partition.specs.Cuts as cuts
use Rattle.tt_partition.specs.Fits.{FitKinds, FitSchema, FitsKind}

value_fits : (kind : Kind) (v : Value) → IsOf (Some kind) v → IsPrintableValue v → FitsKind kind v
value_fits kinds.Int Null of can = tt
value_fits kinds.Date Null of can = tt
value_fits kinds.Varchar Null of can = tt
value_fits kinds.Int (Int n) of can = tt
value_fits kinds.Date (Int n) of can = cc
value_fits kinds.Varchar (Int n) of can = cc
value_fits kinds.Int (Date day) of can = cc
value_fits kinds.Date (Date day) of can = can
value_fits kinds.Varchar (Date day) of can = cc
value_fits kinds.Int (Text bytes) of can = cc
value_fits kinds.Date (Text bytes) of can = cc
value_fits kinds.Varchar (Text bytes) of can = tt

pub values_fit : (columns : List Column) (values : List Value) → AllZip IsOf (column_kinds columns) values → AllByRecursion IsPrintableValue values → FitKinds (cuts.column_kinds columns) values
values_fit [] [] of can = tt
values_fit [] (v ∷ values) of can = absurd of
values_fit (column ∷ columns) [] of can = absurd of
values_fit (column ∷ columns) (v ∷ values) of can = (value_fits column.kind v of.0 can.0, values_fit columns values of.1 can.1)

pub rows_fit : (schema : Schema) (rows : List Row) → AllByRecursion (IsRowOf schema) rows → AllByRecursion IsPrintable rows → FitSchema schema rows
rows_fit schema [] own can = tt
rows_fit schema (row ∷ rows) own can =
    (values_fit schema.columns row.values own.0.kinds (recursion_from_All IsPrintableValue row.values can.0), rows_fit schema rows own.1 can.1)
