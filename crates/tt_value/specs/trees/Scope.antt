-- What the names of columns mean, and what a text in quotes means beside a date.
use Rattle.std.specs.Prelude.{ℕ, ℤ, List, Option, Some, None, slice_get, option_and_then}
use Rattle.std.specs.Option.{option_map}
use Rattle.std.specs.List.{position}
use Rattle.std.specs.Str.{bytes_eq}
use Rattle.tt_value.specs.declared.value.Kind.{Kind}
use Rattle.tt_value.specs.declared.value.Kind.TheVariants as kinds
use Rattle.tt_value.specs.declared.value.Value.{Value}
use Rattle.tt_value.specs.declared.value.Value.TheVariants.{Null, Int, Date, Text}
use Rattle.tt_value.specs.declared.value.Column.{Column}
use Rattle.tt_value.specs.declared.value.Schema.{Schema}
use Rattle.tt_value.specs.declared.value.Row.{Row}
use Rattle.tt_value.specs.declared.name.ColumnName.{ColumnName}
use Rattle.tt_value.specs.calendar.Reading.{day_of}

-- The columns of the rows that are spoken of, and the place among them of the column that a name means.
pub record Scope : Type 0 where
  pub columns : List Column
  pub place_of : ColumnName → Option ℕ

-- the first column of this name
abbrev pub column_place : Schema → List ℕ → Option ℕ
column_place schema name = position (λ (column : Column). bytes_eq column.name name) schema.columns

-- in a statement over one table a column's name stands alone
abbrev pub table_scope : Schema → Scope
table_scope schema = record { columns = schema.columns; place_of = λ c. column_place schema c.name.text }

-- the column that a name means
abbrev pub column_in : Scope → ColumnName → Option Column
column_in scope c = option_and_then (λ k. slice_get scope.columns k) (scope.place_of c)

-- the kind of the column that a name means
abbrev pub column_kind : Scope → ColumnName → Option Kind
column_kind scope c = option_map (λ (column : Column). column.kind) (column_in scope c)

abbrev pub value_or_null : Option Value → Value
value_or_null None = Null
value_or_null (Some v) = v

-- a row's value in the column that a name means
abbrev pub column_value : Scope → Row → ColumnName → Value
column_value scope row c = value_or_null (option_and_then (λ k. slice_get row.values k) (scope.place_of c))

-- NULL is of no kind
abbrev pub kind_of : Value → Option Kind
kind_of Null = None
kind_of (Int n) = Some kinds.Int
kind_of (Date day) = Some kinds.Date
kind_of (Text bytes) = Some kinds.Varchar

abbrev pub date_or_null : Option ℤ → Value
date_or_null None = Null
date_or_null (Some day) = Date day

-- A written value beside a column or value of a kind: beside a DATE a text in quotes is read as a date.
abbrev pub beside : Option Kind → Value → Value
beside (Some kinds.Date) (Text bytes) = date_or_null (day_of bytes)
beside _ v = v
