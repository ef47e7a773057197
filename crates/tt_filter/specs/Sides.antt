-- What the program knows of an operand: a decoded column, or a written value.
use Rattle.std.specs.Prelude.{◌≡◌, ℕ, List, Option, Some, None, slice_get}
use Rattle.tt_value.specs.declared.value.Kind.{Kind}
use Rattle.tt_value.specs.declared.value.Row.{Row}
use Rattle.tt_value.specs.declared.value.Schema.{Schema}
use Rattle.tt_value.specs.declared.value.Value.{Value}
use Rattle.tt_value.specs.declared.value.Value.TheVariants.{Null}
use Rattle.tt_value.specs.declared.name.ColumnName.{ColumnName}
use Rattle.tt_value.specs.declared.name.Literal.{Literal}
use Rattle.tt_value.specs.declared.predicate.Comparison.{Comparison}
use Rattle.tt_value.specs.declared.predicate.Operand.{Operand}
use Rattle.tt_value.specs.declared.predicate.Operand.TheVariants as operand
use Rattle.tt_value.specs.declared.predicate.Truth.{Truth}
use Rattle.tt_value.specs.trees.Predicates.{begins, compared, is_null, operand_kind, operand_value}
use Rattle.tt_value.specs.trees.Scope.{Scope, beside, kind_of, table_scope, value_or_null}
use Rattle.tt_value.specs.trees.Truths.{truth_of_bool}
use Rattle.tt_partition.specs.ColumnView.{column_kind, column_values}
use Rattle.tt_filter.specs.declared.sides.Side.{Side}
use Rattle.tt_filter.specs.declared.sides.Side.TheVariants as side
use Rattle.tt_filter.specs.declared.sides.Values.{Values}
use Rattle.tt_filter.specs.declared.sides.Values.TheVariants as values
use Rattle.tt_filter.specs.Givens.{given_in}

abbrev pub side_kind : Side → Option Kind
side_kind side.Missing = None
side_kind (side.Column column) = Some (column_kind column.now)
side_kind (side.Literal v) = kind_of v.now

-- its value on the row at a place, beside an operand of a kind
abbrev pub side_value : Option Kind → Side → ℕ → Value
side_value other side.Missing k = Null
side_value other (side.Column column) k = value_or_null (slice_get (column_values column.now) k)
side_value other (side.Literal v) k = beside other v.now

abbrev pub value_in : Values → ℕ → Value
value_in (values.Column column) k = value_or_null (slice_get (column_values column.now) k)
value_in (values.Same v) k = given_in v

-- what an operand is on these rows: its kind, and its values beside each other kind
pub record IsSideOf (scope : Scope) (rows : List Row) (operand : Operand) (s : Side) : Type 0 where
  pub kind : side_kind s ≡ operand_kind scope operand
  pub value : (other : Option Kind) (k : ℕ) (row : Row) → slice_get rows k ≡ Some row → side_value other s k ≡ operand_value scope row other operand

-- the same of a column
abbrev pub IsColumnSide : Schema → List Row → ColumnName → Side → Type 0
IsColumnSide schema rows c s = IsSideOf (table_scope schema) rows (operand.Column c) s

-- ---- conditions on the row at a place

-- each side is read beside the kind of the other
abbrev pub sides_compared : Side → Comparison → Side → ℕ → Truth
sides_compared s sign t k = compared sign (side_value (side_kind t) s k) (side_value (side_kind s) t k)

-- with a literal on the right
abbrev pub literal_compared : Side → Comparison → Literal → ℕ → Truth
literal_compared s sign l k = compared sign (side_value (kind_of l.value) s k) (beside (side_kind s) l.value)

abbrev pub side_null : Side → ℕ → Truth
side_null s k = truth_of_bool (is_null (side_value None s k))

abbrev pub side_begins : Side → List ℕ → ℕ → Truth
side_begins s front k = begins (side_value None s k) front
