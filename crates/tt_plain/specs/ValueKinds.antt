-- Which values and rows are of which kinds.
use Rattle.std.specs.Prelude.{◌≡◌, ⊤, ℕ, false, List, map, slice_get, Option, Some}
use Rattle.std.specs.List.{AllZip}
use Rattle.tt_value.specs.declared.value.Kind.{Kind}
use Rattle.tt_value.specs.declared.value.Value.{Value}
use Rattle.tt_value.specs.declared.value.Value.TheVariants.{Null}
use Rattle.tt_value.specs.declared.value.Column.{Column}
use Rattle.tt_value.specs.declared.value.Row.{Row}
use Rattle.tt_value.specs.declared.value.Schema.{Schema}
use Rattle.tt_value.specs.trees.Scope.{column_place, kind_of}
use Rattle.tt_sql.specs.meaning.Changes.{is_missing}

-- NULL is of every kind, and where there is no kind it is all that there is.
abbrev pub IsOf : Option Kind → Value → Type 0
IsOf kind Null = ⊤
IsOf kind v = kind_of v ≡ kind

-- one value for each of these kinds, in their order
abbrev pub HasKinds : List (Option Kind) → Row → Type 0
HasKinds kinds row = AllZip IsOf kinds row.values

abbrev pub column_kinds : List Column → List (Option Kind)
column_kinds columns = map (λ (column : Column). Some column.kind) columns

-- A row by the columns of a table: each value of its column's kind, and no NULL where none may stand. In which years a date lies is not asked.
pub record IsRowOf (schema : Schema) (row : Row) : Type 0 where
  pub kinds : HasKinds (column_kinds schema.columns) row
  pub filled : AllZip (λ (column : Column) (v : Value). is_missing (Some (column, v)) ≡ false) schema.columns row.values

-- each column is the one that its name means, as where no two columns have one name
abbrev pub IsFoundByName : Schema → Type 0
IsFoundByName schema = (k : ℕ) (column : Column) → slice_get schema.columns k ≡ Some column → column_place schema column.name ≡ Some k
