-- The row that an UPDATE makes of a row, column by column.
use Rattle.std.specs.Prelude.{◌≡◌, ℕ, List, map, Option, Some, None, option_and_then, slice_get}
use Rattle.std.specs.Option.{option_map}
use Rattle.std.specs.List.{position}
use Rattle.std.specs.Str.{bytes_eq}
use Rattle.tt_value.specs.declared.value.Column.{Column}
use Rattle.tt_value.specs.declared.value.Row.{Row}
use Rattle.tt_value.specs.declared.value.Value.{Value}
use Rattle.tt_value.specs.trees.Expressions.{value_of}
use Rattle.tt_value.specs.trees.Scope.{Scope}
use Rattle.tt_sql.specs.declared.change.Set.{Set}
use Rattle.tt_sql.specs.meaning.Changes.{for_column, updated_row}
use Rattle.tt_scope.specs.Places.{IsCounted, scope_in}
use Rattle.tt_rewrite.specs.declared.setting.Setting.{Setting}

-- the first SET that names a column
abbrev pub set_place : List Set → Column → Option ℕ
set_place sets column = position (λ (set : Set). bytes_eq set.column.text column.name) sets

-- the new value of a column by a SET
abbrev pub value_by : Scope → Row → Column → Set → Option Value
value_by scope row column set = option_map (for_column column) (value_of scope row set.value)

-- the value of a column by the SET at a place; without one it stays
abbrev pub value_at : Scope → List Set → Row → Column × Value → Option ℕ → Option Value
value_at scope sets row cell None = Some cell.1
value_at scope sets row cell (Some place) = option_and_then (value_by scope row cell.0) (slice_get sets place)

-- where each column finds its SET
pub record IsSetting (setting : Setting) : Type 0 where
  pub counted : IsCounted (scope_in setting.tables)
  pub columns : (scope_in setting.tables).columns ≡ setting.schema.now.columns
  pub places : setting.places.now ≡ map (set_place setting.sets.now) setting.schema.now.columns

-- the row that the SETs make of a row; none where a value is out of range
abbrev pub becomes : Setting → Row → Option Row
becomes setting row = updated_row (scope_in setting.tables) setting.sets.now row
