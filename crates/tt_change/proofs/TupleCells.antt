-- The cells of a written tuple are those of the row that is stored for it.
use Rattle.std.proofs.Common.{◌≡◌, ℕ, List, [], ◌∷◌, map, Option, Some, None, refl, ap, sym, ◌∙◌}
use Rattle.std.specs.Prelude.{slice_get, option_and_then}
use Rattle.std.specs.Option.{option_map}
use Rattle.std.specs.List.{position, zip}
use Rattle.std.specs.Str.{bytes_eq}
use Rattle.std.proofs.lemmas.Option.{slice_get-map}
use Rattle.tt_value.specs.declared.value.Value.{Value}
use Rattle.tt_value.specs.declared.value.Column.{Column}
use Rattle.tt_value.specs.declared.value.Schema.{Schema}
use Rattle.tt_value.specs.declared.value.Row.{Row}
use Rattle.tt_value.specs.declared.name.Name.{Name}
use Rattle.tt_value.specs.declared.name.Literal.{Literal}
use Rattle.tt_value.specs.trees.Scope.{value_or_null}
use Rattle.tt_sql.specs.declared.change.Tuple.{Tuple}
use Rattle.tt_sql.specs.meaning.Changes.{for_column, given_value, stored_row, tuple_values}
use Rattle.tt_change.specs.Cells.{written, stored_by_name, tuple_cells, stored_tuple}

pub written_twice : (schema : Schema) (names : Option (List Name)) (tuples : List Tuple) → map (stored_row schema names) (map tuple_values tuples) ≡ map (stored_tuple schema names) tuples
written_twice schema names [] = refl
written_twice schema names (t ∷ tuples) = ap (λ rows. stored_row schema names (tuple_values t) ∷ rows) (written_twice schema names tuples)

pub by_names : (names : List Name) (literals : List Literal) (columns : List Column) → map (λ cell. for_column cell.0 cell.1) (zip columns (map (given_value names (written literals)) columns)) ≡ map (stored_by_name names literals) columns
by_names names literals columns = by columns
  where
    by : (cs : List Column) → map (λ cell. for_column cell.0 cell.1) (zip cs (map (given_value names (written literals)) cs)) ≡ map (stored_by_name names literals) cs
    by [] = refl
    by (column ∷ cs) = ap (λ values. stored_by_name names literals column ∷ values) (by cs)

-- the cells of a tuple are its row
pub tuple_is : (schema : Schema) (names : Option (List Name)) (t : Tuple) → ◌≡◌ {A = Row} (record { values = tuple_cells schema.columns names t.values }) (stored_tuple schema names t)
tuple_is schema None t = refl
tuple_is schema (Some names) t = ap (λ (values : List Value). let row : Row = record { values = values } in row) (sym (by_names names t.values schema.columns))

-- what is written at a place
pub cell_at : (literals : List Literal) (k : ℕ) (o : Option Literal) → o ≡ slice_get literals k → value_or_null (option_map (λ (l : Literal). l.value) o) ≡ value_or_null (slice_get (written literals) k)
cell_at literals k o is = ap (λ o. value_or_null (option_map (λ (l : Literal). l.value) o)) is ∙ ap value_or_null (sym (slice_get-map (λ (l : Literal). l.value) literals k))

-- what is written for a name
pub named_cell : (names : List Name) (literals : List Literal) (column : Column) (o : Option ℕ) → o ≡ position (λ (name : Name). bytes_eq name.text column.name) names → value_or_null (option_and_then (slice_get (written literals)) o) ≡ given_value names (written literals) column
named_cell names literals column o is = ap (λ o. value_or_null (option_and_then (slice_get (written literals)) o)) is
