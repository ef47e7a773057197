-- Operands over the rows of a partition, and conditions of them.
use Rattle.std.proofs.Common.{◌≡◌, ℕ, List, length, map, Some, None, refl, ap, sym, subst, ◌∙◌}
use Rattle.std.specs.Prelude.{slice_get, option_and_then}
use Rattle.std.specs.Option.{option_map}
use Rattle.std.specs.List.{range_with_len}
use Rattle.std.proofs.lemmas.Option.{slice_get-map}
use Rattle.std.specs.Borrow.{Bor}
use Rattle.tt_value.specs.declared.value.Column.{Column}
use Rattle.tt_value.specs.declared.value.Kind.{Kind}
use Rattle.tt_value.specs.declared.value.Row.{Row}
use Rattle.tt_value.specs.declared.value.Schema.{Schema}
use Rattle.tt_value.specs.declared.value.Value.{Value}
use Rattle.tt_value.specs.declared.name.ColumnName.{ColumnName}
use Rattle.tt_value.specs.declared.name.Literal.{Literal}
use Rattle.tt_value.specs.declared.predicate.Comparison.{Comparison}
use Rattle.tt_value.specs.declared.predicate.Operand.{Operand}
use Rattle.tt_value.specs.declared.predicate.Operand.TheVariants as operand
use Rattle.tt_value.specs.declared.predicate.Truth.{Truth}
use Rattle.tt_value.specs.trees.Predicates.{begins, is_null}
use Rattle.tt_value.specs.trees.Scope.{Scope, table_scope, value_or_null}
use Rattle.tt_value.specs.trees.Truths.{truth_of_bool}
use Rattle.tt_partition.specs.declared.column.ColumnValues.{ColumnValues}
use Rattle.tt_partition.specs.ColumnView.{column_kind, IsColumnAt}
use Rattle.tt_partition.specs.Cuts.{kinds_of}
use Rattle.tt_partition.specs.Table.{Table}
use Rattle.tt_filter.specs.declared.sides.Side.{Side}
use Rattle.tt_filter.specs.declared.sides.Side.TheVariants as side
use Rattle.tt_filter.specs.declared.truths.Truths.{Truths}
use Rattle.tt_filter.specs.Parts.{comparing, being_null, beginning}
use Rattle.tt_filter.specs.RowTruths.{HasTruths, OnRows}
use Rattle.tt_filter.specs.Sides.{side_kind, IsSideOf, IsColumnSide, sides_compared, literal_compared, side_null, side_begins}
use Rattle.tt_filter.proofs.Lists.{by_place}

-- ---- operands

pub missing_side : (schema : Schema) (rows : List Row) (c : ColumnName) → (table_scope schema).place_of c ≡ None → IsColumnSide schema rows c side.Missing
missing_side schema rows c none = record {
  kind = rw none refl;
  value = λ other k row e. rw none refl;
}

abbrev kind_of_column : Column → Kind
kind_of_column column = column.kind

pub column_side : (schema : Schema) (table : Table) (c : ColumnName) (place : ℕ) (column : Bor ColumnValues) → table.kinds ≡ kinds_of schema → (table_scope schema).place_of c ≡ Some place → IsColumnAt table place column.now → IsColumnSide schema table.rows c (side.Column column)
column_side schema table c place column kinds there is =
    let kind : Some (column_kind column.now) ≡ option_map kind_of_column (slice_get schema.columns place) =
    sym is.kind ∙ ap (λ ks. slice_get ks place) kinds ∙ slice_get-map kind_of_column schema.columns place in
    record {
      kind = kind ∙ ap (λ p. option_map kind_of_column (option_and_then (λ k. slice_get schema.columns k) p)) (sym there);
      value = λ other k row e.
          ap (λ vs. value_or_null (slice_get vs k)) is.values
          ∙ ap value_or_null (slice_get-map (λ (r : Row). value_or_null (slice_get r.values place)) table.rows k ∙ ap (option_map (λ (r : Row). value_or_null (slice_get r.values place))) e)
          ∙ ap (λ p. value_or_null (option_and_then (λ i. slice_get row.values i) p)) (sym there);
    }

pub literal_side : (scope : Scope) (rows : List Row) (l : Literal) (v : Bor Value) → v.now ≡ l.value → IsSideOf scope rows (operand.Literal l) (side.Literal v)
literal_side scope rows l v is = record {
  kind = rw is refl;
  value = λ other k row e. rw is refl;
}

-- ---- conditions

module _ (scope : Scope) (rows : List Row) (found : Truths) (count : ℕ) (counted : count ≡ length rows) where
  on_rows : (f : ℕ → Truth) (g : Row → Truth) → ((k : ℕ) (row : Row) → slice_get rows k ≡ Some row → f k ≡ g row) → HasTruths (map f (range_with_len 0 count)) found → OnRows g rows found
  on_rows f g each has = subst (λ ts. HasTruths ts found) (ap (λ n. map f (range_with_len 0 n)) counted ∙ by_place f g rows each) has

  pub compared_on : (a b : Operand) (s t : Side) (sign : Comparison) → IsSideOf scope rows a s → IsSideOf scope rows b t → HasTruths (map (sides_compared s sign t) (range_with_len 0 count)) found → OnRows (comparing scope a sign b) rows found
  compared_on a b s t sign is it = on_rows (sides_compared s sign t) (comparing scope a sign b) (λ k row e. rw (is.value (side_kind t) k row e, it.value (side_kind s) k row e, is.kind, it.kind) refl)

  pub literal_on : (a : Operand) (l : Literal) (s : Side) (sign : Comparison) → IsSideOf scope rows a s → HasTruths (map (literal_compared s sign l) (range_with_len 0 count)) found → OnRows (comparing scope a sign (operand.Literal l)) rows found
  literal_on a l s sign is = on_rows (literal_compared s sign l) (comparing scope a sign (operand.Literal l)) (λ k row e. rw (is.value _ k row e, is.kind) refl)

  pub null_on : (a : Operand) (s : Side) → IsSideOf scope rows a s → HasTruths (map (side_null s) (range_with_len 0 count)) found → OnRows (being_null scope a) rows found
  null_on a s is = on_rows (side_null s) (being_null scope a) (λ k row e. ap (λ v. truth_of_bool (is_null v)) (is.value None k row e))

  pub begins_on : (c : ColumnName) (s : Side) (front : List ℕ) → IsSideOf scope rows (operand.Column c) s → HasTruths (map (side_begins s front) (range_with_len 0 count)) found → OnRows (beginning scope c front) rows found
  begins_on c s front is = on_rows (side_begins s front) (beginning scope c front) (λ k row e. ap (λ v. begins v front) (is.value None k row e))
