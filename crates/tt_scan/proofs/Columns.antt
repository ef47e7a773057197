-- The columns of a partition, and its rows made of them.
use Rattle.std.proofs.Common.{◌≡◌, ℕ, ◌+◌, List, [], ◌∷◌, ◌++◌, length, map, ap, sym, subst, ◌∙◌, arith}
use Rattle.std.specs.List.{AllByRecursion, range_with_len}
use Rattle.std.proofs.lemmas.List.{map-append}
use Rattle.std.proofs.lemmas.List.FromFn.{length-map-range_with_len, map-range_with_len_more}
use Rattle.std.proofs.lemmas.Slice.Zip.{seconds-zip}
use Rattle.tt_value.specs.declared.value.Row.{Row}
use Rattle.tt_value.specs.declared.value.Value.{Value}
use Rattle.tt_zone.specs.Zones.{column_at}
use Rattle.tt_partition.specs.declared.column.ColumnValues.{ColumnValues}
use Rattle.tt_partition.specs.ColumnView.{column_kind, column_values, IsColumnAt, IsValues}
use Rattle.tt_partition.specs.Table.{Table, columns_of, rows_by, IsOf, IsPart}
use Rattle.tt_partition.proofs.TableLaws.{column_fits, table_again}
use Rattle.tt_scan.specs.Chosen.{chosen, AreColumnsOf}

pub are_of_kind : (table : Table) (place : ℕ) (column : ColumnValues) → IsPart table → IsColumnAt table place column → IsValues column
are_of_kind table place column part is = subst (AllByRecursion (IsOf (column_kind column))) (sym is.values) (column_fits table.kinds table.rows place (column_kind column) part.of_kinds is.kind)

all_and : (columns : List ColumnValues) (column : ColumnValues) → AllByRecursion IsValues columns → IsValues column → AllByRecursion IsValues (columns ++ column ∷ [])
all_and [] column all is = (is, tt)
all_and (c ∷ columns) column all is = (all.0, all_and columns column all.1 is)

abbrev values_of : List Row → ℕ → List Value
values_of rows k = column_at k rows

pub one_more_column : (rows : List Row) (old new : List ColumnValues) (column : ColumnValues) (place : ℕ) → new ≡ old ++ column ∷ []
    → (map column_values old ≡ map (values_of rows) (range_with_len 0 place)) × AllByRecursion IsValues old
    → column_values column ≡ column_at place rows → IsValues column
    → (map column_values new ≡ map (values_of rows) (range_with_len 0 (place + 1))) × AllByRecursion IsValues new
one_more_column rows old new column place is so_far values kind = (
  ap (map column_values) is ∙ map-append column_values old (column ∷ [])
      ∙ ap (λ (vs : List (List Value)). vs ++ column_values column ∷ []) so_far.0
      ∙ ap (λ (v : List Value). map (values_of rows) (range_with_len 0 place) ++ v ∷ []) values
      ∙ sym (map-range_with_len_more (values_of rows) 0 place place (omega arith)),
  subst (AllByRecursion IsValues) (sym is) (all_and old column so_far.1 kind),
)

-- the rows of a part are those of its columns
pub rows_again : (table : Table) (columns : List ColumnValues) → IsPart table → AreColumnsOf table columns → rows_by (length table.rows) (map column_values columns) ≡ table.rows
rows_again table columns part are =
    let vss : List (List Value) = map (values_of table.rows) (range_with_len 0 (length table.kinds)) in
    let seconds : map (λ (c : _ × List Value). c.1) (columns_of table) ≡ vss = seconds-zip table.kinds vss (length-map-range_with_len (values_of table.rows) 0 (length table.kinds)) in
    ap (rows_by (length table.rows)) (are.values ∙ sym seconds)
    ∙ ap (λ (t : Table). t.rows) (table_again table part.of_kinds)

pub chosen_again : (table : Table) (columns : List ColumnValues) (bits : List _) → IsPart table → AreColumnsOf table columns → length bits ≡ length table.rows → chosen bits (rows_by (length bits) (map column_values columns)) ≡ chosen bits table.rows
chosen_again table columns bits part are long = ap (chosen bits) (ap (λ n. rows_by n (map column_values columns)) long ∙ rows_again table columns part are)
