use Rattle.std.proofs.Common.{◌∙◌, ℕ, List, length, map, ap, sym, subst, arith}
use Rattle.std.specs.List.{AllByRecursion, range_with_len}
use Rattle.std.proofs.lemmas.Result.{err_from_is_err_and}
use Rattle.tt_value.specs.declared.value.Row.{Row}
use Rattle.tt_zone.specs.Zones.{zone_of, column_at}
use Rattle.tt_partition.specs.declared.column.ColumnValues.{ColumnValues}
use Rattle.tt_partition.specs.Table.{row_of}
use Rattle.tt_partition.specs.ColumnView.{column_values, IsValues}
use Rattle.tt_partition.proofs.ImageLaws.{read_values, few_read, rows_count, built, exact_is, fails_on}
use Rattle.tt_partition.proofs.partition.read_partition.Goals as goal

pub rows_of-requires : goal.rows_of-requires
rows_of-requires c = subst (AllByRecursion IsValues) (sym c.as_slice-values.ensures.value) (read_values c.args.bytes.now c.in_ok-columns.columns.rows c.in_ok-columns.columns.columns.items c.bytes_fit.ensures c.in_ok-columns.ensures)

pub zones_of-requires : goal.zones_of-requires
zones_of-requires c =
    let len = rows_count c.in_ok-columns.columns.rows c.as_slice-values.result.now c.in_ok-rows.rows.items c.in_ok-rows.ensures in
    let same = ap length c.deref.ensures.value in
    let few = few_read c.args.bytes.now c.in_ok-columns.columns.rows c.in_ok-columns.columns.columns.items c.bytes_fit.ensures c.in_ok-columns.ensures in
    omega (arith, len, same, few)

pub invariant_of-result : goal.invariant_of-result
invariant_of-result c =
    let n : ℕ = c.in_ok-columns.columns.rows in
    let columns : List ColumnValues = c.in_ok-columns.columns.columns.items in
    let rows : List Row = c.in_ok-rows.rows.items in
    built c.in_ok-image.image.items c.args.bytes.now n columns rows c.in_ok-zones.zones.items c.in_ok-image.ensures.items c.in_ok-columns.ensures
    (c.in_ok-rows.ensures ∙ ap (λ (cols : List ColumnValues). map (row_of (map column_values cols)) (range_with_len 0 n)) c.as_slice-values.ensures.value)
    (c.in_ok-zones.ensures ∙ ap (λ (r : List Row). map (λ k. zone_of (column_at k r)) (range_with_len 0 (length c.as_slice-values.result.now))) c.deref.ensures.value ∙ ap (λ m. map (λ k. zone_of (column_at k rows)) (range_with_len 0 m)) (ap length c.as_slice-values.ensures.value))

pub returns : goal.returns
returns c =
    let n : ℕ = c.in_ok-columns.columns.rows in
    let columns : List ColumnValues = c.in_ok-columns.columns.columns.items in
    let rows : List Row = c.in_ok-rows.rows.items in
    exact_is c.in_ok-image.image.items c.args.bytes.now c.in_ok-zones.zones.items n c.in_ok-image.ensures.items
    (built c.in_ok-image.image.items c.args.bytes.now n columns rows c.in_ok-zones.zones.items c.in_ok-image.ensures.items c.in_ok-columns.ensures
    (c.in_ok-rows.ensures ∙ ap (λ (cols : List ColumnValues). map (row_of (map column_values cols)) (range_with_len 0 n)) c.as_slice-values.ensures.value)
    (c.in_ok-zones.ensures ∙ ap (λ (r : List Row). map (λ k. zone_of (column_at k r)) (range_with_len 0 (length c.as_slice-values.result.now))) c.deref.ensures.value ∙ ap (λ m. map (λ k. zone_of (column_at k rows)) (range_with_len 0 m)) (ap length c.as_slice-values.ensures.value)))

pub returns-in_err-columns : goal.returns-in_err-columns
returns-in_err-columns c =
    let p = err_from_is_err_and c.from_residual.result c.from_residual.ensures.1 in
    rw (p.1, p.2) (fails_on c.args.bytes.now c.in_err-columns.field-0.0 c.in_err-columns.ensures)
