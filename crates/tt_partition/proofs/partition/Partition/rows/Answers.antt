use Rattle.std.proofs.Common.{◌≡◌, ◌∙◌, ℕ, List, Err, map, ap, sym, subst}
use Rattle.std.specs.List.{AllByRecursion, range_with_len}
use Rattle.tt_partition.specs.declared.column.ColumnValues.{ColumnValues}
use Rattle.tt_partition.specs.declared.error.ImageError.{ImageError}
use Rattle.tt_partition.specs.Table.{Table, row_of}
use Rattle.tt_partition.specs.ImageReading.{columns_in}
use Rattle.tt_partition.specs.Outcome.{Fails}
use Rattle.tt_partition.specs.Sound.{table_in}
use Rattle.tt_partition.specs.ColumnView.{column_values, IsValues}
use Rattle.tt_partition.proofs.ImageLaws.{read_values, if_same, kept_rows, not_image}
use Rattle.tt_partition.proofs.partition.Partition.rows.Goals as goal

pub rows_of-requires : goal.rows_of-requires
rows_of-requires c = subst (AllByRecursion IsValues) (sym c.deref.ensures.value) (read_values c.as_slice-image.result.now c.in-Ok.columns.rows c.in-Ok.columns.columns.items c.bytes_fit.ensures c.in-Ok.ensures)

pub returns-in-Ok : goal.returns-in-Ok
returns-in-Ok c =
    let n : ℕ = c.in-Ok.columns.rows in
    let columns : List ColumnValues = c.in-Ok.columns.columns.items in
    let seen : map (row_of (map column_values c.deref.result.now)) (range_with_len 0 n) ≡ c.args.self.now.rows
    = ap (λ (cols : List ColumnValues). map (row_of (map column_values cols)) (range_with_len 0 n)) c.deref.ensures.value
    ∙ kept_rows c.self.inside.image.items n columns (ap columns_in (sym c.as_slice-image.ensures.value) ∙ c.in-Ok.ensures) c.self.invariant.is_image
    ∙ ap (λ (t : Table). t.rows) c.self.view_is in
    if_same (λ v. v.items) c.rows_of.result (map (row_of (map column_values c.deref.result.now)) (range_with_len 0 n)) c.args.self.now.rows c.rows_of.ensures seen

pub unreachable-requires : goal.unreachable-requires
unreachable-requires c =
    let told : columns_in c.as_slice-image.result.now ≡ Err c.in-Err-BadImage.field-0-0.place = subst (λ (e : ImageError). Fails e (columns_in c.as_slice-image.result.now)) c.in-Err-BadImage.field-0-is c.in-Err-BadImage.ensures in
    not_image c.self.inside.image.items c.in-Err-BadImage.field-0-0.place (table_in c.self.inside.image.items) (ap columns_in (sym c.as_slice-image.ensures.value) ∙ told) c.self.invariant.is_image
