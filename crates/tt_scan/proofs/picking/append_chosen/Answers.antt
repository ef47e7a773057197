use Rattle.std.proofs.Common.{List, length, map, ◌++◌, ◌∙◌, ap, sym}
use Rattle.tt_partition.specs.declared.column.ColumnValues.{ColumnValues}
use Rattle.tt_partition.specs.ColumnView.{column_values}
use Rattle.tt_partition.specs.Table.{rows_by}
use Rattle.tt_scan.specs.Chosen.{chosen}
use Rattle.tt_scan.proofs.Choices.{none_chosen}
use Rattle.tt_scan.proofs.Columns.{chosen_again}
use Rattle.tt_scan.proofs.Scans.{and_nothing, on_ok}
use Rattle.tt_scan.proofs.picking.append_chosen.Goals as goal

pub returns-then-count-eq0 : goal.returns-then-count-eq0
returns-then-count-eq0 c =
    sym (ap (λ rows. c.args.rows.now.items ++ rows) (none_chosen c.args.bits.now c.args.partition.now.rows (sym c.count.ensures ∙ c.if-count-eq0.true)) ∙ and_nothing c.args.rows.now.items)

pub returns : goal.returns
returns c =
    on_ok c.append_rows.result
    (λ is. is
    ∙ ap (λ (columns : List ColumnValues). c.args.rows.now.items ++ chosen c.args.bits.now (rows_by (length c.args.bits.now) (map column_values columns))) c.deref.ensures.value
    ∙ ap (λ rows. c.args.rows.now.items ++ rows) (chosen_again c.args.partition.now c.in_ok-columns.columns.items c.args.bits.now c.is_part.ensures c.in_ok-columns.ensures c.requires))
    c.append_rows.ensures
