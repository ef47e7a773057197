use Rattle.std.proofs.Common.{◌<◌, ◌≤◌, ◌++◌, ◌∙◌, ap, map, subst, sym}
use Rattle.tt_partition.specs.ColumnView.{column_values}
use Rattle.tt_partition.specs.Table.{row_of}
use Rattle.tt_scan.specs.Chosen.{if_set}
use Rattle.tt_scan.proofs.Choices.{chosen_step, chosen_done}
use Rattle.tt_scan.proofs.picking.append_rows.Goals as goal

pub loop-at-preserved : goal.loop-at-preserved
loop-at-preserved c =
    let row = row_of (map column_values c.args.columns.now) in
    chosen_step row c.args.bits.now c.loop-at.at c.loop-at.rows.items c.append_if_set.new.rows.items (subst (λ n. c.loop-at.at < n) c.len-at-end.ensures c.loop-at-test.true)
    (c.in_ok-append_if_set.ensures ∙ ap (λ bit. c.loop-at.rows.items ++ if_set bit (row c.loop-at.at)) c.get.ensures)
    ∙ c.loop-at.invariant

pub returns : goal.returns
returns c =
    sym (chosen_done (row_of (map column_values c.args.columns.now)) c.args.bits.now c.loop-at.at c.loop-at.rows.items (subst (λ n. n ≤ c.loop-at.at) c.len-at-end.ensures c.loop-at-test.false))
    ∙ c.loop-at.invariant
