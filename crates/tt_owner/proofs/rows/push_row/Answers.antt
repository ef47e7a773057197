use Rattle.tt_owner.proofs.Totals.{no_row, one_row}
use Rattle.tt_owner.proofs.rows.push_row.Goals as goal

pub returns-then-not-is_measured : goal.returns-then-not-is_measured
returns-then-not-is_measured c = λ facts at permuted.
    no_row facts c.args.owned.now c.owned_by-run.result.now c.args.table.now c.args.at c.args.rows.now.items at permuted c.owned_by-run.ensures c.if-not-is_measured.ensures

pub returns : goal.returns
returns c = λ facts at permuted.
    one_row facts c.args.owned.now c.owned_by-run.result.now c.args.table.now c.args.at c.args.rows.now.items c.push.new.self.items c.in_ok-row_of_run.field-0 at permuted c.owned_by-run.ensures
    c.if-not-is_measured.ensures c.in_ok-row_of_run.ensures c.in_ok-push.ensures.items
