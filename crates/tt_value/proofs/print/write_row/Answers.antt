use Rattle.tt_value.proofs.values.RowText.{OnErr-extends, printable_at, row_written}
use Rattle.tt_value.proofs.print.write_row.Goals as goal

pub returns-in_err-push-clause-err : goal.returns-in_err-push-clause-err
returns-in_err-push-clause-err c =
    OnErr-extends _ _ _ _ _ _ _ c.in_ok-write_value.ensures.ok c.loop-value.invariant c.in_err-push.ensures.items

pub write_value-requires-in-loop-value : goal.write_value-requires-in-loop-value
write_value-requires-in-loop-value c =
    printable_at _ _ _ _ _ _ c.items.ensures c.in-Some.ensures.cases.0 c.requires c.value-item.is c.loop-value-test.true

pub returns-clause-ok : goal.returns-clause-ok
returns-clause-ok c =
    row_written _ _ _ _ _ _ _ _ c.items.ensures c.in-Some.ensures.cases.0 c.in_ok-write_value.ensures.ok c.loop-value-test.false c.loop-value.invariant
