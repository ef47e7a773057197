use Rattle.tt_print.proofs.text.Spacing.{behind}
use Rattle.tt_print.proofs.queries.write_narrowed.Goals as goal

pub returns : goal.returns
returns c = record { ok = rw (← c.as_slice.ensures, ← c.as_slice-2.ensures) (behind _ _ _ _ _ c.in_ok-write_filter.ensures.ok (behind _ _ _ _ _ c.in_ok-write_group.ensures.ok (behind _ _ _ _ _ c.in_ok-write_order.ensures.ok c.in_ok-write_limit.ensures.ok))) }
