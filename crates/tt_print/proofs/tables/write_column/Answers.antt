use Rattle.tt_print.proofs.text.Spacing.{behind}
use Rattle.tt_print.proofs.tables.write_column.Goals as goal

pub returns : goal.returns
returns c = record { ok = behind _ _ _ _ _ c.in_ok-write_name.ensures.ok (behind _ _ _ _ _ c.in_ok-write_kind.ensures.ok (behind _ _ _ _ _ c.in_ok-write_if.ensures.ok c.in_ok-write_if-2.ensures.ok)) }
