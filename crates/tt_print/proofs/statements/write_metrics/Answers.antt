use Rattle.tt_print.proofs.text.Spacing.{behind}
use Rattle.tt_print.proofs.statements.write_metrics.Goals as goal

pub returns : goal.returns
returns c = record { ok = behind _ _ _ _ _ c.in_ok-write_word.ensures.ok (behind _ _ _ _ _ c.in_ok-write_word-2.ensures.ok (behind _ _ _ _ _ c.in_ok-write_word-3.ensures.ok (behind _ _ _ _ _ c.in_ok-write_word-4.ensures.ok (behind _ _ _ _ _ c.in_ok-write_word-5.ensures.ok c.in_ok-write_word-6.ensures.ok)))) }
