use Rattle.tt_print.proofs.text.Spacing.{behind}
use Rattle.tt_print.proofs.words.write_table_name.Goals as goal

pub returns : goal.returns
returns c = record { ok = behind _ _ _ _ _ c.in_ok-write_front.ensures.ok c.in_ok-write_name.ensures.ok }
