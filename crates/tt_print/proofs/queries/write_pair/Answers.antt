use Rattle.tt_print.proofs.text.Spacing.{behind}
use Rattle.tt_print.proofs.queries.write_pair.Goals as goal

pub returns : goal.returns
returns c = record { ok = behind _ _ _ _ _ c.in_ok-write_column_name.ensures.ok (behind _ _ _ _ _ c.in_ok-write_word.ensures.ok c.in_ok-write_column_name-2.ensures.ok) }
