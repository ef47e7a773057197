use Rattle.tt_print.proofs.text.Spacing.{behind}
use Rattle.tt_print.proofs.moments.write_clause.Goals as goal

pub returns : goal.returns
returns c = record { ok = behind _ _ _ _ _ c.in_ok-write_side.ensures.ok (behind _ _ _ _ _ c.in_ok-write_word.ensures.ok (behind _ _ _ _ _ c.in_ok-write_moment.ensures.ok c.in_ok-write_word-2.ensures.ok)) }
