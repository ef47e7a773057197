use Rattle.tt_print.proofs.text.Spacing.{behind}
use Rattle.tt_print.proofs.queries.write_join.Goals as goal

pub returns : goal.returns
returns c = record { ok = rw (← c.as_slice.ensures) (behind _ _ _ _ _ c.in_ok-write_word.ensures.ok (behind _ _ _ _ _ c.in_ok-write_source.ensures.ok (behind _ _ _ _ _ c.in_ok-write_word-2.ensures.ok c.in_ok-write_pairs.ensures.ok))) }
