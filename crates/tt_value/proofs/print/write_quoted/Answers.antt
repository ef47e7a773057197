use Rattle.tt_value.proofs.values.RowText.{OnErr-extends}
use Rattle.tt_value.proofs.print.write_quoted.Goals as goal

pub returns-in_err-extend_from_slice-clause-err : goal.returns-in_err-extend_from_slice-clause-err
returns-in_err-extend_from_slice-clause-err c =
    OnErr-extends _ _ _ _ _ _ _ c.in_ok-push.ensures.items c.loop-byte.invariant c.in_err-extend_from_slice.ensures.items

pub returns-in_err-push-2-clause-err : goal.returns-in_err-push-2-clause-err
returns-in_err-push-2-clause-err c =
    OnErr-extends _ _ _ _ _ _ _ c.in_ok-push.ensures.items c.loop-byte.invariant c.in_err-push-2.ensures.items
