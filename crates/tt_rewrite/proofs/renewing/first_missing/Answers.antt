use Rattle.std.proofs.Common.{◌∙◌, sym, arith}
use Rattle.tt_rewrite.proofs.FirstMissing.{first_at, none_at}
use Rattle.tt_rewrite.proofs.renewing.first_missing.Goals as goal

pub returns-then-is_missing_at : goal.returns-then-is_missing_at
returns-then-is_missing_at c =
    sym (first_at c.args.schema.now c.args.row.now c.loop-place.place (omega (arith, c.len-place-end.ensures)) c.loop-place.invariant (sym c.is_missing_at.ensures ∙ c.if-is_missing_at.true))

pub returns : goal.returns
returns c = sym (none_at c.args.schema.now c.args.row.now c.loop-place.place (omega (arith, c.len-place-end.ensures)) c.loop-place.invariant)
