use Rattle.std.proofs.Common.{arith, ◌∙◌, sym, inl, inr}
use Rattle.tt_value.specs.columns.Packing.{joined}
use Rattle.tt_value.proofs.columns.Packing.{unpack_turn, unpack_left, unpack_more, unpack_fits, zero_tested, above_zero_tested}
use Rattle.tt_value.proofs.packing.unpack.Goals as goal

pub loop-turn-preserved : goal.loop-turn-preserved
loop-turn-preserved c = record {
  few = c.take_number-number.ensures.few;
  fits = c.take_number-number.ensures.fits;
  so_far = unpack_turn c.args.width c.loop-turn._turn c.args.count _ _ c.take_number-number.result.0 c.loop-turn.numbers.items _ _ c.loop-turn-test.true c.take_number-number.ensures.value c.take_number-number.ensures.left c.in_ok-push.ensures.items c.loop-turn.invariant.so_far;
  left = unpack_left c.args.width c.loop-turn._turn (joined 8 c.args.bytes.now) _ _ c.take_number-number.ensures.left c.loop-turn.invariant.left;
}

pub returns-then-pending-ne0 : goal.returns-then-pending-ne0
returns-then-pending-ne0 c = unpack_more c.args.width c.loop-turn.bits c.loop-turn.pending (joined 8 c.loop-turn.rest.now) c.args.count c.loop-turn._turn (joined 8 c.args.bytes.now) (omega arith) (omega arith) c.loop-turn.invariant.left (inl (omega arith))

pub returns-then-not-is_zero : goal.returns-then-not-is_zero
returns-then-not-is_zero c = unpack_more c.args.width c.loop-turn.bits c.loop-turn.pending (joined 8 c.loop-turn.rest.now) c.args.count c.loop-turn._turn (joined 8 c.args.bytes.now) (omega arith) (omega arith) c.loop-turn.invariant.left (inr (above_zero_tested c.loop-turn.rest.now (sym c.is_zero.ensures ∙ c.if-not-is_zero.true)))

pub returns : goal.returns
returns c = unpack_fits c.args.width c.loop-turn.bits c.loop-turn.pending (joined 8 c.loop-turn.rest.now) c.args.count c.loop-turn._turn (joined 8 c.args.bytes.now) _ _ (omega arith) (omega arith) (omega arith) (zero_tested c.loop-turn.rest.now (sym c.is_zero.ensures ∙ c.if-not-is_zero.false)) c.loop-turn.invariant.so_far c.loop-turn.invariant.left
