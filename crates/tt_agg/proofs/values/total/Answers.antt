use Rattle.std.proofs.Common.{arith}
use Rattle.std.proofs.lemmas.Int.{ints}
use Rattle.tt_agg.proofs.Left.{sum_goes_on}
use Rattle.tt_agg.proofs.values.total.Goals as goal

pub loop-value-preserved : goal.loop-value-preserved
loop-value-preserved c = record {
  whole = sum_goes_on _ _ _ c.args.others.now c.loop-value.value-index c.value-item.result (omega arith) c.value-item.is (omega (arith, ints, c.number-in-loop-value.ensures, c.from-sum-in-loop-value.ensures)) c.loop-value.invariant.whole;
  low = omega (arith, ints, c.number-in-loop-value.ensures, c.from-sum-in-loop-value.ensures);
  high = omega (arith, ints, c.number-in-loop-value.ensures, c.from-sum-in-loop-value.ensures);
}
