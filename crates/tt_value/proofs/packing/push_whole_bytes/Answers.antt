use Rattle.std.proofs.Common.{arith}
use Rattle.tt_value.proofs.columns.Packing.{byte_out, byte_out_below, row_more}
use Rattle.tt_value.proofs.packing.push_whole_bytes.Goals as goal

pub loop-left-preserved : goal.loop-left-preserved
loop-left-preserved c = record {
  few = omega arith;
  fits = byte_out_below c.loop-left.left c.loop-left.waiting c.loop-left-test.true c.loop-left.invariant.fits;
  row = λ more count. row_more _ _ _ _ _ _ c.in_ok-push.ensures.items (byte_out c.loop-left.left count c.loop-left.waiting more c.loop-left-test.true) (c.loop-left.invariant.row more count);
}
