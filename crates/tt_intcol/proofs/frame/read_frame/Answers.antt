use Rattle.tt_intcol.proofs.FrameLaws.{frame_wide}
use Rattle.tt_intcol.proofs.frame.read_frame.Goals as goal

pub returns-then-width-gt64 : goal.returns-then-width-gt64
returns-then-width-gt64 c = rw c.too_wide.ensures (frame_wide c.args.kind c.args.end c.args.count c.args.bytes.now c.in_ok-low.low c.in_ok-low.rest.now c.in_ok-width.width c.in_ok-width.rest.now c.in_ok-low.ensures c.in_ok-width.ensures c.if-width-gt64.true)
