use Rattle.std.proofs.Common.{refl}
use Rattle.tt_intcol.proofs.Lengths.{length-frame}
use Rattle.tt_intcol.proofs.choice.frame_length.Goals as goal

pub returns : goal.returns
returns c = rw (c.value_size.ensures, c.heights_length.ensures.value, length-frame c.args.kind c.args.values.now) refl
