use Rattle.std.proofs.Common.{arith}
use Rattle.tt_state.proofs.Lookups.{has_get}
use Rattle.tt_state.proofs.lookup.share_parts.Goals as goal

pub share_part-requires : goal.share_part-requires
share_part-requires c = c.requires _ (has_get c.args.numbers.now c.loop-number.number-index _ (omega arith))
