use Rattle.tt_bits.proofs.Places.{bits_none}
use Rattle.tt_bits.proofs.bits.Bits.with_room.Goals as goal

pub returns : goal.returns
returns c = bits_none c.in_ok-words.words.items
