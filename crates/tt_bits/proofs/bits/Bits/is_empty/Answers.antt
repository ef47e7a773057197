use Rattle.tt_bits.proofs.Places.{bits_empty}
use Rattle.tt_bits.proofs.bits.Bits.is_empty.Goals as goal

pub returns : goal.returns
returns c = bits_empty c.self.inside.length c.self.inside.words.items _ c.self.view_is
