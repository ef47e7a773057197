use Rattle.std.proofs.Common.{sym, ◌∙◌, ap, length}
use Rattle.tt_bits.proofs.Places.{length-bits_of}
use Rattle.tt_bits.proofs.bits.Bits.len.Goals as goal

pub returns : goal.returns
returns c = sym (length-bits_of c.self.inside.length c.self.inside.words.items) ∙ ap length c.self.view_is
