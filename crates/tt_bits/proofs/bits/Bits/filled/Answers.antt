use Rattle.std.proofs.Common.{ap, ◌∙◌}
use Rattle.std.proofs.lemmas.List.{with_items_is}
use Rattle.tt_bits.specs.Words.{is_set, bits_of}
use Rattle.tt_bits.proofs.Places.{bits_filled}
use Rattle.tt_bits.proofs.bits.Bits.filled.Goals as goal

pub returns : goal.returns
returns c =
    ap (bits_of c.args.length) (with_items_is c.in_ok-words.words c.clear_unused.new.words (c.clear_unused.auto.words ∙ c.deref_mut.ensures.len))
    ∙ bits_filled c.args.length c.clear_unused.new.words c.args.bit
    (λ place h. c.clear_unused.ensures.kept place h ∙ ap (λ ws. is_set ws place) c.deref_mut.ensures.value ∙ c.in_ok-words.ensures.bits place h)
