use Rattle.std.proofs.Common.{ap, ◌∙◌, ◌++◌, ◌∷◌, [], cond, nat_eq}
use Rattle.std.proofs.lemmas.List.{with_items_is}
use Rattle.tt_bits.specs.Words.{is_set, bits_of}
use Rattle.tt_bits.proofs.Places.{bits_pushed}
use Rattle.tt_bits.proofs.bits.Bits.push.Goals as goal

pub returns-clause-ok : goal.returns-clause-ok
returns-clause-ok c =
    let n = c.self.inside.length in
    let ws = c.self.inside.words.items in
    let zs = c.put_bit.new.words in
    ap (bits_of c.in-Some.length) (with_items_is c.make_room.new.words zs (c.put_bit.auto.words ∙ c.deref_mut.ensures.len))
    ∙ ap (λ m. bits_of m zs) c.in-Some.ensures.1
    ∙ bits_pushed n ws zs c.args.bit
    (λ place. c.put_bit.ensures place
    ∙ ap (cond (nat_eq place n) c.args.bit) (ap (λ w. is_set w place) c.deref_mut.ensures.value ∙ c.make_room.ensures.kept place))
    ∙ ap (λ b. b ++ c.args.bit ∷ []) c.self.view_is
