use Rattle.std.proofs.Common.{◌<◌, ◌*◌, length, map, not, sym, ap, subst, ◌∙◌, arith}
use Rattle.std.proofs.lemmas.List.{with_items_is}
use Rattle.std.specs.Vec.{with_items}
use Rattle.tt_bits.specs.Words.{is_set, bits_of}
use Rattle.tt_bits.proofs.Places.{bits_turned}
use Rattle.tt_bits.proofs.bits.Bits.not.Goals as goal

pub returns : goal.returns
returns c =
    let n = c.self.inside.length in
    let xs = c.self.inside.words.items in
    let ys = c.not_words.new.words in
    let zs = c.clear_unused.new.words in
    let enough = c.self.invariant.size.enough in
    let turned = with_items_is c.self.inside.words ys (c.not_words.auto.words ∙ c.deref_mut.ensures.len) in
    ap (bits_of n) (with_items_is (with_items c.self.inside.words ys) zs (c.clear_unused.auto.words ∙ c.deref_mut-2.ensures.len))
    ∙ bits_turned n xs zs
    (λ place h.
    let within : place < 64 * length c.deref_mut.result.now = subst (λ ws. place < 64 * length ws) (sym c.deref_mut.ensures.value) (omega arith) in
    c.clear_unused.ensures.kept place h
    ∙ ap (λ ws. is_set ws place) (c.deref_mut-2.ensures.value ∙ turned)
    ∙ c.not_words.ensures place within
    ∙ ap (λ ws. not (is_set ws place)) c.deref_mut.ensures.value)
    ∙ ap (λ b. map not b) c.self.view_is
