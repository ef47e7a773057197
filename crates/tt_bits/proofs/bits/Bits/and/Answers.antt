use Rattle.std.proofs.Common.{length, sym, ap, ◌∙◌, ◌&&◌}
use Rattle.std.proofs.lemmas.List.{with_items_is}
use Rattle.tt_bits.specs.Words.{is_set, bits_of}
use Rattle.tt_bits.specs.Bits.{both}
use Rattle.tt_bits.proofs.Places.{same_size_seen, bits_both}
use Rattle.tt_bits.proofs.bits.Bits.and.Goals as goal

pub and_words-requires : goal.and_words-requires
and_words-requires c =
    let same = same_size_seen _ _ _ _ _ _ c.self.invariant c.other.invariant c.self.view_is c.other.view_is c.requires in
    ap length c.deref.ensures.value ∙ same.1 ∙ sym (ap length c.deref_mut.ensures.value)

pub returns : goal.returns
returns c =
    let n = c.self.inside.length in
    let xs = c.self.inside.words.items in
    let ys = c.other.inside.words.items in
    let zs = c.and_words.new.words in
    let same = same_size_seen _ _ _ _ _ _ c.self.invariant c.other.invariant c.self.view_is c.other.view_is c.requires in
    ap (bits_of n) (with_items_is c.self.inside.words zs (c.and_words.auto.words ∙ c.deref_mut.ensures.len))
    ∙ bits_both n xs ys zs
    (λ place. c.and_words.ensures place ∙ ap (λ ws. is_set ws place && is_set c.deref.result.now place) c.deref_mut.ensures.value
    ∙ ap (λ ws. is_set xs place && is_set ws place) c.deref.ensures.value)
    ∙ ap (λ b. both b (bits_of n ys)) c.self.view_is
    ∙ ap (λ m. both c.args.self.now (bits_of m ys)) same.0
    ∙ ap (λ b. both c.args.self.now b) c.other.view_is
