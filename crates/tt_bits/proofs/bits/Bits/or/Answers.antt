use Rattle.std.proofs.Common.{◌≤◌, length, sym, ap, subst, ◌∙◌, ◌||◌}
use Rattle.std.proofs.lemmas.Bool.{or_from}
use Rattle.std.proofs.lemmas.List.{with_items_is}
use Rattle.tt_bits.specs.Words.{is_set, bits_of, Keeps}
use Rattle.tt_bits.specs.Bits.{either}
use Rattle.tt_bits.proofs.Places.{same_size_seen, Keeps-same_size, bits_either}
use Rattle.tt_bits.proofs.bits.Bits.or.Goals as goal

pub or_words-requires : goal.or_words-requires
or_words-requires c =
    let same = same_size_seen _ _ _ _ _ _ c.self.invariant c.other.invariant c.self.view_is c.other.view_is c.requires in
    ap length c.deref.ensures.value ∙ same.1 ∙ sym (ap length c.deref_mut.ensures.value)

pub invariant_of-self : goal.invariant_of-self
invariant_of-self c =
    let n = c.self.inside.length in
    let xs = c.self.inside.words.items in
    let zs = c.or_words.new.words in
    let same = same_size_seen _ _ _ _ _ _ c.self.invariant c.other.invariant c.self.view_is c.other.view_is c.requires in
    let long = c.or_words.auto.words ∙ c.deref_mut.ensures.len in
    subst (λ ws. Keeps n ws) (sym (with_items_is c.self.inside.words zs long))
    (Keeps-same_size n xs zs c.self.invariant (c.or_words.auto.words ∙ ap length c.deref_mut.ensures.value)
    (λ place h. c.or_words.ensures place
    ∙ or_from _ _ (ap (λ ws. is_set ws place) c.deref_mut.ensures.value ∙ c.self.invariant.unused place h)
    (ap (λ ws. is_set ws place) c.deref.ensures.value ∙ c.other.invariant.unused place (subst (λ m. m ≤ place) same.0 h))))

pub returns : goal.returns
returns c =
    let n = c.self.inside.length in
    let xs = c.self.inside.words.items in
    let ys = c.other.inside.words.items in
    let zs = c.or_words.new.words in
    let same = same_size_seen _ _ _ _ _ _ c.self.invariant c.other.invariant c.self.view_is c.other.view_is c.requires in
    ap (bits_of n) (with_items_is c.self.inside.words zs (c.or_words.auto.words ∙ c.deref_mut.ensures.len))
    ∙ bits_either n xs ys zs
    (λ place. c.or_words.ensures place ∙ ap (λ ws. is_set ws place || is_set c.deref.result.now place) c.deref_mut.ensures.value
    ∙ ap (λ ws. is_set xs place || is_set ws place) c.deref.ensures.value)
    ∙ ap (λ b. either b (bits_of n ys)) c.self.view_is
    ∙ ap (λ m. either c.args.self.now (bits_of m ys)) same.0
    ∙ ap (λ b. either c.args.self.now b) c.other.view_is
