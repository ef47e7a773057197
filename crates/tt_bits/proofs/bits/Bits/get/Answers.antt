use Rattle.std.proofs.Common.{◌<◌, ◌≤◌, Some, slice_get, length, ap, sym, ◌∙◌, arith, false}
use Rattle.std.proofs.lemmas.Option.{slice_get_past, slice_get-get_or}
use Rattle.tt_bits.specs.Words.{is_set, bits_of}
use Rattle.tt_bits.proofs.Places.{length-bits_of, get_or-bits_of}
use Rattle.tt_bits.proofs.bits.Bits.get.Goals as goal

pub returns-then-place-self : goal.returns-then-place-self
returns-then-place-self c =
    let bits = bits_of c.self.inside.length c.self.inside.words.items in
    let past : length bits ≤ c.args.place = omega (arith, length-bits_of c.self.inside.length c.self.inside.words.items) in
    sym (ap (λ b. slice_get b c.args.place) (sym c.self.view_is) ∙ slice_get_past bits c.args.place past)

pub returns : goal.returns
returns c =
    let n = c.self.inside.length in
    let ws = c.self.inside.words.items in
    let below : c.args.place < n = omega arith in
    let within : c.args.place < length (bits_of n ws) = omega (arith, length-bits_of n ws) in
    ap (λ b. Some b) (c.is_set.ensures ∙ ap (λ w. is_set w c.args.place) c.deref.ensures.value ∙ sym (get_or-bits_of n ws c.args.place below))
    ∙ sym (ap (λ b. slice_get b c.args.place) (sym c.self.view_is) ∙ slice_get-get_or (bits_of n ws) c.args.place false within)
