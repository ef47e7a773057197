use Rattle.std.proofs.Common.{◌<◌, length, arith, refl, bit_and}
use Rattle.tt_bits.proofs.Sweeps.{IsSwept-none, IsSwept-more}
use Rattle.tt_bits.proofs.Places.{and_places}
use Rattle.tt_bits.proofs.words.and_words.Goals as goal

pub loop-place-init : goal.loop-place-init
loop-place-init c = IsSwept-none bit_and _ _

pub loop-place-preserved : goal.loop-place-preserved
loop-place-preserved c =
    let within : c.loop-place.place < length c.loop-place.words = omega arith in
    IsSwept-more bit_and _ _ _ _ _ c.loop-place.invariant within refl

pub returns : goal.returns
returns c =
    let h = c.loop-place.invariant in
    and_places c.args.words.now c.args.others.now c.loop-place.words c.requires h.long (λ k b. h.done k (omega arith))
