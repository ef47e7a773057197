use Rattle.std.proofs.Common.{◌<◌, length, arith, refl, []}
use Rattle.std.specs.Int.{bit_not, w64}
use Rattle.tt_bits.proofs.Sweeps.{IsSwept-none, IsSwept-more}
use Rattle.tt_bits.proofs.Places.{not_places}
use Rattle.tt_bits.proofs.words.not_words.Goals as goal

pub loop-word-init : goal.loop-word-init
loop-word-init c = (IsSwept-none (λ word _. bit_not w64 word) _ [], λ k h. let fit = c.type_inv.words k in fit.fits)

pub loop-word-preserved : goal.loop-word-preserved
loop-word-preserved c =
    let within : c.loop-word.word-index < length c.loop-word.words = omega arith in
    (IsSwept-more (λ word _. bit_not w64 word) _ _ _ _ _ c.loop-word.invariant.0 within refl, c.loop-word.invariant.1)

pub returns : goal.returns
returns c =
    let swept = c.loop-word.invariant.0 in
    not_places c.args.words.now c.loop-word.words c.loop-word.invariant.1 (λ k b. swept.done k (omega arith))
