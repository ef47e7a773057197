use Rattle.std.proofs.Common.{ap, ◌∙◌, set, arith}
use Rattle.tt_plain.specs.tally.Changes.{taken_away}
use Rattle.tt_model_effect.proofs.Steps.{mapped_next}
use Rattle.tt_model_effect.proofs.parts.take_away.Goals as goal

pub loop-place-preserved : goal.loop-place-preserved
loop-place-preserved c =
    ap (set c.loop-place.parts.items c.loop-place.place) (c.without.ensures ∙ ap (taken_away c.args.numbers.now) c.index.ensures)
    ∙ mapped_next (taken_away c.args.numbers.now) c.args.parts.now.items c.loop-place.parts.items c.loop-place.place c.index.result.now (omega (arith, c.args.parts.now.ok.0)) c.loop-place.invariant
