use Rattle.std.proofs.Common.{◌≡◌}
use Rattle.tt_plain.specs.tally.Changes.{taken_away}
use Rattle.tt_model_effect.proofs.Steps.{part_mapped}
use Rattle.tt_model_effect.proofs.parts.take_away.Given as goal

abbrev pub invariant-loop-place : goal.invariant-loop-place
invariant-loop-place l = l.parts.items ≡ part_mapped (taken_away l.numbers) l.fn.parts.items l.place
