use Rattle.std.proofs.Common.{◌≡◌, ◌-◌, ◌^◌, min, take}
use Rattle.tt_travel.specs.Travel.{product_of}
use Rattle.tt_travel.proofs.moments.seconds.Given as goal

abbrev pub invariant-loop-factor : goal.invariant-loop-factor
invariant-loop-factor l = l.product ≡ min (product_of (take l.factor-index l.factors)) (2 ^ 64 - 1)
