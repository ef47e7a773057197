use Rattle.std.proofs.Common.{◌≡◌, ◌++◌, map}
use Rattle.tt_seatlock.specs.Passes.{known, IsPassOf}
use Rattle.tt_seatlock.proofs.tests.gather.Given as goal

abbrev pub invariant-loop-pass : goal.invariant-loop-pass
invariant-loop-pass l =
    IsPassOf l.lock l.into × ((known l.into).number ≡ 0) × ((known l.into).made ≡ (known l.initial.into).made)
    × ((known l.into).kept ≡ (known l.initial.into).kept ++ map (λ p. ((known p).number, (known p).own)) l.yielded)
