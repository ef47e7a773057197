-- How regimes are kept: each beside the greatest limit that those before it leave once it has begun.
use Rattle.std.specs.Prelude.{◌≡◌, List, [], ◌∷◌, map, ℤ, pos, ◌-ℤ◌, ⊤}
use Rattle.std.specs.Int.{int_max}
use Rattle.tt_retain.specs.declared.regime.Regime.{Regime}
use Rattle.tt_retain.specs.declared.regimes.Step.{Step}
use Rattle.tt_retain.specs.Horizon.{retention_of}

abbrev pub regimes_in : List Step → List Regime
regimes_in steps = map (λ s. s.regime) steps

-- each step has the greatest limit of those before it, the first one the number that is given
abbrev pub HaveFloors : ℤ → List Step → Type 0
HaveFloors floor [] = ⊤
HaveFloors floor (step ∷ []) = step.floor ≡ floor
HaveFloors floor (step ∷ next ∷ steps) = (step.floor ≡ floor)
    × HaveFloors (int_max floor (pos next.regime.begun -ℤ pos (retention_of step.regime))) (next ∷ steps)

-- the floor of the first step: 90 days before it begins, which is above none of its limits
abbrev pub HaveRightFloors : List Step → Type 0
HaveRightFloors [] = ⊥
HaveRightFloors (step ∷ steps) = HaveFloors (pos step.regime.begun -ℤ pos 7776000000) (step ∷ steps)
