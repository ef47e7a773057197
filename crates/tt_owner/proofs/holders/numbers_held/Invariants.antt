use Rattle.std.proofs.Common.{◌≡◌, map, filter, take}
use Rattle.tt_sweep.specs.declared.claim.Claim.{Claim}
use Rattle.tt_owner.specs.AllHolders.{is_hold}
use Rattle.tt_owner.proofs.holders.numbers_held.Given as goal

abbrev pub invariant-loop-claim : goal.invariant-loop-claim
invariant-loop-claim l = l.numbers.items ≡ map (λ (claim : Claim). claim.part) (filter (λ (claim : Claim). is_hold l.hold claim.hold) (take l.claim-index l.claims))
