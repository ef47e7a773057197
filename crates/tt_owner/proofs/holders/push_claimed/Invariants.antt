use Rattle.std.proofs.Common.{◌≡◌, ◌++◌, map, take}
use Rattle.tt_sweep.specs.Claims.{claimed_numbers}
use Rattle.tt_owner.specs.AllHolders.{claimed_holder}
use Rattle.tt_owner.proofs.holders.push_claimed.Given as goal

abbrev pub invariant-loop-claim : goal.invariant-loop-claim
invariant-loop-claim l = l.holders.items ≡ l.fn.holders.items ++ map (claimed_holder l.sample l.active l.travel) (claimed_numbers (take l.claim-index l.claims))
