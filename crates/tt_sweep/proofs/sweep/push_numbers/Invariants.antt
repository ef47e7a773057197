use Rattle.std.proofs.Common.{◌≡◌, ◌++◌, take}
use Rattle.tt_sweep.specs.Claims.{claimed_numbers}
use Rattle.tt_sweep.proofs.sweep.push_numbers.Given as goal

abbrev pub invariant-loop-claim : goal.invariant-loop-claim
invariant-loop-claim l = l.named.items ≡ l.fn.named.items ++ claimed_numbers (take l.claim-index l.claims)
