use Rattle.std.proofs.Common.{◌≡◌, ◌++◌, take}
use Rattle.tt_sweep.specs.Claims.{claims_with}
use Rattle.tt_sweep.proofs.claims.claim_all.Given as goal

abbrev pub invariant-loop-number : goal.invariant-loop-number
invariant-loop-number l = l.claims.items ≡ l.fn.claims.items ++ claims_with l.hold (take l.number-index l.numbers)
