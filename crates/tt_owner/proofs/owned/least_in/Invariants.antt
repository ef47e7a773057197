use Rattle.std.proofs.Common.{◌≡◌, take}
use Rattle.tt_owner.specs.Holders.{least_holder}
use Rattle.tt_owner.proofs.owned.least_in.Given as goal

abbrev pub invariant-loop-holder : goal.invariant-loop-holder
invariant-loop-holder l = l.least ≡ least_holder (take l.holder-index l.run)
