use Rattle.std.proofs.Common.{◌≡◌, take}
use Rattle.tt_owner.specs.Holders.{seen_of}
use Rattle.tt_owner.proofs.owned.class_in.Given as goal

abbrev pub invariant-loop-holder : goal.invariant-loop-holder
invariant-loop-holder l = l.seen ≡ seen_of l.owner (take l.holder-index l.run)
