use Rattle.std.proofs.Common.{◌≡◌, map, take}
use Rattle.tt_owner.specs.Owned.{owned_of}
use Rattle.tt_owner.proofs.owned.owned_in_turn.Given as goal

abbrev pub invariant-loop-part : goal.invariant-loop-part
invariant-loop-part l = l.owned.items ≡ map (owned_of l.facts) (take l.part-index l.facts.parts)
