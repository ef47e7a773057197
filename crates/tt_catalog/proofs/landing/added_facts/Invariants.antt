use Rattle.std.proofs.Common.{◌≡◌, map, take}
use Rattle.tt_catalog.specs.Landing.{added_as}
use Rattle.tt_catalog.proofs.landing.added_facts.Given as goal

abbrev pub invariant-loop-part : goal.invariant-loop-part
invariant-loop-part l = l.added.items ≡ map added_as (take l.part-index l.parts)
