use Rattle.std.proofs.Common.{◌≡◌, map, take}
use Rattle.tt_catalog.specs.Landing.{number_as}
use Rattle.tt_catalog.proofs.landing.part_numbers.Given as goal

abbrev pub invariant-loop-part : goal.invariant-loop-part
invariant-loop-part l = l.numbers.items ≡ map number_as (take l.part-index l.parts)
