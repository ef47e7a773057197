use Rattle.tt_zone.specs.Extremes.{zone_seen}
use Rattle.tt_zone.proofs.SeenZones.{IsSeenTo}
use Rattle.tt_zone.proofs.building.zone_of_column.Given as goal

abbrev pub invariant-loop-value : goal.invariant-loop-value
invariant-loop-value l = IsSeenTo l.values l.value-index (zone_seen l.seen)
