use Rattle.tt_zone.specs.Extremes.{zone_seen}
use Rattle.tt_zone.specs.Zones.{column_at}
use Rattle.tt_zone.proofs.SeenZones.{IsSeenTo}
use Rattle.tt_zone.proofs.building.zone_of_rows.Given as goal

abbrev pub invariant-loop-row : goal.invariant-loop-row
invariant-loop-row l = IsSeenTo (column_at l.at l.rows) l.row-index (zone_seen l.seen)
