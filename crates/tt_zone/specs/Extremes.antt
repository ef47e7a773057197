-- What the program keeps of a column on the way through its values: the least and the greatest by reference.
use Rattle.tt_zone.specs.declared.zone.Zone.{Zone}
use Rattle.tt_zone.specs.declared.building.Extremes.{Extremes}

-- the zone of what was seen
abbrev pub zone_seen : Extremes → Zone
zone_seen e = record { least = e.least.now; greatest = e.greatest.now; nulls = e.nulls; rows = e.rows }
