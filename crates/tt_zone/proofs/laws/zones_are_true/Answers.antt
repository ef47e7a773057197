use Rattle.tt_zone.proofs.TrueZones.{zone_is}
use Rattle.tt_zone.proofs.laws.zones_are_true.Goals as goal

pub returns : goal.returns
returns c = zone_is
