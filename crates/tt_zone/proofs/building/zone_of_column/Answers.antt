use Rattle.tt_zone.proofs.SeenZones.{seen_start}
use Rattle.tt_zone.proofs.building.zone_of_column.Goals as goal

pub loop-value-init : goal.loop-value-init
loop-value-init c = seen_start c.args.values.now
