use Rattle.std.proofs.Common.{arith}
use Rattle.tt_zone.specs.Extremes.{zone_seen}
use Rattle.tt_zone.specs.Zones.{column_at}
use Rattle.tt_zone.proofs.SeenZones.{seen_start, seen_more, column_length, column_item}
use Rattle.tt_zone.proofs.building.zone_of_rows.Goals as goal

pub loop-row-init : goal.loop-row-init
loop-row-init c = seen_start (column_at c.args.at c.args.rows.now)

pub loop-row-preserved : goal.loop-row-preserved
loop-row-preserved c =
    let item = column_item c.args.at c.args.rows.now c.loop-row.row-index c.row-item.result c.value_at.result.now (omega arith) c.row-item.is c.value_at.ensures in
    seen_more (column_at c.args.at c.args.rows.now) c.loop-row.row-index (zone_seen c.loop-row.seen) (zone_seen c.with_value-seen.result) c.value_at.result.now c.loop-row.invariant (omega (arith, column_length c.args.at c.args.rows.now)) item c.with_value-seen.ensures.value c.with_value-seen.ensures.nulls
