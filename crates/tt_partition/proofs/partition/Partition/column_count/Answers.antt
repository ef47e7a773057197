use Rattle.std.proofs.Common.{◌∙◌, length, ap}
use Rattle.tt_partition.proofs.PickingLaws.{zone_count}
use Rattle.tt_partition.proofs.partition.Partition.column_count.Goals as goal

pub returns : goal.returns
returns c = ap length c.zones.ensures ∙ zone_count c.args.self.now
