use Rattle.std.proofs.Common.{◌≡◌, map}
use Rattle.std.specs.List.{range_with_len}
use Rattle.tt_zone.specs.Zones.{zone_of, column_at}
use Rattle.tt_partition.proofs.rows.zones_of.Given as goal

abbrev pub invariant-loop-at : goal.invariant-loop-at
invariant-loop-at l = l.zones.items ≡ map (λ k. zone_of (column_at k l.rows)) (range_with_len 0 l.at)
