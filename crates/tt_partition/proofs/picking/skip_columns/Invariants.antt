use Rattle.std.proofs.Common.{◌≡◌, ◌-◌}
use Rattle.tt_partition.specs.Picking.{past_columns}
use Rattle.tt_partition.proofs.picking.skip_columns.Given as goal

abbrev pub invariant-loop-turn : goal.invariant-loop-turn
invariant-loop-turn l = past_columns l.rows l.end (l.count - l._turn) l.rest ≡ past_columns l.rows l.end l.count l.bytes
