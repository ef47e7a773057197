use Rattle.std.proofs.Common.{◌≡◌, ◌*◌, map, drop}
use Rattle.std.specs.List.{range_with_len}
use Rattle.tt_partition.specs.Cuts.{kinds_of, cut_at}
use Rattle.tt_partition.proofs.partition.Partition.build.Given as goal

abbrev pub invariant-loop-turn : goal.invariant-loop-turn
invariant-loop-turn l = (l.parts.items ≡ map (cut_at (kinds_of l.schema) l.cap l.rows) (range_with_len 0 l._turn)) × (l.rest ≡ drop (l._turn * l.cap) l.rows)
