use Rattle.std.proofs.Common.{◌≡◌, map, take}
use Rattle.tt_owner.specs.Holders.{holder_at, seen_of}
use Rattle.tt_owner.proofs.owner.class_under.Given as goal

abbrev pub invariant-loop-table : goal.invariant-loop-table
invariant-loop-table l = l.seen ≡ seen_of l.owner (map (holder_at l.facts.at l.part.number) (take l.table-index l.facts.tables))
