use Rattle.std.proofs.Common.{◌≡◌, map, take}
use Rattle.tt_owner.specs.Holders.{holder_at, least_holder}
use Rattle.tt_owner.proofs.owner.least_of.Given as goal

abbrev pub invariant-loop-table : goal.invariant-loop-table
invariant-loop-table l = l.least ≡ least_holder (map (holder_at l.facts.at l.number) (take l.table-index l.facts.tables))
