use Rattle.std.proofs.Common.{◌≡◌, map, filter, take}
use Rattle.tt_layout.specs.declared.facts.TableFacts.{TableFacts}
use Rattle.tt_layout.specs.Holds.{stands}
use Rattle.tt_owner.proofs.owned.standing_numbers.Given as goal

abbrev pub invariant-loop-table : goal.invariant-loop-table
invariant-loop-table l = l.numbers.items ≡ map (λ (table : TableFacts). table.number) (filter (stands l.facts.at) (take l.table-index l.facts.tables))
