use Rattle.std.proofs.Common.{◌≡◌, ◌==◌, ◌&&◌, false, take}
use Rattle.std.specs.List.{list_any}
use Rattle.tt_layout.specs.declared.facts.TableFacts.{TableFacts}
use Rattle.tt_layout.specs.Holds.{stands}
use Rattle.tt_owner.proofs.owner.does_stand.Given as goal

abbrev pub invariant-loop-table : goal.invariant-loop-table
invariant-loop-table l = list_any (λ (table : TableFacts). (table.number == l.number) && stands l.facts.at table) (take l.table-index l.facts.tables) ≡ false
