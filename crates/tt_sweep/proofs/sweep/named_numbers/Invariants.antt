use Rattle.std.proofs.Common.{◌≡◌, ℕ, ◌||◌, take}
use Rattle.std.specs.List.{list_any}
use Rattle.tt_layout.specs.declared.facts.TableFacts.{TableFacts}
use Rattle.tt_layout.specs.Holds.{is_held, hold_of}
use Rattle.tt_layout.specs.Numbers.{has}
use Rattle.tt_sweep.proofs.sweep.named_numbers.Given as goal

abbrev pub invariant-loop-table : goal.invariant-loop-table
invariant-loop-table l = (part : ℕ) → has l.named.items part
    ≡ (has l.facts.pins part || list_any (λ (table : TableFacts). is_held (hold_of l.facts.at table part)) (take l.table-index l.facts.tables))
