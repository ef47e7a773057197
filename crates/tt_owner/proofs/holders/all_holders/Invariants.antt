use Rattle.std.proofs.Common.{◌≡◌, ℕ, Bool, ◌==◌, ◌&&◌, take}
use Rattle.std.specs.List.{list_any}
use Rattle.tt_layout.specs.declared.facts.TableFacts.{TableFacts}
use Rattle.tt_layout.specs.Holds.{is_held, hold_of}
use Rattle.tt_owner.specs.declared.holder.Holder.{Holder}
use Rattle.tt_owner.specs.Holders.{holder_at}
use Rattle.tt_owner.proofs.holders.all_holders.Given as goal

abbrev pub invariant-loop-table : goal.invariant-loop-table
invariant-loop-table l = (part : ℕ) (test : Holder → Bool) → list_any (λ (holder : Holder). (holder.part == part) && test holder) l.holders.items
    ≡ list_any (λ (table : TableFacts). is_held (hold_of l.facts.at table part) && test (holder_at l.facts.at part table)) (take l.table-index l.facts.tables)
