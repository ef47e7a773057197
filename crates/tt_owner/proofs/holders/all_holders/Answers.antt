use Rattle.std.proofs.Common.{◌==◌, ◌&&◌, List, length, ap, sym, ◌∙◌, arith}
use Rattle.std.specs.List.{list_any}
use Rattle.std.proofs.lemmas.List.{take_all}
use Rattle.std.proofs.lemmas.List.Sorted.{list_any-IsPermutation}
use Rattle.tt_layout.specs.declared.facts.TableFacts.{TableFacts}
use Rattle.tt_layout.specs.Holds.{is_held, hold_of}
use Rattle.tt_owner.specs.declared.holder.Holder.{Holder}
use Rattle.tt_owner.specs.Holders.{holder_at}
use Rattle.tt_owner.proofs.Lists.{any_more}
use Rattle.tt_owner.proofs.holders.all_holders.Goals as goal

pub loop-table-preserved : goal.loop-table-preserved
loop-table-preserved c = λ part test.
    any_more (λ (table : TableFacts). is_held (hold_of c.args.facts.now.at table part) && test (holder_at c.args.facts.now.at part table))
    _ c.args.facts.now.tables c.loop-table.table-index c.table-item.result _ _ c.items-table-items.ensures c.table-item.is c.loop-table-test.true
    (c.in_ok-push_holders.ensures part test) (c.loop-table.invariant part test)

pub returns-clause-holders : goal.returns-clause-holders
returns-clause-holders c = λ part test.
    sym (list_any-IsPermutation (λ (holder : Holder). (holder.part == part) && test holder) c.loop-table.holders.items c.sort_by_part.new.holders.items c.in_ok-sort_by_part.ensures.permutation)
    ∙ c.loop-table.invariant part test
    ∙ ap (λ (tables : List TableFacts). list_any (λ (table : TableFacts). is_held (hold_of c.args.facts.now.at table part) && test (holder_at c.args.facts.now.at part table)) tables)
    (take_all c.loop-table.table-index c.args.facts.now.tables (omega (arith, c.loop-table-test.false, ap length c.items-table-items.ensures)))
