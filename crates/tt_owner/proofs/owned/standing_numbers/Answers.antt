use Rattle.std.proofs.Common.{ℕ, ◌==◌, List, length, map, filter, ap, sym, ◌∙◌, arith}
use Rattle.std.proofs.lemmas.List.{take_all}
use Rattle.std.proofs.lemmas.List.Sorted.{list_any-IsPermutation, IsNonDecreasingBy-from_sort}
use Rattle.tt_layout.specs.declared.facts.TableFacts.{TableFacts}
use Rattle.tt_layout.specs.Numbers.{has}
use Rattle.tt_layout.specs.Holds.{stands}
use Rattle.tt_owner.proofs.Parting.{standing_is}
use Rattle.tt_owner.proofs.owned.standing_numbers.Goals as goal

pub returns-clause-numbers : goal.returns-clause-numbers
returns-clause-numbers c = λ number.
    sym (list_any-IsPermutation (λ n. n == number) c.loop-table.numbers.items c.sort_unstable.new.self.items c.sort_unstable.ensures.permutation)
    ∙ ap (λ (ns : List ℕ). has ns number) (c.loop-table.invariant
    ∙ ap (λ (tables : List TableFacts). map (λ (table : TableFacts). table.number) (filter (stands c.args.facts.now.at) tables))
    (take_all c.loop-table.table-index c.args.facts.now.tables (omega (arith, c.loop-table-test.false, ap length c.items-table-items.ensures))))
    ∙ standing_is c.args.facts.now number

pub returns-clause-order : goal.returns-clause-order
returns-clause-order c = λ i j d h k. IsNonDecreasingBy-from_sort (λ n. n) c.sort_unstable.new.self.items c.sort_unstable.ensures.sorted i j d h k
