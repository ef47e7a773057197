use Rattle.std.proofs.Common.{◌≡◌, ◌==◌, ◌||◌, Bool, true, false, List, length, refl, ap, sym, ◌∙◌, arith}
use Rattle.std.specs.List.{list_any}
use Rattle.std.proofs.lemmas.List.{take_all}
use Rattle.std.proofs.lemmas.List.Sorted.{list_any-IsPermutation, IsNonDecreasingBy-from_sort}
use Rattle.tt_layout.specs.declared.facts.TableFacts.{TableFacts}
use Rattle.tt_layout.specs.Holds.{is_held, hold_of}
use Rattle.tt_layout.specs.Numbers.{has}
use Rattle.tt_sweep.proofs.sweep.named_numbers.Goals as goal

turned : (a b : Bool) → (a || b) ≡ (b || a)
turned true true = refl
turned true false = refl
turned false true = refl
turned false false = refl

pub returns-clause-numbers : goal.returns-clause-numbers
returns-clause-numbers c = λ part.
    sym (list_any-IsPermutation (λ n. n == part) c.loop-table.named.items c.sort_unstable.new.self.items c.sort_unstable.ensures.permutation)
    ∙ c.loop-table.invariant part
    ∙ ap (λ (tables : List TableFacts). has c.args.facts.now.pins part || list_any (λ (table : TableFacts). is_held (hold_of c.args.facts.now.at table part)) tables)
    (take_all c.loop-table.table-index c.args.facts.now.tables (omega (arith, c.loop-table-test.false, ap length c.items-table-items.ensures)))
    ∙ turned (has c.args.facts.now.pins part) (list_any (λ (table : TableFacts). is_held (hold_of c.args.facts.now.at table part)) c.args.facts.now.tables)

pub returns-clause-order : goal.returns-clause-order
returns-clause-order c = λ i j d h k. IsNonDecreasingBy-from_sort (λ n. n) c.sort_unstable.new.self.items c.sort_unstable.ensures.sorted i j d h k
