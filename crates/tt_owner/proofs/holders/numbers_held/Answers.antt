use Rattle.std.proofs.Common.{ℕ, ◌==◌, List, map, filter, ap, sym, ◌∙◌, arith}
use Rattle.std.proofs.lemmas.List.{take_all}
use Rattle.std.proofs.lemmas.List.Sorted.{list_any-IsPermutation, IsNonDecreasingBy-from_sort}
use Rattle.tt_layout.specs.Numbers.{has}
use Rattle.tt_sweep.specs.declared.claim.Claim.{Claim}
use Rattle.tt_owner.specs.AllHolders.{is_hold}
use Rattle.tt_owner.proofs.Gathering.{claimed_so}
use Rattle.tt_owner.proofs.holders.numbers_held.Goals as goal

pub returns-clause-numbers : goal.returns-clause-numbers
returns-clause-numbers c = λ part.
    sym (list_any-IsPermutation (λ n. n == part) c.loop-claim.numbers.items c.sort_unstable.new.self.items c.sort_unstable.ensures.permutation)
    ∙ ap (λ (ns : List ℕ). has ns part) (c.loop-claim.invariant
    ∙ ap (λ (claims : List Claim). map (λ (claim : Claim). claim.part) (filter (λ (claim : Claim). is_hold c.args.hold claim.hold) claims))
    (take_all c.loop-claim.claim-index c.args.claims.now (omega (arith, c.loop-claim-test.false))))
    ∙ claimed_so (is_hold c.args.hold) c.args.claims.now part

pub returns-clause-order : goal.returns-clause-order
returns-clause-order c = λ i j d h k. IsNonDecreasingBy-from_sort (λ n. n) c.sort_unstable.new.self.items c.sort_unstable.ensures.sorted i j d h k
