use Rattle.std.proofs.Common.{◌≡◌, true, false, ltb, ltb-true, ltb-false, rules}
use Rattle.std.specs.List.Sorted.{IsPartitionPoint}
use Rattle.std.proofs.lemmas.List.Sorted.{IsPartitionPoint-from_clause, IsPartitionedBy-ltb}
use Rattle.tt_owner.specs.declared.holder.Holder.{Holder}
use Rattle.tt_owner.proofs.holders.first_of.Goals as goal

point : (c : goal.After-partition_point)
    → IsPartitionPoint (λ (h : Holder). ltb h.part c.args.part ≡ true) (λ (h : Holder). ltb h.part c.args.part ≡ false) c.args.holders.now c.partition_point.result
point c =
    IsPartitionPoint-from_clause (λ (h : Holder). ltb h.part c.args.part) _ _ c.partition_point.ensures.partitioned
    (IsPartitionedBy-ltb (λ (h : Holder). h.part) c.args.holders.now c.args.part c.requires)
    (λ a r q k. search rules)

pub returns-clause-below : goal.returns-clause-below
returns-clause-below c = λ k d low high. ltb-true _ _ ((point c).0 k d low high)

pub returns-clause-later : goal.returns-clause-later
returns-clause-later c = λ k d low high. ltb-false _ _ ((point c).1 k d low high)
