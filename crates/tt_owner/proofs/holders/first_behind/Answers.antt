use Rattle.std.proofs.Common.{◌≡◌, true, false, leb, leb-true, leb-false, rules}
use Rattle.std.specs.List.Sorted.{IsPartitionPoint}
use Rattle.std.proofs.lemmas.List.Sorted.{IsPartitionPoint-from_clause, IsPartitionedBy-leb}
use Rattle.tt_owner.specs.declared.holder.Holder.{Holder}
use Rattle.tt_owner.proofs.holders.first_behind.Goals as goal

point : (c : goal.After-partition_point)
    → IsPartitionPoint (λ (h : Holder). leb h.part c.args.part ≡ true) (λ (h : Holder). leb h.part c.args.part ≡ false) c.args.holders.now c.partition_point.result
point c =
    IsPartitionPoint-from_clause (λ (h : Holder). leb h.part c.args.part) _ _ c.partition_point.ensures.partitioned
    (IsPartitionedBy-leb (λ (h : Holder). h.part) c.args.holders.now c.args.part c.requires)
    (λ a r q k. search rules)

pub returns-clause-up_to : goal.returns-clause-up_to
returns-clause-up_to c = λ k d low high. leb-true _ _ ((point c).0 k d low high)

pub returns-clause-above : goal.returns-clause-above
returns-clause-above c = λ k d low high. leb-false _ _ ((point c).1 k d low high)
