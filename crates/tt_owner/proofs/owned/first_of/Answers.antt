use Rattle.std.proofs.Common.{◌≡◌, true, false, ltb, ltb-true, ltb-false, rules}
use Rattle.std.specs.List.Sorted.{IsPartitionPoint}
use Rattle.std.proofs.lemmas.List.Sorted.{IsPartitionPoint-from_clause, IsPartitionedBy-ltb}
use Rattle.tt_owner.specs.declared.owned.Owned.{Owned}
use Rattle.tt_owner.proofs.owned.first_of.Goals as goal

point : (c : goal.After-partition_point)
    → IsPartitionPoint (λ (h : Owned). ltb h.owner c.args.owner ≡ true) (λ (h : Owned). ltb h.owner c.args.owner ≡ false) c.args.owned.now c.partition_point.result
point c =
    IsPartitionPoint-from_clause (λ (h : Owned). ltb h.owner c.args.owner) _ _ c.partition_point.ensures.partitioned
    (IsPartitionedBy-ltb (λ (h : Owned). h.owner) c.args.owned.now c.args.owner c.requires)
    (λ a r q k. search rules)

pub returns-clause-below : goal.returns-clause-below
returns-clause-below c = λ k d low high. ltb-true _ _ ((point c).0 k d low high)

pub returns-clause-later : goal.returns-clause-later
returns-clause-later c = λ k d low high. ltb-false _ _ ((point c).1 k d low high)
