use Rattle.std.proofs.Common.{◌≡◌, true, false, leb, leb-true, leb-false, rules}
use Rattle.std.specs.List.Sorted.{IsPartitionPoint}
use Rattle.std.proofs.lemmas.List.Sorted.{IsPartitionPoint-from_clause, IsPartitionedBy-leb}
use Rattle.tt_owner.specs.declared.owned.Owned.{Owned}
use Rattle.tt_owner.proofs.owned.first_behind.Goals as goal

point : (c : goal.After-partition_point)
    → IsPartitionPoint (λ (h : Owned). leb h.owner c.args.owner ≡ true) (λ (h : Owned). leb h.owner c.args.owner ≡ false) c.args.owned.now c.partition_point.result
point c =
    IsPartitionPoint-from_clause (λ (h : Owned). leb h.owner c.args.owner) _ _ c.partition_point.ensures.partitioned
    (IsPartitionedBy-leb (λ (h : Owned). h.owner) c.args.owned.now c.args.owner c.requires)
    (λ a r q k. search rules)

pub returns-clause-up_to : goal.returns-clause-up_to
returns-clause-up_to c = λ k d low high. leb-true _ _ ((point c).0 k d low high)

pub returns-clause-above : goal.returns-clause-above
returns-clause-above c = λ k d low high. leb-false _ _ ((point c).1 k d low high)
