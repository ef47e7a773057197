use Rattle.std.proofs.Common.{◌≡◌, ℕ, true, false, ℤ, pos, negsuc, int_lt, leb, leb-true, ◌≤ℤ◌, ◌<ℤ◌, to_z, of_z, w64, FitsSigned, arith, rules}
use Rattle.std.specs.List.Sorted.{IsPartitionPoint}
use Rattle.std.proofs.lemmas.Int.{ints, to_z-of_z}
use Rattle.std.proofs.lemmas.List.Sorted.{IsPartitionPoint-from_clause, IsPartitionedBy-leb}
use Rattle.tt_retain.specs.declared.regimes.Step.{Step}
use Rattle.tt_retain.proofs.StepLaws.{steps_ascend}
use Rattle.tt_retain.proofs.regimes.begun_at.Goals as goal

-- the moment is not below 0, so as a number it is itself
begun_is : (z : ℤ) (b : ℕ) → FitsSigned w64 z → int_lt (to_z w64 (of_z w64 z)) (pos 0) ≡ false
    → leb b (of_z w64 z) ≡ true → pos b ≤ℤ z
begun_is (pos n) b fits up h = omega (arith, ints, leb-true b n h)
begun_is (negsuc n) b fits up h = let bad = rw (to_z-of_z w64 (negsuc n) fits) at up in absurd (cc)

to_come_is : (z : ℤ) (b : ℕ) → FitsSigned w64 z → int_lt (to_z w64 (of_z w64 z)) (pos 0) ≡ false
    → leb b (of_z w64 z) ≡ false → z <ℤ pos b
to_come_is (pos n) b fits up h = grind (arith, ints, h)
to_come_is (negsuc n) b fits up h = let bad = rw (to_z-of_z w64 (negsuc n) fits) at up in absurd (cc)

point : (c : goal.After-partition_point)
    → IsPartitionPoint (λ (st : Step). leb st.regime.begun (of_z w64 c.args.moment) ≡ true) (λ (st : Step). leb st.regime.begun (of_z w64 c.args.moment) ≡ false) c.args.steps.now c.partition_point.result
point c =
    IsPartitionPoint-from_clause (λ (st : Step). leb st.regime.begun (of_z w64 c.args.moment)) _ _ c.partition_point.ensures.partitioned
    (IsPartitionedBy-leb (λ (st : Step). st.regime.begun) c.args.steps.now (of_z w64 c.args.moment) (λ i j d h k. steps_ascend 0 c.args.steps.now c.requires i j d h k))
    (λ a r q k. search rules)

pub returns-clause-begun : goal.returns-clause-begun
returns-clause-begun c = λ k d low high. begun_is c.args.moment _ c.ranges.moment c.if-moment-lt0.false ((point c).0 k d low high)

pub returns-clause-to_come : goal.returns-clause-to_come
returns-clause-to_come c = λ k d low high. to_come_is c.args.moment _ c.ranges.moment c.if-moment-lt0.false ((point c).1 k d low high)
