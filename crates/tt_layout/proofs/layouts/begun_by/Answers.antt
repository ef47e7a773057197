use Rattle.std.proofs.Common.{◌≡◌, ℕ, true, false, [], leb, leb-true, leb-false, arith, rules}
use Rattle.std.specs.List.Sorted.{IsPartitionPoint}
use Rattle.std.proofs.lemmas.List.Sorted.{IsPartitionPoint-from_clause, IsPartitionedBy-leb}
use Rattle.tt_layout.specs.declared.piece.Piece.{Piece}
use Rattle.tt_layout.specs.declared.piece.Piece.TheVariants.{Full}
use Rattle.tt_layout.proofs.ChainLaws.{chain_begun, chain_up}
use Rattle.tt_layout.proofs.layouts.begun_by.Goals as goal

abbrev none : ℕ × Piece
none = (0, Full [])

point : (c : goal.After-partition_point)
    → IsPartitionPoint (λ (p : ℕ × Piece). leb p.0 c.args.moment ≡ true) (λ (p : ℕ × Piece). leb p.0 c.args.moment ≡ false) c.args.pieces.now c.partition_point.result
point c =
    IsPartitionPoint-from_clause (λ (p : ℕ × Piece). leb p.0 c.args.moment) _ _ c.partition_point.ensures.partitioned
    (IsPartitionedBy-leb (λ (p : ℕ × Piece). p.0) c.args.pieces.now c.args.moment (λ i j d h k. chain_up c.args.pieces.now c.requires i j d h k))
    (λ a r q k. search rules)

pub returns-clause-begun : goal.returns-clause-begun
returns-clause-begun c = λ k h.
    omega (arith, chain_begun c.args.pieces.now k none c.requires (omega (arith, c.partition_point.ensures.bound)), leb-true _ _ ((point c).0 k none (omega arith) h))

pub returns-clause-to_come : goal.returns-clause-to_come
returns-clause-to_come c = λ k h i.
    omega (arith, chain_begun c.args.pieces.now k none c.requires i, leb-false _ _ ((point c).1 k none h i))
