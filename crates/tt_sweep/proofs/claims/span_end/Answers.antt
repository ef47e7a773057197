use Rattle.std.proofs.Common.{ℕ, suc, ◌+◌, ◌<◌, [], Some, length, ap, sym, ◌∙◌, arith, add-one}
use Rattle.tt_layout.specs.declared.piece.Piece.{Piece}
use Rattle.tt_layout.specs.Chain.{begun_at}
use Rattle.tt_layout.proofs.ChainLaws.{length-pieces}
use Rattle.tt_sweep.proofs.Claiming.{begun_of}
use Rattle.tt_sweep.proofs.Spans.{end_inside, end_last}
use Rattle.tt_sweep.proofs.claims.span_end.Goals as goal

pub overflow_add-place : goal.overflow_add-place
overflow_add-place c =
    omega (arith, c.requires, length-pieces 0 [] c.args.table.now.layouts, ap length c.pieces-pieces.ensures.pieces, c.pieces-pieces.type_inv)

pub returns-then-place-pieces : goal.returns-then-place-pieces
returns-then-place-pieces c =
    let inside : suc c.args.place < length c.args.table.now.layouts =
    omega (arith, c.if-place-pieces.true, length-pieces 0 [] c.args.table.now.layouts, ap length c.pieces-pieces.ensures.pieces) in
    ap Some (sym (ap (λ (p : ℕ × Piece). p.0) c.index-pieces-place.is) ∙ begun_of c.args.table.now.layouts c.pieces-pieces.result.now (c.args.place + 1) _ c.pieces-pieces.ensures.pieces (omega arith) c.index-pieces-place.is
    ∙ ap (begun_at c.args.table.now.layouts) (add-one c.args.place))
    ∙ sym (end_inside c.args.table.now.layouts c.args.table.now.dropped c.args.place inside)

pub returns-else-place-pieces : goal.returns-else-place-pieces
returns-else-place-pieces c =
    sym (end_last c.args.table.now.layouts c.args.table.now.dropped c.args.place
    (omega (arith, c.if-place-pieces.false, length-pieces 0 [] c.args.table.now.layouts, ap length c.pieces-pieces.ensures.pieces)))
