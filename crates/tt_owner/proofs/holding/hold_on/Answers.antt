use Rattle.std.proofs.Common.{◌≡◌, ◌<◌, [], length, ap, ◌∙◌, arith}
use Rattle.std.proofs.lemmas.List.{take_all}
use Rattle.tt_layout.specs.Spans.{spans_of}
use Rattle.tt_layout.specs.Numbers.{has}
use Rattle.tt_layout.specs.Chain.{numbers_at}
use Rattle.tt_layout.proofs.ChainLaws.{length-pieces}
use Rattle.tt_sweep.proofs.Spans.{length-spans}
use Rattle.tt_owner.proofs.Picked.{strongest_in, strongest_more, strongest_is}
use Rattle.tt_owner.proofs.Walks.{piece_there, piece_ascends, inside_here, next_place}
use Rattle.tt_owner.proofs.holding.hold_on.Goals as goal

pub is_in-inside-requires : goal.is_in-inside-requires
is_in-inside-requires c =
    let inside : c.loop-place.place < length c.args.table.now.layouts =
    omega (arith, c.loop-place-test.true, length-pieces 0 [] c.args.table.now.layouts, ap length c.pieces-pieces.ensures.pieces) in
    piece_ascends c.args.table.now.layouts c.loop-place.place _ c.pieces-pieces.ensures.in_order.1 inside
    (piece_there c.args.table.now.layouts c.pieces-pieces.result.now c.loop-place.place _ c.pieces-pieces.ensures.pieces inside c.loop-place-test.true)

pub hold_if-requires-clause-place : goal.hold_if-requires-clause-place
hold_if-requires-clause-place c =
    omega (arith, c.loop-place-test.true, length-pieces 0 [] c.args.table.now.layouts, ap length c.pieces-pieces.ensures.pieces)

pub loop-place-preserved : goal.loop-place-preserved
loop-place-preserved c =
    let inside : c.loop-place.place < length c.args.table.now.layouts =
    omega (arith, c.loop-place-test.true, length-pieces 0 [] c.args.table.now.layouts, ap length c.pieces-pieces.ensures.pieces) in
    let here : c.is_in-inside.result ≡ has (numbers_at c.args.table.now.layouts c.loop-place.place) c.args.number =
    inside_here c.args.table.now.layouts c.loop-place.place c.args.number _ c.loop-place.inside c.is_in-inside.result c.pieces-pieces.ensures.in_order.1 inside
    (piece_there c.args.table.now.layouts c.pieces-pieces.result.now c.loop-place.place _ c.pieces-pieces.ensures.pieces inside c.loop-place-test.true)
    c.loop-place.invariant.inside c.is_in-inside.ensures in
    record {
      inside = here ∙ next_place c.args.table.now.layouts c.loop-place.place c.args.number;
      strongest = strongest_more c.args.at c.args.table.now c.args.number c.loop-place.place c.hold_if.result c.loop-place.strongest c.stronger-strongest.result
          c.is_in-inside.result inside c.loop-place.invariant.strongest here c.hold_if.ensures c.stronger-strongest.ensures;
    }

pub returns : goal.returns
returns c =
    c.loop-place.invariant.strongest
    ∙ ap (strongest_in c.args.at c.args.table.now c.args.number)
    (take_all c.loop-place.place (spans_of c.args.table.now.layouts c.args.table.now.dropped)
    (omega (arith, c.loop-place-test.false, length-spans c.args.table.now.layouts c.args.table.now.dropped, length-pieces 0 [] c.args.table.now.layouts, ap length c.pieces-pieces.ensures.pieces)))
    ∙ strongest_is c.args.at c.args.table.now c.args.number
