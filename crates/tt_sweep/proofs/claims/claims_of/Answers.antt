use Rattle.std.proofs.Common.{◌≡◌, ℕ, ◌<◌, Bool, true, false, not, [], length, Vec, Global, refl, ap, sym, ◌∙◌, arith}
use Rattle.std.specs.List.{list_any}
use Rattle.std.proofs.lemmas.List.{take_all}
use denote.Enum.Bare.{sameb}
use Rattle.tt_layout.specs.contracts.hold.Hold.{the_type}
use Rattle.tt_layout.specs.declared.hold.Hold.{Hold}
use Rattle.tt_layout.specs.declared.hold.Hold.TheVariants as hold
use Rattle.tt_layout.specs.Holds.{is_held}
use Rattle.tt_layout.specs.Spans.{spans_of}
use Rattle.tt_layout.proofs.ChainLaws.{length-pieces}
use Rattle.tt_sweep.specs.declared.claim.Claim.{Claim}
use Rattle.tt_sweep.specs.Claims.{claimed, span_hold, end_at}
use Rattle.tt_sweep.proofs.Claiming.{in_span, claims_are}
use Rattle.tt_sweep.proofs.Holding.{same_hold, other_hold, some_held, covers, fresh_span, span_step, none_step}
use Rattle.tt_sweep.proofs.Spans.{length-spans}
use Rattle.tt_sweep.proofs.claims.claims_of.Goals as goal
use Rattle.tt_sweep.proofs.claims.claims_of.Goals.{then-ne+in_ok-claim_layout, else-ne}

pub hold_at-hold-requires-clause-place : goal.hold_at-hold-requires-clause-place
hold_at-hold-requires-clause-place c =
    omega (arith, c.loop-place-test.true, length-pieces 0 [] c.args.table.now.layouts, ap length c.pieces-place-end.ensures.pieces)

hold_at-place : (c : goal.After-eq) → c.loop-place.place < length c.args.table.now.layouts
hold_at-place c =
    omega (arith, c.loop-place-test.true, length-pieces 0 [] c.args.table.now.layouts, ap length c.pieces-place-end.ensures.pieces)

pub claim_layout-requires-clause-place : goal.claim_layout-requires-clause-place
claim_layout-requires-clause-place c =
    omega (arith, c.loop-place-test.true, length-pieces 0 [] c.args.table.now.layouts, ap length c.pieces-place-end.ensures.pieces)

held : (h : Hold) (b : Bool) → b ≡ not (sameb the_type h hold.Nothing) → b ≡ true → is_held h ≡ true
held h b e f = some_held h (λ nothing. absurd (let same : sameb the_type h hold.Nothing ≡ true = ap (λ (x : Hold). sameb the_type x hold.Nothing) nothing in cc))

pub claim_layout-requires-clause-known : goal.claim_layout-requires-clause-known
claim_layout-requires-clause-known c = λ known.
    covers c.args.at c.args.table.now c.loop-place.claims.items c.loop-place.place c.loop-place.before c.hold_at-hold.result
    (omega (arith, hold_at-place c)) c.loop-place.invariant.claims c.loop-place.invariant.before
    (same_hold c.hold_at-hold.result c.loop-place.before (sym c.eq.ensures ∙ known)) (held c.hold_at-hold.result c.ne.result c.ne.ensures c.if-ne.true)

pub claim_layout-requires-clause-fresh : goal.claim_layout-requires-clause-fresh
claim_layout-requires-clause-fresh c = λ new some.
    fresh_span c.args.at c.args.table.now c.loop-place.place c.loop-place.before c.hold_at-hold.result
    c.pieces-place-end.ensures.in_order.1 (hold_at-place c) c.hold_at-hold.ensures c.loop-place.invariant.before
    (other_hold c.hold_at-hold.result c.loop-place.before (sym c.eq.ensures ∙ new)) some

not_held : (h : Hold) (b : Bool) → b ≡ not (sameb the_type h hold.Nothing) → b ≡ false → h ≡ hold.Nothing
not_held h b e f = same_hold h hold.Nothing (turned (sameb the_type h hold.Nothing) (sym e ∙ f))
  where
    turned : (a : Bool) → not a ≡ false → a ≡ true
    turned true e = refl
    turned false e = absurd (cc)

pub loop-place-preserved : goal.loop-place-preserved
loop-place-preserved c =
    let inside : c.loop-place.place < length c.args.table.now.layouts =
    omega (arith, c.loop-place-test.true, length-pieces 0 [] c.args.table.now.layouts, ap length c.pieces-place-end.ensures.pieces) in
    record {
      claims = λ test part. elim c.if-ne.branch [
        | then-ne+in_ok-claim_layout w ↦
            ap (λ (v : Vec Claim Global). claimed test v.items part) w.claims-is
            ∙ span_step c.args.at c.args.table.now test part c.loop-place.place c.hold_at-hold.result (claimed test c.loop-place.claims.items part) _
            inside c.hold_at-hold.ensures (c.loop-place.invariant.claims test part)
            (held c.hold_at-hold.result c.ne.result c.ne.ensures w.if-ne.true) (w.in_ok-claim_layout.ensures test part)
        | else-ne w ↦
            ap (λ (v : Vec Claim Global). claimed test v.items part) w.claims-is
            ∙ none_step c.args.at c.args.table.now test part c.loop-place.place c.hold_at-hold.result (claimed test c.loop-place.claims.items part)
            inside c.hold_at-hold.ensures (c.loop-place.invariant.claims test part)
            (not_held c.hold_at-hold.result c.ne.result c.ne.ensures w.if-ne.false)
      ];
      before = λ k e. c.hold_at-hold.ensures ∙ ap (λ (n : ℕ). span_hold c.args.at c.args.table.now.regimes (end_at c.args.table.now.layouts c.args.table.now.dropped n)) (omega (arith, e));
    }

pub returns : goal.returns
returns c =
    claims_are c.args.at c.args.table.now c.loop-place.claims.items
    (λ test part. c.loop-place.invariant.claims test part
    ∙ ap (list_any (in_span test c.args.at c.args.table.now.regimes part))
    (take_all c.loop-place.place (spans_of c.args.table.now.layouts c.args.table.now.dropped)
    (omega (arith, c.loop-place-test.false, length-spans c.args.table.now.layouts c.args.table.now.dropped, length-pieces 0 [] c.args.table.now.layouts, ap length c.pieces-place-end.ensures.pieces))))
