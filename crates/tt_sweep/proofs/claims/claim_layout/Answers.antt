use Rattle.std.proofs.Common.{◌≡◌, ℕ, ◌&&◌, ◌||◌, Bool, List, [], ◌++◌, Option, Some, None, Vec, Global, length, option_map, ap, sym, ◌∙◌, arith}
use Rattle.std.proofs.lemmas.Result.{on_ok_weaker}
use Rattle.tt_layout.specs.declared.hold.Hold.{Hold}
use Rattle.tt_layout.specs.Numbers.{has}
use Rattle.tt_layout.specs.Chain.{piece_at, layout_at, numbers_at, begun_at}
use Rattle.tt_layout.proofs.ChainLaws.{length-pieces}
use Rattle.tt_sweep.specs.declared.claim.Claim.{Claim}
use Rattle.tt_sweep.specs.Claims.{claimed, claims_with, numbers_before}
use Rattle.tt_sweep.proofs.Claiming.{claimed-more, claimed-added, full_numbers, added_numbers, not_first, piece_of, begun_of}
use Rattle.tt_sweep.proofs.claims.claim_layout.Goals as goal

more : (old new : List Claim) (h : Hold) (numbers ns : List ℕ) (test : Hold → Bool) (part : ℕ) → new ≡ old ++ claims_with h numbers → numbers ≡ ns
    → claimed test new part ≡ (claimed test old part || (has ns part && test h))
more old new h numbers ns test part e f =
    ap (λ (cs : List Claim). claimed test cs part) (e ∙ ap (λ (ms : List ℕ). old ++ claims_with h ms) f) ∙ claimed-more test old h ns part

none_found : (found : Option (Vec ℕ Global)) (at : Option (List ℕ)) (ns : List ℕ) → found ≡ None → option_map (λ (v : Vec ℕ Global). v.items) found ≡ at → at ≡ Some ns → ⊥
none_found found at ns e f g =
    let none : Some ns ≡ None = sym (sym (ap (option_map (λ (v : Vec ℕ Global). v.items)) e) ∙ f ∙ g) in
    absurd (cc)

some_found : (found : Option (Vec ℕ Global)) (v : Vec ℕ Global) (at : Option (List ℕ)) (ns : List ℕ) → found ≡ Some v → option_map (λ (v : Vec ℕ Global). v.items) found ≡ at → at ≡ Some ns → v.items ≡ ns
some_found found v at ns e f g =
    let some : Some v.items ≡ Some ns = sym (ap (option_map (λ (v : Vec ℕ Global). v.items)) e) ∙ f ∙ g in
    cc

pub offset_bounds-pieces-place : goal.offset_bounds-pieces-place
offset_bounds-pieces-place c =
    omega (arith, c.requires.place, length-pieces 0 [] c.args.table.now.layouts, ap length c.pieces.ensures.pieces, c.pieces.type_inv)

pub bounds-pieces-place : goal.bounds-pieces-place
bounds-pieces-place c =
    omega (arith, c.requires.place, length-pieces 0 [] c.args.table.now.layouts, ap length c.pieces.ensures.pieces)

pub unreachable-requires : goal.unreachable-requires
unreachable-requires c =
    let ls : List (ℕ × List ℕ) = c.args.table.now.layouts in
    let piece : c.index-pieces-place.result.1 ≡ piece_at c.args.place (numbers_before ls c.args.place) (numbers_at ls c.args.place) =
    piece_of ls c.pieces.result.now c.args.place c.index-pieces-place.result c.pieces.ensures.pieces c.requires.place c.index-pieces-place.is in
    let found : layout_at ls (begun_at ls c.args.place) ≡ Some (numbers_at ls c.args.place) =
    c.requires.fresh c.if-known.false (not_first c.index-pieces-place.result.1 c.args.place _ _ _ _ piece c.in-Change-2.is) in
    none_found c.in_ok-numbers-in-Change-2.field-0 _ (numbers_at ls c.args.place) c.in_default.is
    (c.in_ok-numbers-in-Change-2.ensures
    ∙ ap (layout_at ls) (begun_of ls c.pieces.result.now c.args.place c.index-pieces-place.result c.pieces.ensures.pieces c.requires.place c.index-pieces-place.is))
    found

pub returns-in-Full : goal.returns-in-Full
returns-in-Full c =
    let ls : List (ℕ × List ℕ) = c.args.table.now.layouts in
    let piece : c.index-pieces-place.result.1 ≡ piece_at c.args.place (numbers_before ls c.args.place) (numbers_at ls c.args.place) =
    piece_of ls c.pieces.result.now c.args.place c.index-pieces-place.result c.pieces.ensures.pieces c.requires.place c.index-pieces-place.is in
    on_ok_weaker c.claim_all.result
    (λ e. λ test part. more c.args.claims.now.items c.claim_all.new.claims.items c.args.hold c.items.result.now (numbers_at ls c.args.place) test part e
    (c.items.ensures ∙ full_numbers c.index-pieces-place.result.1 c.args.place _ _ _ piece c.in-Full.is))
    c.claim_all.ensures

pub returns-in-Change : goal.returns-in-Change
returns-in-Change c =
    let ls : List (ℕ × List ℕ) = c.args.table.now.layouts in
    let piece : c.index-pieces-place.result.1 ≡ piece_at c.args.place (numbers_before ls c.args.place) (numbers_at ls c.args.place) =
    piece_of ls c.pieces.result.now c.args.place c.index-pieces-place.result c.pieces.ensures.pieces c.requires.place c.index-pieces-place.is in
    on_ok_weaker c.claim_all-in-Change.result
    (λ e. λ test part. more c.args.claims.now.items c.claim_all-in-Change.new.claims.items c.args.hold c.items-in-Change.result.now _ test part e
    (c.items-in-Change.ensures ∙ added_numbers c.index-pieces-place.result.1 c.args.place _ _ _ _ piece c.in-Change.is)
    ∙ claimed-added (claimed test c.args.claims.now.items part) (numbers_before ls c.args.place) (numbers_at ls c.args.place) part (test c.args.hold)
    (λ passes there. c.requires.known c.if-known.true test part passes there))
    c.claim_all-in-Change.ensures

pub returns-in-Some : goal.returns-in-Some
returns-in-Some c =
    let ls : List (ℕ × List ℕ) = c.args.table.now.layouts in
    let piece : c.index-pieces-place.result.1 ≡ piece_at c.args.place (numbers_before ls c.args.place) (numbers_at ls c.args.place) =
    piece_of ls c.pieces.result.now c.args.place c.index-pieces-place.result c.pieces.ensures.pieces c.requires.place c.index-pieces-place.is in
    let found : layout_at ls (begun_at ls c.args.place) ≡ Some (numbers_at ls c.args.place) =
    c.requires.fresh c.if-known.false (not_first c.index-pieces-place.result.1 c.args.place _ _ _ _ piece c.in-Change-2.is) in
    let numbers : c.in-Some.numbers.items ≡ numbers_at ls c.args.place =
    some_found c.in_ok-numbers-in-Change-2.field-0 c.in-Some.numbers _ (numbers_at ls c.args.place) c.in-Some.is
    (c.in_ok-numbers-in-Change-2.ensures
    ∙ ap (layout_at ls) (begun_of ls c.pieces.result.now c.args.place c.index-pieces-place.result c.pieces.ensures.pieces c.requires.place c.index-pieces-place.is))
    found in
    on_ok_weaker c.claim_all-in-Change-2.result
    (λ e. λ test part. more c.args.claims.now.items c.claim_all-in-Change-2.new.claims.items c.args.hold c.deref.result.now (numbers_at ls c.args.place) test part e
    (c.deref.ensures.value ∙ numbers))
    c.claim_all-in-Change-2.ensures
