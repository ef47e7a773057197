use Rattle.std.proofs.Common.{◌≡◌, ℕ, ◌<◌, suc, List, [], length, ap, sym, subst, ◌∙◌, arith}
use Rattle.tt_layout.specs.declared.piece.Piece.{Piece}
use Rattle.tt_layout.specs.Numbers.{IsAscending, without, joined}
use Rattle.tt_layout.specs.Chain.{is_full, layouts_from, numbers_at}
use Rattle.tt_layout.proofs.NetLaws.{gone_behind, added_behind, change_at, change_parts, gone_ascends, added_ascends, net_step, unchanged, ascends_both, ascends_more}
use Rattle.tt_layout.proofs.layouts.net_change.Goals as goal

pub loop-at-init : goal.loop-at-init
loop-at-init c = record {
  change = unchanged (numbers_at (layouts_from [] c.args.pieces.now) c.args.first) _ _ c.new.ensures.items c.new-2.ensures.items;
  gone = rw c.new.ensures.items tt;
  added = rw c.new-2.ensures.items tt;
}

pub change_lists-requires : goal.change_lists-requires
change_lists-requires c =
    ap is_full (change_at c.args.pieces.now c.args.first c.loop-at.at c.args.place c.index-pieces-at.result c.requires.chain c.requires.place c.requires.full c.loop-at.auto.at c.loop-at-test.true c.requires.near c.index-pieces-at.is)

lists : (c : goal.After-added-1) → (c.change_lists.result.0.now ≡ gone_behind c.args.pieces.now c.loop-at.at) × (c.change_lists.result.1.now ≡ added_behind c.args.pieces.now c.loop-at.at)
lists c =
    change_parts c.index-pieces-at.result.1 _ _ _ _ c.change_lists.ensures
    (change_at c.args.pieces.now c.args.first c.loop-at.at c.args.place c.index-pieces-at.result c.requires.chain c.requires.place c.requires.full c.loop-at.auto.at c.loop-at-test.true c.requires.near c.index-pieces-at.is)

pub with_change-requires-clause-gone : goal.with_change-requires-clause-gone
with_change-requires-clause-gone c =
    subst IsAscending (sym (lists c).0) (gone_ascends c.args.pieces.now c.loop-at.at c.requires.chain (omega arith))

pub with_change-requires-clause-added : goal.with_change-requires-clause-added
with_change-requires-clause-added c =
    subst IsAscending (sym (lists c).1) (added_ascends c.args.pieces.now c.loop-at.at c.requires.chain (omega arith))

pub loop-at-preserved : goal.loop-at-preserved
loop-at-preserved c =
    let pieces : List (ℕ × Piece) = c.args.pieces.now in
    let at : ℕ = c.loop-at.at in
    let gone : List ℕ = c.loop-at.net.gone.items in
    let added : List ℕ = c.loop-at.net.added.items in
    let loop = c.loop-at.invariant in
    let inside : suc at < length pieces = omega (arith, c.loop-at-test.true, c.requires.place) in
    let lists : (c.change_lists.result.0.now ≡ gone_behind pieces at) × (c.change_lists.result.1.now ≡ added_behind pieces at) =
    change_parts c.index-pieces-at.result.1 _ _ _ _ c.change_lists.ensures
    (change_at pieces c.args.first at c.args.place c.index-pieces-at.result c.requires.chain c.requires.place c.requires.full c.loop-at.auto.at c.loop-at-test.true c.requires.near c.index-pieces-at.is) in
    let less : c.in_ok-net.net.gone.items ≡ joined gone (gone_behind pieces at) =
    c.in_ok-net.ensures.gone ∙ ap (λ (l : List ℕ). joined gone l) lists.0 in
    let more : c.in_ok-net.net.added.items ≡ joined (without (gone_behind pieces at) added) (added_behind pieces at) =
    c.in_ok-net.ensures.added
    ∙ ap (λ (l : List ℕ). joined (without l added) c.change_lists.result.1.now) lists.0
    ∙ ap (λ (l : List ℕ). joined (without (gone_behind pieces at) added) l) lists.1 in
    record {
      change = net_step pieces c.args.first at gone added _ _ c.requires.chain c.loop-at.auto.at inside loop.added loop.change less more;
      gone = ascends_both gone (gone_behind pieces at) _ loop.gone (gone_ascends pieces at c.requires.chain inside) less;
      added = ascends_more added (gone_behind pieces at) (added_behind pieces at) _ loop.added (added_ascends pieces at c.requires.chain inside) more;
    }
