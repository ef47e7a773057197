use Rattle.std.proofs.Common.{◌≡◌, ℕ, ◌-◌, ◌%◌, List, [], ap, sym, subst, ◌∙◌, arith}
use Rattle.std.proofs.lemmas.Result.{IfOk-weaker}
use Rattle.tt_layout.specs.Numbers.{IsAscending, changed}
use Rattle.tt_layout.specs.Chain.{is_full, layouts_from, numbers_at}
use Rattle.tt_layout.proofs.NetLaws.{full_at, full_part, numbers_ascend, one_more, ascends_both, ascends_more}
use Rattle.tt_layout.proofs.layouts.numbers_behind.Goals as goal

pub full_list-requires : goal.full_list-requires
full_list-requires c =
    ap is_full (full_at c.args.pieces.now c.args.place c.index-pieces-first.result c.requires.chain c.requires.place c.index-pieces-first.is)

pub after_change-requires-clause-numbers : goal.after_change-requires-clause-numbers
after_change-requires-clause-numbers c =
    let full : c.full_list.result.now ≡ numbers_at (layouts_from [] c.args.pieces.now) (c.args.place - c.args.place % 64) =
    full_part c.index-pieces-first.result.1 _ _ c.full_list.ensures
    (full_at c.args.pieces.now c.args.place c.index-pieces-first.result c.requires.chain c.requires.place c.index-pieces-first.is) in
    subst IsAscending (sym full) (numbers_ascend c.args.pieces.now (c.args.place - c.args.place % 64) c.requires.chain (omega (arith, c.requires.place)))

pub after_change-requires-clause-gone : goal.after_change-requires-clause-gone
after_change-requires-clause-gone c =
    ascends_both c.in_ok-net.net.gone.items c.args.gone.now c.deref.result.now c.in_ok-net.ensures.gone c.requires.gone
    (c.deref.ensures.value ∙ c.in_ok-net-2.ensures.gone)

pub after_change-requires-clause-added : goal.after_change-requires-clause-added
after_change-requires-clause-added c =
    ascends_more c.in_ok-net.net.added.items c.args.gone.now c.args.added.now c.deref-2.result.now c.in_ok-net.ensures.added c.requires.added
    (c.deref-2.ensures.value ∙ c.in_ok-net-2.ensures.added)

pub returns : goal.returns
returns c =
    let first : ℕ = c.args.place - c.args.place % 64 in
    let base : List ℕ = numbers_at (layouts_from [] c.args.pieces.now) first in
    let full : c.full_list.result.now ≡ base =
    full_part c.index-pieces-first.result.1 _ _ c.full_list.ensures
    (full_at c.args.pieces.now c.args.place c.index-pieces-first.result c.requires.chain c.requires.place c.index-pieces-first.is) in
    let ascends : IsAscending base = numbers_ascend c.args.pieces.now first c.requires.chain (omega (arith, c.requires.place)) in
    let whole : changed c.full_list.result.now c.deref.result.now c.deref-2.result.now ≡ changed (numbers_at (layouts_from [] c.args.pieces.now) c.args.place) c.args.gone.now c.args.added.now =
    ap (λ (l : List ℕ). changed l c.deref.result.now c.deref-2.result.now) full
    ∙ one_more base _ c.in_ok-net.net.gone.items c.in_ok-net.net.added.items c.args.gone.now c.args.added.now _ _
    ascends c.in_ok-net.ensures.added c.requires.added c.in_ok-net.ensures.change
    (c.deref.ensures.value ∙ c.in_ok-net-2.ensures.gone) (c.deref-2.ensures.value ∙ c.in_ok-net-2.ensures.added) in
    IfOk-weaker c.after_change.result _ _ (λ v h. h ∙ whole) c.after_change.ensures
