use Rattle.std.proofs.Common.{◌≡◌, ℕ, ◌-◌, ◌%◌, List, [], ap, sym, subst, ◌∙◌, arith}
use Rattle.std.proofs.lemmas.Result.{IfOk-weaker}
use Rattle.tt_layout.specs.Numbers.{IsAscending, changed}
use Rattle.tt_layout.specs.Chain.{is_full, layouts_from, numbers_at}
use Rattle.tt_layout.proofs.NetLaws.{full_at, full_part, numbers_ascend}
use Rattle.tt_layout.proofs.layouts.numbers_of_place.Goals as goal

pub full_list-requires : goal.full_list-requires
full_list-requires c =
    ap is_full (full_at c.args.pieces.now c.args.place c.index-pieces-first.result c.requires.chain c.requires.place c.index-pieces-first.is)

base : (c : goal.After-deref-2) → c.full_list.result.now ≡ numbers_at (layouts_from [] c.args.pieces.now) (c.args.place - c.args.place % 64)
base c =
    full_part c.index-pieces-first.result.1 _ _ c.full_list.ensures
    (full_at c.args.pieces.now c.args.place c.index-pieces-first.result c.requires.chain c.requires.place c.index-pieces-first.is)

pub after_change-requires-clause-numbers : goal.after_change-requires-clause-numbers
after_change-requires-clause-numbers c =
    subst IsAscending (sym (base c)) (numbers_ascend c.args.pieces.now (c.args.place - c.args.place % 64) c.requires.chain (omega (arith, c.requires.place)))

pub returns : goal.returns
returns c =
    let full : c.full_list.result.now ≡ numbers_at (layouts_from [] c.args.pieces.now) (c.args.place - c.args.place % 64) =
    full_part c.index-pieces-first.result.1 _ _ c.full_list.ensures
    (full_at c.args.pieces.now c.args.place c.index-pieces-first.result c.requires.chain c.requires.place c.index-pieces-first.is) in
    let whole : changed c.full_list.result.now c.deref.result.now c.deref-2.result.now ≡ numbers_at (layouts_from [] c.args.pieces.now) c.args.place =
    ap (λ (l : List ℕ). changed l c.deref.result.now c.deref-2.result.now) full
    ∙ ap (λ (l : List ℕ). changed (numbers_at (layouts_from [] c.args.pieces.now) (c.args.place - c.args.place % 64)) l c.deref-2.result.now) c.deref.ensures.value
    ∙ ap (λ (l : List ℕ). changed (numbers_at (layouts_from [] c.args.pieces.now) (c.args.place - c.args.place % 64)) c.in_ok-net.net.gone.items l) c.deref-2.ensures.value
    ∙ c.in_ok-net.ensures.change in
    IfOk-weaker c.after_change.result _ _ (λ v h. h ∙ whole) c.after_change.ensures
