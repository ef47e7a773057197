use Rattle.std.proofs.Common.{◌≡◌, ◌⊎◌, ◌∙◌, length, true, false, inl, inr, sym, ap}
use Rattle.std.specs.Ordering.{is_gt}
use Rattle.tt_value.specs.values.Order.{is_above}
use Rattle.tt_value.proofs.values.Bags.{merge_left_step, merge_right_step, merge_end, IsBag-tail}
use Rattle.tt_value.proofs.bag.merged.Goals as goal
use Rattle.tt_value.proofs.bag.merged.Goals.{in_default, in_default-2}

pub loop-first-preserved-in_ok-push : goal.loop-first-preserved-in_ok-push
loop-first-preserved-in_ok-push c =
    let loop = c.loop-first.invariant in
    let left = c.in-Some-Some.ensures.cases.0 in
    let right = c.in-Some-Some.ensures'.cases.0 in
    let above : is_above c.in-Some-Some.first.now c.in-Some-Some.second.now ≡ true = sym (ap is_gt c.compare_rows.ensures) ∙ (sym c.is_gt.ensures ∙ c.if-is_gt.true) in
    let step = merge_right_step _ _ _ _ _ _ _ _ left right loop.left_sorted loop.right_sorted above loop.whole in
    record {
      whole = rw (c.in_ok-push.ensures.items, c.in_ok-copy_of.ensures) step;
      left_sorted = loop.left_sorted;
      right_sorted = IsBag-tail _ _ _ right loop.right_sorted;
    }

pub loop-first-preserved : goal.loop-first-preserved
loop-first-preserved c =
    let loop = c.loop-first.invariant in
    let left = c.in-Some-Some.ensures.cases.0 in
    let right = c.in-Some-Some.ensures'.cases.0 in
    let above : is_above c.in-Some-Some.first.now c.in-Some-Some.second.now ≡ false = sym (ap is_gt c.compare_rows.ensures) ∙ (sym c.is_gt.ensures ∙ c.if-is_gt.false) in
    let step = merge_left_step _ _ _ _ _ _ _ _ left right loop.left_sorted loop.right_sorted above loop.whole in
    record {
      whole = rw (c.in_ok-push-2.ensures.items, c.in_ok-copy_of-2.ensures) step;
      left_sorted = IsBag-tail _ _ _ left loop.left_sorted;
      right_sorted = loop.right_sorted;
    }

pub returns : goal.returns
returns c =
    let loop = c.loop-first.invariant in
    let over : (length c.loop-first.left.now ≡ 0) ⊎ (length c.loop-first.right.now ≡ 0) =
    elim c.match-split_first.branch [ in_default w ↦ inr w.in_default.ensures'.cases | in_default-2 w ↦ inl w.in_default.ensures.cases ] in
    rw (c.in_ok-append_clones-2.ensures, c.in_ok-append_clones.ensures) (merge_end _ _ _ _ over loop.left_sorted loop.right_sorted loop.whole)
