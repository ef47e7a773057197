use Rattle.std.proofs.Common.{◌≡◌, ◌⊎◌, ◌∙◌, length, inl, inr, sym}
use Rattle.tt_value.proofs.values.Bags.{minus_less_step, minus_same_step, minus_more_step, minus_end, IsBag-tail}
use Rattle.tt_value.proofs.bag.remaining.Goals as goal
use Rattle.tt_value.proofs.bag.remaining.Goals.{in_default, in_default-2}

pub loop-row-preserved-in_ok-push-in-Less : goal.loop-row-preserved-in_ok-push-in-Less
loop-row-preserved-in_ok-push-in-Less c =
    let loop = c.loop-row.invariant in
    let left = c.in-Some-Some.ensures.cases.0 in
    let right = c.in-Some-Some.ensures'.cases.0 in
    let step = minus_less_step _ _ _ _ _ _ _ _ left right loop.right_sorted (sym c.compare_rows.ensures ∙ c.in-Less.is) loop.whole in
    record {
      whole = rw (c.in_ok-push-in-Less.ensures.items, c.in_ok-copy_of-in-Less.ensures) step;
      left_sorted = IsBag-tail _ _ _ left loop.left_sorted;
      right_sorted = loop.right_sorted;
    }

pub loop-row-preserved-in-Equal : goal.loop-row-preserved-in-Equal
loop-row-preserved-in-Equal c =
    let loop = c.loop-row.invariant in
    let left = c.in-Some-Some.ensures.cases.0 in
    let right = c.in-Some-Some.ensures'.cases.0 in
    record {
      whole = minus_same_step _ _ _ _ _ _ _ _ left right (sym c.compare_rows.ensures ∙ c.in-Equal.is) loop.whole;
      left_sorted = IsBag-tail _ _ _ left loop.left_sorted;
      right_sorted = IsBag-tail _ _ _ right loop.right_sorted;
    }

pub loop-row-preserved : goal.loop-row-preserved
loop-row-preserved c =
    let loop = c.loop-row.invariant in
    let left = c.in-Some-Some.ensures.cases.0 in
    let right = c.in-Some-Some.ensures'.cases.0 in
    record {
      whole = minus_more_step _ _ _ _ _ _ _ _ left right loop.left_sorted (sym c.compare_rows.ensures ∙ c.in-Greater.is) loop.whole;
      left_sorted = loop.left_sorted;
      right_sorted = IsBag-tail _ _ _ right loop.right_sorted;
    }

pub returns : goal.returns
returns c =
    let loop = c.loop-row.invariant in
    let over : (length c.loop-row.left.now ≡ 0) ⊎ (length c.loop-row.right.now ≡ 0) =
    elim c.match-split_first.branch [ in_default w ↦ inr w.in_default.ensures'.cases | in_default-2 w ↦ inl w.in_default.ensures.cases ] in
    rw c.in_ok-append_clones.ensures (minus_end _ _ _ _ over loop.whole)
