use Rattle.std.proofs.Common.{◌≡◌, ◌⊎◌, length, inl, inr, arith}
use Rattle.tt_layout.proofs.Passes.{ascends-tail, first_step, second_step, both_step, joined_end}
use Rattle.tt_layout.proofs.numbers.merged.Goals as goal
use Rattle.tt_layout.proofs.numbers.merged.Goals.{in_default, in_default-2}

pub loop-first-preserved-in_ok-push : goal.loop-first-preserved-in_ok-push
loop-first-preserved-in_ok-push c =
    let loop = c.loop-first.invariant in
    let left = c.in-Some-Some.ensures.cases.0 in
    let right = c.in-Some-Some.ensures'.cases.0 in
    let step = first_step _ _ _ _ _ _ _ _ left right loop.right c.if-first-second.true loop.whole in
    record {
      whole = rw c.in_ok-push.ensures.items step;
      left = ascends-tail _ _ _ left loop.left;
      right = loop.right;
    }

pub loop-first-preserved-in_ok-push-2 : goal.loop-first-preserved-in_ok-push-2
loop-first-preserved-in_ok-push-2 c =
    let loop = c.loop-first.invariant in
    let left = c.in-Some-Some.ensures.cases.0 in
    let right = c.in-Some-Some.ensures'.cases.0 in
    let step = second_step _ _ _ _ _ _ _ _ left right loop.right c.if-second-first.true loop.whole in
    record {
      whole = rw c.in_ok-push-2.ensures.items step;
      left = loop.left;
      right = ascends-tail _ _ _ right loop.right;
    }

pub loop-first-preserved : goal.loop-first-preserved
loop-first-preserved c =
    let loop = c.loop-first.invariant in
    let left = c.in-Some-Some.ensures.cases.0 in
    let right = c.in-Some-Some.ensures'.cases.0 in
    record {
      whole = both_step _ _ _ _ _ _ _ _ left right loop.left (omega arith) loop.whole;
      left = ascends-tail _ _ _ left loop.left;
      right = loop.right;
    }

pub returns : goal.returns
returns c =
    let loop = c.loop-first.invariant in
    let over : (length c.loop-first.left.now ≡ 0) ⊎ (length c.loop-first.right.now ≡ 0) =
    elim c.match-split_first.branch [ in_default w ↦ inr w.in_default.ensures'.cases | in_default-2 w ↦ inl w.in_default.ensures.cases ] in
    rw (c.in_ok-extend_from_slice-2.ensures.items, c.in_ok-extend_from_slice.ensures.items) (joined_end _ _ _ _ over loop.right loop.whole)
