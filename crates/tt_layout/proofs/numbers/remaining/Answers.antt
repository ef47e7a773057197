use Rattle.std.proofs.Common.{◌≡◌, ◌⊎◌, length, inl, inr, arith}
use Rattle.tt_layout.proofs.Passes.{ascends-tail, kept_step, passed_step, left_step, kept_end}
use Rattle.tt_layout.proofs.numbers.remaining.Goals as goal
use Rattle.tt_layout.proofs.numbers.remaining.Goals.{in_default, in_default-2}

pub loop-number-preserved-in_ok-push : goal.loop-number-preserved-in_ok-push
loop-number-preserved-in_ok-push c =
    let loop = c.loop-number.invariant in
    let left = c.in-Some-Some.ensures.cases.0 in
    let right = c.in-Some-Some.ensures'.cases.0 in
    let step = kept_step _ _ _ _ _ _ _ _ left right loop.gone c.if-number-taken.true loop.whole in
    record {
      whole = rw c.in_ok-push.ensures.items step;
      numbers = ascends-tail _ _ _ left loop.numbers;
      gone = loop.gone;
    }

pub loop-number-preserved-then-taken-number : goal.loop-number-preserved-then-taken-number
loop-number-preserved-then-taken-number c =
    let loop = c.loop-number.invariant in
    let left = c.in-Some-Some.ensures.cases.0 in
    let right = c.in-Some-Some.ensures'.cases.0 in
    record {
      whole = passed_step _ _ _ _ _ _ _ _ left right loop.numbers c.if-taken-number.true loop.whole;
      numbers = loop.numbers;
      gone = ascends-tail _ _ _ right loop.gone;
    }

pub loop-number-preserved : goal.loop-number-preserved
loop-number-preserved c =
    let loop = c.loop-number.invariant in
    let left = c.in-Some-Some.ensures.cases.0 in
    let right = c.in-Some-Some.ensures'.cases.0 in
    record {
      whole = left_step _ _ _ _ _ _ _ _ left right (omega arith) loop.whole;
      numbers = ascends-tail _ _ _ left loop.numbers;
      gone = loop.gone;
    }

pub returns : goal.returns
returns c =
    let loop = c.loop-number.invariant in
    let over : (length c.loop-number.numbers.now ≡ 0) ⊎ (length c.loop-number.gone.now ≡ 0) =
    elim c.match-split_first.branch [ in_default w ↦ inr w.in_default.ensures'.cases | in_default-2 w ↦ inl w.in_default.ensures.cases ] in
    rw c.in_ok-extend_from_slice.ensures.items (kept_end _ _ _ _ over loop.whole)
