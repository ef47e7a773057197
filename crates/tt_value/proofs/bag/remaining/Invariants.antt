use Rattle.std.proofs.Common.{◌≡◌, ◌+◌, ◌++◌, length}
use Rattle.tt_value.specs.values.Bags.{IsBag, bag_minus}
use Rattle.tt_value.proofs.bag.remaining.Given as goal

-- what is kept and what is left less the rest are the whole
abbrev pub invariant-loop-row : goal.invariant-loop-row
invariant-loop-row l = record {
  whole : l.rows.items ++ bag_minus l.left l.right ≡ bag_minus l.fn.left l.fn.right;
  left_sorted : IsBag l.left;
  right_sorted : IsBag l.right;
}

abbrev pub decreases-loop-row : goal.decreases-loop-row
decreases-loop-row l = length l.left + length l.right
