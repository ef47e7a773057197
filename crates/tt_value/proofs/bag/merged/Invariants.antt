use Rattle.std.proofs.Common.{◌≡◌, ◌+◌, ◌++◌, length}
use Rattle.tt_value.specs.values.Bags.{IsBag, bag_of}
use Rattle.tt_value.proofs.bag.merged.Given as goal

-- what is done and the bag of what is left are the whole
abbrev pub invariant-loop-first : goal.invariant-loop-first
invariant-loop-first l = record {
  whole : l.rows.items ++ bag_of (l.left ++ l.right) ≡ bag_of (l.fn.left ++ l.fn.right);
  left_sorted : IsBag l.left;
  right_sorted : IsBag l.right;
}

abbrev pub decreases-loop-first : goal.decreases-loop-first
decreases-loop-first l = length l.left + length l.right
