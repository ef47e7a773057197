use Rattle.std.proofs.Common.{◌≡◌, ◌+◌, ◌++◌, length}
use Rattle.tt_layout.specs.Numbers.{IsAscending, joined}
use Rattle.tt_layout.proofs.numbers.merged.Given as goal

-- what is done, and both lists that are left, are the whole
abbrev pub invariant-loop-first : goal.invariant-loop-first
invariant-loop-first l = record {
  whole : l.both.items ++ joined l.left l.right ≡ joined l.fn.left l.fn.right;
  left : IsAscending l.left;
  right : IsAscending l.right;
}

abbrev pub decreases-loop-first : goal.decreases-loop-first
decreases-loop-first l = length l.left + length l.right
