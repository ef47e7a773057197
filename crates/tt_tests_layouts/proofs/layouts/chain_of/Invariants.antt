use Rattle.std.proofs.Common.{◌≡◌, ℕ, ◌+◌, ◌<◌, ◌≤◌, false, length}
use Rattle.tt_layout.specs.Numbers.{has}
use Rattle.tt_layout.specs.Chain.{current_of, last_begun}
use Rattle.tt_tests_layouts.proofs.layouts.chain_of.Given as goal

-- no later number is there yet
abbrev pub invariant-loop-number : goal.invariant-loop-number
invariant-loop-number l = record {
  begun : last_begun l.layouts ≤ l.number + 1;
  later : (n : ℕ) → l.number < n → has (current_of l.layouts) n ≡ false;
  count : length l.layouts ≡ l.number + 1;
}
