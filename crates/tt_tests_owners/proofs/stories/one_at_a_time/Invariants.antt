use Rattle.std.proofs.Common.{◌≡◌, ◌≤◌, [], ◌∷◌}
use Rattle.tt_layout.specs.Chain.{current_of, last_begun}
use Rattle.tt_tests_owners.proofs.stories.one_at_a_time.Given as goal

-- the last partition stands alone
abbrev pub invariant-loop-number : goal.invariant-loop-number
invariant-loop-number l = record {
  begun : last_begun l.layouts ≤ l.number;
  current : current_of l.layouts ≡ l.number ∷ [];
}
