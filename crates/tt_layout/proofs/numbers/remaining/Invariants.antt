use Rattle.std.proofs.Common.{◌≡◌, ◌+◌, ◌++◌, length}
use Rattle.tt_layout.specs.Numbers.{IsAscending, without}
use Rattle.tt_layout.proofs.numbers.remaining.Given as goal

-- what is kept, and what is left less the rest, are the whole
abbrev pub invariant-loop-number : goal.invariant-loop-number
invariant-loop-number l = record {
  whole : l.kept.items ++ without l.gone l.numbers ≡ without l.fn.gone l.fn.numbers;
  numbers : IsAscending l.numbers;
  gone : IsAscending l.gone;
}

abbrev pub decreases-loop-number : goal.decreases-loop-number
decreases-loop-number l = length l.numbers + length l.gone
