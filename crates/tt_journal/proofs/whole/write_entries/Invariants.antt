use Rattle.std.proofs.Common.{◌≡◌, ◌++◌, length}
use Rattle.tt_journal.specs.Answered.{answered_lines}
use Rattle.tt_journal.proofs.whole.write_entries.Given as goal

-- what stands, with the lines of the entries that are left, is the whole text
abbrev pub invariant-loop-entry : goal.invariant-loop-entry
invariant-loop-entry l = l.out.items ++ answered_lines l.program l.later l.left ≡ l.initial.out.items ++ answered_lines l.program l.entries l.replies

abbrev pub decreases-loop-entry : goal.decreases-loop-entry
decreases-loop-entry l = length l.later
