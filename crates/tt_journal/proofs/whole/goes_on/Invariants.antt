use Rattle.std.proofs.Common.{◌≡◌, drop}
use Rattle.tt_journal.specs.Answered.{goes_on}
use Rattle.tt_journal.proofs.whole.goes_on.Given as goal

-- no entry so far was one of the session
abbrev pub invariant-loop-entry : goal.invariant-loop-entry
invariant-loop-entry l = goes_on l.session l.index (drop l.entry-index l.entries) ≡ goes_on l.session l.index l.entries
