use Rattle.std.proofs.Common.{◌≡◌, drop}
use Rattle.tt_journal_read.specs.steps.Reading.{ascends, ascends_above}
use Rattle.tt_journal_read.proofs.facts.ascends.Given as goal

abbrev pub invariant-loop-number : goal.invariant-loop-number
invariant-loop-number l = ascends_above l.last (drop l.number-index l.rest) ≡ ascends l.numbers
