use Rattle.std.proofs.Common.{◌≡◌, drop, map}
use Rattle.tt_history.specs.declared.history.Added.{Added}
use Rattle.tt_journal_read.specs.steps.Reading.{ascends_above, numbers_ascend}
use Rattle.tt_journal_read.proofs.facts.numbers_ascend.Given as goal

abbrev pub invariant-loop-part : goal.invariant-loop-part
invariant-loop-part l = ascends_above l.last (map (λ (part : Added). part.number) (drop l.part-index l.rest)) ≡ numbers_ascend l.parts
