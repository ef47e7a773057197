use Rattle.std.proofs.Common.{◌≡◌, ◌++◌}
use Rattle.std.specs.Option.{option_copied, option_map}
use Rattle.tt_journal_read.specs.steps.Reading.{added_of, fields_in}
use Rattle.tt_journal_read.proofs.Fields.{bytes_left}
use Rattle.tt_journal_read.proofs.facts.added.Given as goal

-- what was read, in front of what the rest gives, is what all fields give
abbrev pub invariant-loop-left : goal.invariant-loop-left
invariant-loop-left l = option_map (λ more. l.parts ++ more) (added_of (fields_in (option_copied l.left))) ≡ added_of (fields_in (option_copied l.facts))

abbrev pub decreases-loop-left : goal.decreases-loop-left
decreases-loop-left l = bytes_left (option_copied l.left)
