use Rattle.std.proofs.Common.{◌≡◌, ◌++◌}
use Rattle.std.specs.Option.{option_copied}
use Rattle.tt_journal_read.specs.steps.Reading.{fields_in, gone_of}
use Rattle.tt_journal_read.proofs.Fields.{bytes_left}
use Rattle.tt_journal_read.proofs.facts.gone.Given as goal

-- what was read, in front of what the rest gives, is what all fields give
abbrev pub invariant-loop-left : goal.invariant-loop-left
invariant-loop-left l = record {
  numbers : l.numbers ++ (gone_of (fields_in (option_copied l.left))).0 ≡ (gone_of (fields_in (option_copied l.facts))).0;
  rest : (gone_of (fields_in (option_copied l.left))).1 ≡ (gone_of (fields_in (option_copied l.facts))).1;
}

abbrev pub decreases-loop-left : goal.decreases-loop-left
decreases-loop-left l = bytes_left (option_copied l.left)
