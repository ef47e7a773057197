use Rattle.std.proofs.Common.{ap, sym, ◌∙◌}
use Rattle.std.specs.Option.{option_copied}
use Rattle.tt_journal_read.specs.steps.Reading.{ascends, fields_in, gone_of}
use Rattle.tt_journal_read.proofs.Loops.{parts_behind, parts_jump}
use Rattle.tt_journal_read.proofs.facts.parts.Goals as goal
use Rattle.tt_journal_read.proofs.facts.parts.Goals.{else-is_none-via-then-is_none+else-ascends, else-is_none-via-else-is_none}

pub returns-else-is_none : goal.returns-else-is_none
returns-else-is_none c = elim c.else-is_none.branch [
  | else-is_none-via-then-is_none+else-ascends w ↦ parts_jump _ (option_copied c.in_ok-numbers.left) (gone_of (fields_in (option_copied c.args.facts))) c.in_ok-numbers.ensures (ap ascends (sym w.items.ensures) ∙ sym w.if-ascends.ensures)
  | else-is_none-via-else-is_none w ↦ parts_behind _ c.in_ok-numbers.left (gone_of (fields_in (option_copied c.args.facts))) c.in_ok-numbers.ensures w.if-is_none.ensures
]
