use Rattle.std.proofs.Common.{subst}
use Rattle.tt_journal_read.specs.steps.Reading.{Finds, entry_on}
use Rattle.tt_journal_read.proofs.LineLaws.{reads_alone, reads_line, reads_none}
use Rattle.tt_journal_read.proofs.reading.read.Goals as goal

pub returns-clause-entry : goal.returns-clause-entry
returns-clause-entry c = reads_line c.args.program.now c.requires.sound c.args.line.now c.entry_on.result (subst (λ line. Finds (entry_on c.args.program.now line) c.entry_on.result) c.as_bytes.ensures.value c.entry_on.ensures)

pub returns-clause-alone : goal.returns-clause-alone
returns-clause-alone c = reads_alone c.args.program.now c.requires.sound c.args.line.now c.entry_on.result (subst (λ line. Finds (entry_on c.args.program.now line) c.entry_on.result) c.as_bytes.ensures.value c.entry_on.ensures)

pub returns-clause-none : goal.returns-clause-none
returns-clause-none c = reads_none c.args.program.now c.requires.sound c.args.line.now c.entry_on.result (subst (λ line. Finds (entry_on c.args.program.now line) c.entry_on.result) c.as_bytes.ensures.value c.entry_on.ensures)
