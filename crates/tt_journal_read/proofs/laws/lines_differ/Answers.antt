use Rattle.tt_journal_read.proofs.LineLaws.{line_alone, line_written}
use Rattle.tt_journal_read.proofs.laws.lines_differ.Goals as goal

pub returns : goal.returns
returns c = λ program entry sound is. line_alone program sound _ entry (line_written program sound entry is)
