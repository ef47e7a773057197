use Rattle.tt_journal.proofs.Contents.{one_table}
use Rattle.tt_journal.proofs.laws.refusals_have_one_table.Goals as goal

pub returns : goal.returns
returns c = one_table
