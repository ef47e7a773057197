use Rattle.tt_plain_laws.proofs.guard.Entries.{entries_keep}
use Rattle.tt_plain_laws.proofs.isolation.entries_keep_guards.Goals as goal

pub returns : goal.returns
returns c = entries_keep
