use Rattle.tt_layout.proofs.Members.{has-changed}
use Rattle.tt_layout.proofs.Ascending.{ascends-changed}
use Rattle.tt_layout.proofs.laws.changes_are_of_sets.Goals as goal

pub returns-clause-numbers : goal.returns-clause-numbers
returns-clause-numbers c = has-changed

pub returns-clause-ascends : goal.returns-clause-ascends
returns-clause-ascends c = ascends-changed
