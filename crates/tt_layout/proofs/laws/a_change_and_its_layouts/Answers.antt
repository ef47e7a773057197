use Rattle.tt_layout.proofs.Changes.{gone_again, added_again, changed_back}
use Rattle.tt_layout.proofs.laws.a_change_and_its_layouts.Goals as goal

pub returns-clause-gone : goal.returns-clause-gone
returns-clause-gone c = gone_again

pub returns-clause-added : goal.returns-clause-added
returns-clause-added c = added_again

pub returns-clause-back : goal.returns-clause-back
returns-clause-back c = changed_back
