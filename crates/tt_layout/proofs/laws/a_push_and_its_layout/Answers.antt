use Rattle.tt_layout.proofs.Growing.{current-with_change, begun-with_change, without_last-more}
use Rattle.tt_layout.proofs.laws.a_push_and_its_layout.Goals as goal

pub returns-clause-current : goal.returns-clause-current
returns-clause-current c = current-with_change

pub returns-clause-begun : goal.returns-clause-begun
returns-clause-begun c = begun-with_change

pub returns-clause-back : goal.returns-clause-back
returns-clause-back c = λ layouts begun gone added. without_last-more layouts _
