use Rattle.std.proofs.Common.{subst}
use Rattle.tt_state.specs.Chronicle.{Chronicle}
use Rattle.tt_run.specs.Outcomes.{Stands}
use Rattle.tt_run.proofs.session.stands.Goals as goal

pub returns : goal.returns
returns c = subst (λ (b : Chronicle). Stands b) c.cat.view_is (_, c.cat.invariant)
