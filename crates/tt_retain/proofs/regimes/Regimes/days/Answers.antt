use Rattle.std.proofs.Common.{◌≡◌, ◌-◌, Some, List, length, slice_get, ap, sym, subst}
use Rattle.tt_retain.specs.declared.regime.Regime.{Regime}
use Rattle.tt_retain.specs.declared.regimes.Step.{Step}
use Rattle.tt_retain.specs.Retention.{Retention, days_of}
use Rattle.tt_retain.proofs.StepLaws.{last_regime_is}
use Rattle.tt_retain.proofs.regimes.Regimes.days.Goals as goal

pub returns-clause-now : goal.returns-clause-now
returns-clause-now c =
    let last : slice_get c.self.inside.steps.items (length c.self.inside.steps.items - 1) ≡ Some c.last_step.result =
    subst (λ (xs : List Step). slice_get xs (length xs - 1) ≡ Some c.last_step.result) c.deref.ensures.value c.last_step.ensures in
    subst (λ (t : Retention). c.last_step.result.regime.days ≡ days_of t) c.self.view_is
    (sym (ap (λ (r : Regime). r.days) (last_regime_is _ c.self.inside.steps.items c.last_step.result last)))
