use Rattle.std.proofs.Common.{◌≡◌, ◌≤◌, List, [], ◌∷◌, ◌++◌, ap, sym, subst, ◌∙◌, arith}
use Rattle.tt_retain.specs.declared.regimes.Step.{Step}
use Rattle.tt_retain.specs.Retention.{Retention, last_begun}
use Rattle.tt_retain.specs.Steps.{HaveRightFloors}
use Rattle.tt_retain.proofs.StepLaws.{follows_step}
use Rattle.tt_retain.proofs.regimes.Regimes.end.Goals as goal

pub invariant_of-self : goal.invariant_of-self
invariant_of-self c =
    let step : Step = c.next_step-step.result in
    let all : c.push.new.self.items ≡ c.deref.result.now ++ step ∷ [] =
    c.in-Ok.ensures.items ∙ ap (λ (xs : List Step). xs ++ step ∷ []) (sym c.deref.ensures.value) in (
      follows_step c.self.inside.steps.items c.push.new.self.items step c.args.moment 0
          (all ∙ ap (λ (xs : List Step). xs ++ step ∷ []) c.deref.ensures.value) c.next_step-step.ensures.regime c.self.invariant.0
          (subst (λ (t : Retention). last_begun t ≤ c.args.moment) (sym c.self.view_is) c.requires.later)
          c.requires.moment (omega arith),
      subst HaveRightFloors (sym all) c.next_step-step.ensures.floors,
      λ h. absurd (cc),
    )
