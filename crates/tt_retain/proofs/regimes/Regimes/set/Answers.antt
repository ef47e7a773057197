use Rattle.std.proofs.Common.{◌≡◌, ◌≤◌, List, [], ◌∷◌, ◌++◌, ap, sym, subst, ◌∙◌, arith}
use Rattle.tt_retain.specs.declared.regimes.Step.{Step}
use Rattle.tt_retain.specs.Retention.{Retention, last_begun}
use Rattle.tt_retain.specs.Steps.{HaveRightFloors}
use Rattle.tt_retain.proofs.StepLaws.{follows_step}
use Rattle.tt_retain.proofs.regimes.Regimes.set.Goals as goal

pub invariant_of-self-2 : goal.invariant_of-self-2
invariant_of-self-2 c =
    let step : Step = c.next_step-step.result in
    let before : c.deref.result.now ≡ c.self.inside.steps.items = c.deref.ensures.value ∙ c.reserve.ensures.items in
    let all : c.push.new.self.items ≡ c.deref.result.now ++ step ∷ [] =
    c.in-Ok.ensures.items ∙ ap (λ (xs : List Step). xs ++ step ∷ []) (sym c.deref.ensures.value) in (
      follows_step c.self.inside.steps.items c.push.new.self.items step c.args.moment c.args.days
          (all ∙ ap (λ (xs : List Step). xs ++ step ∷ []) before) c.next_step-step.ensures.regime c.self.invariant.0
          (subst (λ (t : Retention). last_begun t ≤ c.args.moment) (sym c.self.view_is) c.requires.later)
          c.requires.moment c.requires.days,
      subst HaveRightFloors (sym all) c.next_step-step.ensures.floors,
      λ h. omega (arith, c.in_ok-reserve.ensures.ok, c.in-Ok.ensures.len, c.in-Ok.ensures.capacity),
    )
