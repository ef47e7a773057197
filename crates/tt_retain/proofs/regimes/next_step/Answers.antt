use Rattle.std.proofs.Common.{◌≡◌, ℤ, pos, ◌-ℤ◌, FitsSigned, to_z, of_z, w64, ap, ◌∙◌, arith, rules}
use Rattle.std.specs.Int.{int_max}
use Rattle.std.proofs.lemmas.Int.{to_z-of_z, to_z_pos}
use Rattle.tt_retain.specs.Horizon.{retention_of}
use Rattle.tt_retain.proofs.StepLaws.{days_last, HaveRightFloors-more}
use Rattle.tt_retain.proofs.regimes.next_step.Goals as goal

pub limit-left-requires-clause-days : goal.limit-left-requires-clause-days
limit-left-requires-clause-days c = days_last _ _ c.last_step-last.ensures c.requires.order

pub returns-clause-floors : goal.returns-clause-floors
returns-clause-floors c =
    let floor : ℤ = c.last_step-last.result.floor in
    let kept : ℤ = pos (retention_of c.last_step-last.result.regime) in
    let floor_fits : FitsSigned w64 floor = search rules in
    let left_fits : FitsSigned w64 c.limit-left.result = search rules in
    let most_fits : FitsSigned w64 c.max.result = search rules in
    let begun : to_z w64 c.args.regime.begun ≡ pos c.args.regime.begun = to_z_pos w64 c.args.regime.begun (omega arith) in
    let left : to_z w64 (of_z w64 c.limit-left.result) ≡ pos c.args.regime.begun -ℤ kept =
    to_z-of_z w64 c.limit-left.result left_fits ∙ c.limit-left.ensures ∙ ap (λ (z : ℤ). z -ℤ kept) begun in
    let most : to_z w64 (of_z w64 c.max.result) ≡ int_max floor (pos c.args.regime.begun -ℤ kept) =
    to_z-of_z w64 c.max.result most_fits ∙ c.max.ensures.value
    ∙ ap (λ (z : ℤ). int_max z (to_z w64 (of_z w64 c.limit-left.result))) (to_z-of_z w64 floor floor_fits)
    ∙ ap (int_max floor) left in
    HaveRightFloors-more c.args.steps.now c.last_step-last.result _ c.last_step-last.ensures c.requires.floors most
