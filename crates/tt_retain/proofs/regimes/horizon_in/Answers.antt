use Rattle.std.proofs.Common.{◌≡◌, ℕ, ◌-◌, ◌<◌, suc, length, slice_index_or, ℤ, pos, ◌-ℤ◌, ◌≤ℤ◌, ◌<ℤ◌, to_z, of_z, w64, FitsSigned, ap, sym, subst, ◌∙◌, arith, rules}
use Rattle.std.specs.Int.{int_max}
use Rattle.std.proofs.lemmas.Int.{ints, to_z-of_z}
use Rattle.tt_retain.specs.declared.regimes.Step.{Step}
use Rattle.tt_retain.specs.Horizon.{retention_of}
use Rattle.tt_retain.proofs.StepLaws.{days_at, horizon_at, horizon_before, some_step}
use Rattle.tt_retain.proofs.regimes.horizon_in.Goals as goal

abbrev none : Step
none = record { regime = record { begun = 0; days = 0 }; floor = pos 0 }

pub returns-then-begun-eq0 : goal.returns-then-begun-eq0
returns-then-begun-eq0 c =
    let some : 0 < length c.args.steps.now = some_step c.args.steps.now c.requires.floors in
    let later : c.args.moment <ℤ pos (slice_index_or c.args.steps.now 0 none).regime.begun =
    subst (λ (z : ℤ). z <ℤ pos (slice_index_or c.args.steps.now 0 none).regime.begun) (to_z-of_z w64 c.args.moment c.ranges.moment)
    (c.begun_at-begun.ensures.to_come 0 none (omega arith) some) in
    let fits : FitsSigned w64 c.args.moment = c.ranges.moment in
    let whole : to_z w64 (of_z w64 (to_z w64 (of_z w64 c.args.moment) -ℤ pos 7776000000)) ≡ c.args.moment -ℤ pos 7776000000 = omega (arith, ints) in
    whole ∙ sym (horizon_before c.args.steps.now none c.args.moment c.requires.floors c.requires.order later)

pub limit-requires-clause-days : goal.limit-requires-clause-days
limit-requires-clause-days c = days_at 0 c.args.steps.now (c.begun_at-begun.result - 1) none c.requires.order (omega arith)

pub returns : goal.returns
returns c =
    let place : ℕ = c.begun_at-begun.result - 1 in
    let step : Step = slice_index_or c.args.steps.now place none in
    let kept : ℤ = pos (retention_of step.regime) in
    let now : to_z w64 (of_z w64 c.args.moment) ≡ c.args.moment = to_z-of_z w64 c.args.moment c.ranges.moment in
    let floor_fits : FitsSigned w64 step.floor = search rules in
    let limit_fits : FitsSigned w64 c.limit.result = search rules in
    let most_fits : FitsSigned w64 c.max.result = search rules in
    let limit : to_z w64 (of_z w64 c.limit.result) ≡ c.args.moment -ℤ kept =
    to_z-of_z w64 c.limit.result limit_fits ∙ c.limit.ensures ∙ ap (λ (z : ℤ). z -ℤ kept) now in
    let most : to_z w64 (of_z w64 c.max.result) ≡ int_max step.floor (c.args.moment -ℤ kept) =
    to_z-of_z w64 c.max.result most_fits ∙ c.max.ensures.value
    ∙ ap (λ (z : ℤ). int_max z (to_z w64 (of_z w64 c.limit.result))) (to_z-of_z w64 step.floor floor_fits)
    ∙ ap (int_max step.floor) limit in
    let begun : pos step.regime.begun ≤ℤ c.args.moment =
    subst (λ (z : ℤ). pos step.regime.begun ≤ℤ z) now (c.begun_at-begun.ensures.begun place none (omega arith) (omega arith)) in
    let to_come : suc place < length c.args.steps.now → c.args.moment <ℤ pos (slice_index_or c.args.steps.now (suc place) none).regime.begun =
    λ h. subst (λ (z : ℤ). z <ℤ pos (slice_index_or c.args.steps.now (suc place) none).regime.begun) now
    (c.begun_at-begun.ensures.to_come (suc place) none (omega arith) h) in
    most ∙ sym (horizon_at c.args.steps.now place none c.args.moment c.requires.floors c.requires.order (omega arith) begun to_come)
