use Rattle.std.proofs.Common.{ap, ◌∙◌}
use Rattle.tt_value.specs.trees.Predicates as spec
use Rattle.tt_value.specs.trees.Truths.{truth_of_bool}
use Rattle.tt_filter.specs.Sides.{value_in}
use Rattle.tt_filter.proofs.Merging.{one_more}
use Rattle.tt_filter.proofs.conditions.null_values.Goals as goal

pub loop-at-preserved : goal.loop-at-preserved
loop-at-preserved c =
    one_more (λ k. truth_of_bool (spec.is_null (value_in c.args.values.now k))) c.loop-at.at c.null.result c.loop-at.found _
    (c.null.ensures ∙ ap (λ v. truth_of_bool (spec.is_null v)) c.value_at.ensures)
    c.in_ok-push.ensures c.loop-at.invariant
