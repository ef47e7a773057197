use Rattle.std.proofs.Common.{ap, ◌∙◌}
use Rattle.tt_value.specs.trees.Predicates as spec
use Rattle.tt_filter.specs.Sides.{value_in}
use Rattle.tt_filter.proofs.Merging.{one_more}
use Rattle.tt_filter.proofs.conditions.begin_values.Goals as goal

pub loop-at-preserved : goal.loop-at-preserved
loop-at-preserved c =
    one_more (λ k. spec.begins (value_in c.args.values.now k) c.args.front.now) c.loop-at.at c.begins.result c.loop-at.found _
    (c.begins.ensures ∙ ap (λ v. spec.begins v c.args.front.now) c.value_at.ensures)
    c.in_ok-push.ensures c.loop-at.invariant
