use Rattle.std.proofs.Common.{ap, ◌∙◌}
use Rattle.tt_value.specs.trees.Predicates as spec
use Rattle.tt_filter.specs.Givens.{given_in}
use Rattle.tt_filter.specs.Sides.{value_in}
use Rattle.tt_filter.proofs.Merging.{one_more}
use Rattle.tt_filter.proofs.conditions.compare_values.Goals as goal

pub loop-at-preserved : goal.loop-at-preserved
loop-at-preserved c =
    one_more (λ k. spec.compared c.args.sign (value_in c.args.left.now k) (value_in c.args.right.now k)) c.loop-at.at c.compared-truth.result c.loop-at.found _
    (c.compared-truth.ensures ∙ ap (λ v. spec.compared c.args.sign v (given_in c.value_at-in-loop-at.result)) c.value_at.ensures ∙ ap (spec.compared c.args.sign (value_in c.args.left.now c.loop-at.at)) c.value_at-in-loop-at.ensures)
    c.in_ok-push.ensures c.loop-at.invariant
