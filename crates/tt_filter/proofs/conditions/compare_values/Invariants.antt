use Rattle.std.proofs.Common.{map}
use Rattle.std.specs.List.{range_with_len}
use Rattle.tt_value.specs.trees.Predicates as spec
use Rattle.tt_filter.specs.RowTruths.{HasTruths}
use Rattle.tt_filter.specs.Sides.{value_in}
use Rattle.tt_filter.proofs.conditions.compare_values.Given as goal

abbrev pub invariant-loop-at : goal.invariant-loop-at
invariant-loop-at l = HasTruths (map (λ k. spec.compared l.sign (value_in l.left k) (value_in l.right k)) (range_with_len 0 l.at)) l.found
