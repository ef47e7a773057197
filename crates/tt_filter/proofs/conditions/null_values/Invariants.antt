use Rattle.std.proofs.Common.{map}
use Rattle.std.specs.List.{range_with_len}
use Rattle.tt_value.specs.trees.Predicates as spec
use Rattle.tt_value.specs.trees.Truths.{truth_of_bool}
use Rattle.tt_filter.specs.RowTruths.{HasTruths}
use Rattle.tt_filter.specs.Sides.{value_in}
use Rattle.tt_filter.proofs.conditions.null_values.Given as goal

abbrev pub invariant-loop-at : goal.invariant-loop-at
invariant-loop-at l = HasTruths (map (λ k. truth_of_bool (spec.is_null (value_in l.values k))) (range_with_len 0 l.at)) l.found
