use Rattle.std.proofs.Common.{map}
use Rattle.std.specs.List.{range_with_len}
use Rattle.tt_value.specs.trees.Predicates as spec
use Rattle.tt_filter.specs.RowTruths.{HasTruths}
use Rattle.tt_filter.specs.Sides.{value_in}
use Rattle.tt_filter.proofs.conditions.begin_values.Given as goal

abbrev pub invariant-loop-at : goal.invariant-loop-at
invariant-loop-at l = HasTruths (map (λ k. spec.begins (value_in l.values k) l.front) (range_with_len 0 l.at)) l.found
