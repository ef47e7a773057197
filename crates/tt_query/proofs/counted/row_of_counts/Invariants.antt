use Rattle.std.proofs.Common.{◌≡◌, replicate}
use Rattle.tt_value.specs.declared.value.Value.TheVariants as value
use Rattle.tt_query.proofs.counted.row_of_counts.Given as goal

abbrev pub invariant-loop-item : goal.invariant-loop-item
invariant-loop-item l = l.values.items ≡ replicate l._item (value.Int l.number)
