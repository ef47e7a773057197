-- How wide the parts of a layout lie over the keys of the table.
use Rattle.std.specs.Prelude.{List, count_by, sum_by, ℕ, ◌-◌}
use Rattle.tt_value.specs.declared.value.Value.{Value}
use Rattle.tt_plain.specs.declared.ranges.KeyRange.{KeyRange}
use Rattle.tt_plain.specs.cluster.Ranges.{distinct_values, is_below}

-- how many of the distinct keys stand below a key
abbrev pub rank_among : List Value → Value → ℕ
rank_among keys key = count_by (λ other. is_below other key) (distinct_values keys)

-- The sum over the parts of the rank of the greatest key less that of the least; the keys are those of all rows of the table.
unfoldable pub width_of : List Value → List KeyRange → ℕ
width_of keys ranges = sum_by (λ (range : KeyRange). rank_among keys range.greatest - rank_among keys range.least) ranges
