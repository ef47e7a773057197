-- The ranges of keys of parts: which overlap, and the gaps between their ends.
use Rattle.std.specs.Ordering.{is_lt}
use Rattle.std.specs.Prelude.{Bool, List, Some, [], drop, filter, flat_map, fold, map, not, zip, ℕ, ◌&&◌, ◌++◌, ◌∷◌}
use Rattle.tt_value.specs.declared.value.Row.{Row}
use Rattle.tt_value.specs.declared.value.Value.{Value}
use Rattle.tt_value.specs.values.Order.{value_cmp}
use Rattle.tt_sql.specs.meaning.Queries.{best_of, greater, lesser, value_at}
use Rattle.tt_plain.specs.declared.ranges.KeyRange.{KeyRange}

-- the key of a row is the value in the column of this place
abbrev pub keys_of : ℕ → List Row → List Value
keys_of key rows = map (value_at (Some key)) rows

-- from the least to the greatest key of a part's rows; NULL is the greatest value
abbrev pub range_of : ℕ → ℕ → List Row → KeyRange
range_of part key rows = record { part = part; least = best_of lesser (keys_of key rows); greatest = best_of greater (keys_of key rows) }

abbrev pub is_below : Value → Value → Bool
is_below a b = is_lt (value_cmp a b)

abbrev pub is_at_most : Value → Value → Bool
is_at_most a b = not (is_below b a)

-- the greater least key is below the lesser greatest one
abbrev pub overlap : KeyRange → KeyRange → Bool
overlap a b = is_below (greater a.least b.least) (lesser a.greatest b.greatest)

-- an ascending list with a value in its place, once
abbrev pub with_value : List Value → Value → List Value
with_value values v = filter (λ w. is_below w v) values ++ v ∷ filter (λ w. is_below v w) values

-- values in ascending order, each once
abbrev pub distinct_values : List Value → List Value
distinct_values values = fold with_value [] values

abbrev pub ends_of : List KeyRange → List Value
ends_of ranges = distinct_values (flat_map (λ (range : KeyRange). range.least ∷ range.greatest ∷ []) ranges)

-- from each distinct end to the next
abbrev pub gaps_of : List KeyRange → List (Value × Value)
gaps_of ranges = zip (ends_of ranges) (drop 1 (ends_of ranges))

abbrev pub covers : Value × Value → KeyRange → Bool
covers gap range = is_at_most range.least gap.0 && is_at_most gap.1 range.greatest

-- the ranges that cover a gap
abbrev pub covering : List KeyRange → Value × Value → List KeyRange
covering ranges gap = filter (covers gap) ranges
