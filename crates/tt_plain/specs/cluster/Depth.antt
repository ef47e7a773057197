-- How deep a table's parts lie over each other, and which of them a round takes.
use Rattle.std.specs.Prelude.{List, None, Option, [], find, fold, if◌then◌else◌, length, map, max, nat_lt, option_map, take, ℕ, ◌==◌, ◌∷◌}
use Rattle.tt_value.specs.declared.value.Value.{Value}
use Rattle.tt_layout.specs.Numbers.{joined}
use Rattle.tt_plain.specs.declared.ranges.KeyRange.{KeyRange}
use Rattle.tt_plain.specs.cluster.Ranges.{covering, gaps_of}

-- 0 of no parts, else the greatest number that cover one gap, and at least 1
unfoldable pub depth_of : List KeyRange → ℕ
depth_of [] = 0
depth_of (range ∷ ranges) = fold max 1 (map (λ gap. length (covering (range ∷ ranges) gap)) (gaps_of (range ∷ ranges)))

-- the first gap, in the order of keys, of the greatest depth
abbrev pub deepest_gap : List KeyRange → Option (Value × Value)
deepest_gap ranges = find (λ gap. length (covering ranges gap) == depth_of ranges) (gaps_of ranges)

abbrev pub part_numbers : List KeyRange → List ℕ
part_numbers ranges = joined [] (map (λ (range : KeyRange). range.part) ranges)

-- None where the depth is below 2; else, of the parts that cover that gap, the 16 with the least numbers, or all.
unfoldable pub pick_of : List KeyRange → Option (List ℕ)
pick_of ranges =
    if nat_lt (depth_of ranges) 2 then None
    else option_map (λ gap. take 16 (part_numbers (covering ranges gap))) (deepest_gap ranges)
