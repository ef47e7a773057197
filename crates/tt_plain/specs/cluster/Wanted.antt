-- Which table a round goes to.
use Rattle.std.specs.Prelude.{List, None, Option, Some, [], filter_map, if◌then◌else◌, map, option_map, slice_get, unwrap_or, ℕ, ◌-◌}
use Rattle.tt_value.specs.declared.value.Row.{Row}
use Rattle.tt_plain.specs.declared.ranges.KeyRange.{KeyRange}
use Rattle.tt_plain.specs.declared.store.Plain.{Plain}
use Rattle.tt_plain.specs.declared.store.PlainTable.{PlainTable}
use Rattle.tt_plain.specs.declared.tally.Tally.{Tally}
use Rattle.tt_plain.specs.cluster.Depth.{pick_of}
use Rattle.tt_plain.specs.cluster.Ranges.{range_of}
use Rattle.tt_plain.specs.effect.Round.{may_be_reclustered}
use Rattle.tt_plain.specs.refusal.{head_of}
use Rattle.tt_plain.specs.tally.Layouts.{current_parts}

-- the ranges of the parts of a table's current layout, by these contents; none where it has no key
abbrev pub ranges_by_key : List (List Row) → List ℕ → Option ℕ → List KeyRange
ranges_by_key contents parts None = []
ranges_by_key contents parts (Some key) = map (λ number. range_of number key (unwrap_or (slice_get contents (number - 1)) [])) parts

abbrev pub table_ranges : List (List Row) → Tally → PlainTable → List KeyRange
table_ranges contents tally table = ranges_by_key contents (current_parts tally table.number) table.key

-- what a round would take of a table
abbrev pub round_in : List (List Row) → Plain → PlainTable → Option (ℕ × List ℕ)
round_in contents store table =
    if may_be_reclustered store table then option_map (λ parts. (table.number, parts)) (pick_of (table_ranges contents store.tally table)) else None

-- the least-numbered table that may be reclustered and has a pick, with the pick
unfoldable pub round_wanted : List (List Row) → Plain → Option (ℕ × List ℕ)
round_wanted contents store = head_of (filter_map (round_in contents store) store.tables)
