-- The values of a report's rows.
use Rattle.std.specs.Prelude.{List, map, min, pos, ℕ, ◌-◌, ◌^◌}
use Rattle.tt_value.specs.declared.value.Row.{Row}
use Rattle.tt_value.specs.declared.value.Value.{Value}
use Rattle.tt_value.specs.declared.value.Value.TheVariants as value

abbrev pub row_of : List Value → Row
row_of values = record { values = values }

-- In the rows of a reply no number is above the greatest INT.
abbrev pub number_value : ℕ → Value
number_value n = value.Int (pos (min n (2 ^ 63 - 1)))

abbrev pub numbers_row : List ℕ → Row
numbers_row numbers = row_of (map number_value numbers)
