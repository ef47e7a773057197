-- The facts of parts, and those that an entry may add.
use Rattle.std.specs.List.{list_all, list_any, range_with_len}
use Rattle.std.specs.Prelude.{Bool, List, None, Option, Some, bytes_eq, length, map, nat_le, slice_get, sum_by, ℕ, ◌&&◌, ◌+◌, ◌-◌, ◌==◌}
use Rattle.tt_history.specs.declared.history.Added.{Added}
use Rattle.tt_plain.specs.declared.tally.Tally.{Tally}
use Rattle.tt_plain.specs.declared.tally.TallyPart.{TallyPart}

abbrev pub part_numbered : Tally → ℕ → Option TallyPart
part_numbered tally number = slice_get tally.parts (number - 1)

abbrev pub rows_of_part : Option TallyPart → ℕ
rows_of_part None = 0
rows_of_part (Some part) = part.rows

-- how many rows these parts have together
abbrev pub rows_in_parts : Tally → List ℕ → ℕ
rows_in_parts tally numbers = sum_by (λ number. rows_of_part (part_numbered tally number)) numbers

abbrev pub rows_in_added : List Added → ℕ
rows_in_added added = sum_by (λ (part : Added). part.rows) added

abbrev pub numbers_added : List Added → List ℕ
numbers_added added = map (λ (part : Added). part.number) added

-- a part has 1 to 65,536 rows and at least one byte
abbrev pub has_right_size : Added → Bool
has_right_size part = nat_le 1 part.rows && nat_le part.rows 65536 && nat_le 1 part.bytes

-- The parts that an entry adds have the next numbers, counted over all parts that ever were.
unfoldable pub are_next_parts : Tally → List Added → Bool
are_next_parts tally added =
    bytes_eq (numbers_added added) (range_with_len (length tally.parts + 1) (length added)) && list_all has_right_size added

abbrev pub is_stored : Tally → ℕ → Bool
is_stored tally number = list_any (λ (part : TallyPart). part.number == number && part.stored) tally.parts
