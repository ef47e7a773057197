-- Parts of the reading of a date.
use Rattle.std.specs.Prelude.{ℕ, ℤ, Bool, ◌&&◌, ◌==◌, List, length, slice_index, Option, Some, None, if◌then◌else◌}
use Rattle.tt_value.specs.calendar.Calendar.{CivilDate}
use Rattle.tt_value.specs.calendar.Reading.{is_civil, day_number}

abbrev pub day_if_civil : CivilDate → Option ℤ
day_if_civil date = if is_civil date then Some (day_number date) else None

-- none where the years 1 to 9999 do not have the date
abbrev pub day_of_parts : ℕ → ℕ → ℕ → Option ℤ
day_of_parts year month day = day_if_civil (record { year = year; month = month; day = day })

-- ten bytes with the signs of `YYYY-MM-DD`
abbrev pub has_date_signs : List ℕ → Bool
has_date_signs text = length text == 10 && (slice_index text 4 == 45 && slice_index text 7 == 45)
