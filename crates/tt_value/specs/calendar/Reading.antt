-- The day and the moment that a text means where a date or a timestamp is wanted.
use Rattle.std.specs.Prelude.{ℕ, zero, suc, ◌+◌, ◌-◌, ◌*◌, Bool, ◌&&◌, ◌||◌, ◌==◌, nat_le, nat_lt, if◌then◌else◌, List, [], ◌∷◌, length, map, take, drop, fold, slice_index, Option, Some, None, option_and_then, ℤ, pos, neg_ℤ, ◌+ℤ◌, ◌*ℤ◌}
use Rattle.std.specs.List.{list_all}
use Rattle.std.specs.Char.{is_ascii_digit}
use Rattle.tt_value.specs.calendar.Calendar.{CivilDate, is_leap_year, days_in_month, Clock, seconds_of, milliseconds}

abbrev pub days_in_year : ℕ → ℕ
days_in_year year = if is_leap_year year then 366 else 365

-- the days of the years from 1 up to this one
abbrev pub days_before_year : ℕ → ℕ
days_before_year zero = 0
days_before_year (suc zero) = 0
days_before_year (suc (suc y)) = days_before_year (suc y) + days_in_year (suc y)

-- the days of the months of a year up to this one
abbrev pub days_before_month : ℕ → ℕ → ℕ
days_before_month year zero = 0
days_before_month year (suc zero) = 0
days_before_month year (suc (suc m)) = days_before_month year (suc m) + days_in_month year (suc m)

-- the day number of a date, 1970-01-01 being day 0
abbrev pub day_number : CivilDate → ℤ
day_number date = pos (days_before_year date.year + days_before_month date.year date.month + (date.day - 1)) +ℤ neg_ℤ (pos 719162)

abbrev pub is_civil : CivilDate → Bool
is_civil date =
    (nat_le 1 date.year && nat_le date.year 9999) && ((nat_le 1 date.month && nat_le date.month 12)
    && (nat_le 1 date.day && nat_le date.day (days_in_month date.year date.month)))

-- the number that digits stand for
abbrev pub digits_value : List ℕ → ℕ
digits_value digits = fold (λ value digit. 10 * value + (digit - 48)) 0 digits

-- `YYYY-MM-DD`
abbrev pub has_date_form : List ℕ → Bool
has_date_form text =
    length text == 10 && ((slice_index text 4 == 45 && slice_index text 7 == 45)
    && (list_all is_ascii_digit (take 4 text) && (list_all is_ascii_digit (take 2 (drop 5 text)) && list_all is_ascii_digit (drop 8 text))))

abbrev pub written_date : List ℕ → CivilDate
written_date text = record {
  year = digits_value (take 4 text);
  month = digits_value (take 2 (drop 5 text));
  day = digits_value (drop 8 text);
}

-- the day number of the date that the text is
unfoldable pub day_of : List ℕ → Option ℤ
day_of text = if has_date_form text && is_civil (written_date text) then Some (day_number (written_date text)) else None

-- ---- timestamps

-- `HH:MM:SS`
abbrev pub has_clock_form : List ℕ → Bool
has_clock_form text =
    length text == 8 && ((slice_index text 2 == 58 && slice_index text 5 == 58)
    && (list_all is_ascii_digit (take 2 text) && (list_all is_ascii_digit (take 2 (drop 3 text)) && list_all is_ascii_digit (drop 6 text))))

abbrev pub written_clock : List ℕ → Clock
written_clock text = record {
  hour = digits_value (take 2 text);
  minute = digits_value (take 2 (drop 3 text));
  second = digits_value (drop 6 text);
}

abbrev pub is_clock : Clock → Bool
is_clock clock = nat_le clock.hour 23 && (nat_le clock.minute 59 && nat_le clock.second 59)

-- the time of day that the text is
unfoldable pub clock_of : List ℕ → Option Clock
clock_of text = if has_clock_form text && is_clock (written_clock text) then Some (written_clock text) else None

-- the digits behind `.`, one to three of them
abbrev pub digits_behind : List ℕ → Option (List ℕ)
digits_behind digits =
    if (nat_le 1 (length digits) && nat_le (length digits) 3) && list_all is_ascii_digit digits then Some (map (λ d. d - 48) digits) else None

-- nothing, or `.` and digits
abbrev pub fraction_of : List ℕ → Option (List ℕ)
fraction_of [] = Some []
fraction_of (b ∷ digits) = if b == 46 then digits_behind digits else None

-- whether `Z` stands at the end, and what stands in front of it
abbrev pub has_zone : List ℕ → Bool
has_zone text = nat_lt 0 (length text) && slice_index text (length text - 1) == 90

abbrev pub without_zone : List ℕ → List ℕ
without_zone text = if has_zone text then take (length text - 1) text else text

-- between the date and the time of day a space or `T` stands
abbrev pub stands_between : ℕ → Bool
stands_between b = b == 32 || b == 84

abbrev pub moment_from : ℤ → Clock → List ℕ → ℤ
moment_from day clock digits = day *ℤ pos 86400000 +ℤ pos (1000 * seconds_of clock + milliseconds digits)

-- the moment of the timestamp that the text is, in milliseconds from the beginning of day 0
unfoldable pub timestamp_of : List ℕ → Option ℤ
timestamp_of text =
    option_and_then (λ day.
    option_and_then (λ clock.
    option_and_then (λ digits.
    if stands_between (slice_index text 10) then Some (moment_from day clock digits) else None)
    (fraction_of (without_zone (drop 19 text))))
    (clock_of (take 8 (drop 11 text))))
    (day_of (take 10 text))
