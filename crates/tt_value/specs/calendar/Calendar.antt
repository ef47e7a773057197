-- The calendar, and how dates and timestamps are written.
use Rattle.std.specs.Prelude.{◌≡◌, ℕ, zero, suc, ◌+◌, ◌*◌, ◌/◌, ◌%◌, ◌≤◌, Bool, not, ◌&&◌, ◌||◌, ◌==◌, nat_lt, if◌then◌else◌, List, [], ◌∷◌, ◌++◌, length, slice_index, map, All, ◌⊎◌, ℤ, pos, neg_ℤ, ◌+ℤ◌, ◌*ℤ◌, ◌≤ℤ◌, unsigned_abs}

-- ---- the calendar

-- a year, a month and a day of the month, each from 1
pub record CivilDate : Type 0 where
  pub year : ℕ
  pub month : ℕ
  pub day : ℕ

-- every fourth year, but of the centuries only every fourth
abbrev pub is_leap_year : ℕ → Bool
is_leap_year year = (year % 4 == 0) && (not (year % 100 == 0) || (year % 400 == 0))

-- thirty days have September, April, June and November
abbrev pub days_in_month : ℕ → ℕ → ℕ
days_in_month year month =
    if month == 2 then (if is_leap_year year then 29 else 28)
    else (if month == 4 || month == 6 || month == 9 || month == 11 then 30 else 31)

-- a day of the years 1 to 9999
pub record IsCivil (date : CivilDate) : Type 0 where
  pub year : (1 ≤ date.year) × (date.year ≤ 9999)
  pub month : (1 ≤ date.month) × (date.month ≤ 12)
  pub day : (1 ≤ date.day) × (date.day ≤ days_in_month date.year date.month)

-- the day after
abbrev pub next_date : CivilDate → CivilDate
next_date date =
    if nat_lt date.day (days_in_month date.year date.month) then record { year = date.year; month = date.month; day = date.day + 1 }
    else (if nat_lt date.month 12 then record { year = date.year; month = date.month + 1; day = 1 }
    else record { year = date.year + 1; month = 1; day = 1 })

-- the date so many days after 1 January of the year 1
unfoldable pub date_after : ℕ → CivilDate
date_after zero = record { year = 1; month = 1; day = 1 }
date_after (suc days) = next_date (date_after days)

-- A date is held as a day number. 1 January of the year 1 is day -719162, so 1 January 1970 is day 0.
abbrev pub date_of : ℤ → CivilDate
date_of day = date_after (unsigned_abs (day +ℤ pos 719162))

-- the days of the years 1 to 9999
abbrev pub IsDay : ℤ → Type 0
IsDay day = (neg_ℤ (pos 719162) ≤ℤ day) × (day ≤ℤ pos 2932896)

-- ---- dates

abbrev pub two_digits : ℕ → List ℕ
two_digits n = (48 + n / 10) ∷ (48 + n % 10) ∷ []

abbrev pub four_digits : ℕ → List ℕ
four_digits n = two_digits (n / 100) ++ two_digits (n % 100)

-- `YYYY-MM-DD`
abbrev pub date_text : CivilDate → List ℕ
date_text date = four_digits date.year ++ (45 ∷ (two_digits date.month ++ (45 ∷ two_digits date.day)))

abbrev pub day_text : ℤ → List ℕ
day_text day = date_text (date_of day)

-- ---- timestamps

pub record Clock : Type 0 where
  pub hour : ℕ
  pub minute : ℕ
  pub second : ℕ

pub record IsClock (clock : Clock) : Type 0 where
  pub hour : clock.hour ≤ 23
  pub minute : clock.minute ≤ 59
  pub second : clock.second ≤ 59

-- `HH:MM:SS`
abbrev pub clock_text : Clock → List ℕ
clock_text clock = two_digits clock.hour ++ (58 ∷ (two_digits clock.minute ++ (58 ∷ two_digits clock.second)))

-- seconds from midnight
abbrev pub seconds_of : Clock → ℕ
seconds_of clock = 60 * (60 * clock.hour + clock.minute) + clock.second

-- nothing, or `.` and digits
abbrev pub fraction_text : List ℕ → List ℕ
fraction_text [] = []
fraction_text (digit ∷ digits) = 46 ∷ map (λ d. 48 + d) (digit ∷ digits)

-- at most three digits, of which those that are left out are zeros
abbrev pub IsFraction : List ℕ → Type 0
IsFraction digits = (length digits ≤ 3) × All (λ d. d ≤ 9) digits

abbrev pub milliseconds : List ℕ → ℕ
milliseconds digits = 100 * slice_index digits 0 + 10 * slice_index digits 1 + slice_index digits 2

-- the parts of a timestamp: between the date and the time of day a space or `T` stands, at the end `Z` or nothing
pub record Timestamp : Type 0 where
  pub day : ℤ
  pub between : ℕ
  pub clock : Clock
  pub fraction : List ℕ
  pub zone : List ℕ

pub record IsTimestamp (t : Timestamp) : Type 0 where
  pub day : IsDay t.day
  pub between : (t.between ≡ 32) ⊎ (t.between ≡ 84)
  pub clock : IsClock t.clock
  pub fraction : IsFraction t.fraction
  pub zone : (t.zone ≡ []) ⊎ (t.zone ≡ 90 ∷ [])

abbrev pub timestamp_text : Timestamp → List ℕ
timestamp_text t = day_text t.day ++ (t.between ∷ (clock_text t.clock ++ (fraction_text t.fraction ++ t.zone)))

-- milliseconds from the beginning of day 0
abbrev pub moment_of : Timestamp → ℤ
moment_of t = t.day *ℤ pos 86400000 +ℤ pos (1000 * seconds_of t.clock + milliseconds t.fraction)
