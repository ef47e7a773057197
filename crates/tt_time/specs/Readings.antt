-- What a text means as a day or a moment, and what stands at its front.
use Rattle.std.specs.Prelude.{◌≡◌, ◌≢◌, ℕ, ◌+◌, ◌≤◌, List, ◌∷◌, ◌++◌, ℤ}
use Rattle.tt_value.specs.calendar.Calendar.{CivilDate, IsDay, date_of, day_text, two_digits, four_digits, Timestamp, IsTimestamp, timestamp_text, moment_of, Clock, IsClock, clock_text, seconds_of}

-- ---- at the front of a text

-- a digit, and then the rest
abbrev pub BeginsWithDigit : List ℕ → ℕ → List ℕ → Type 0
BeginsWithDigit bytes digit rest = (digit ≤ 9) × (bytes ≡ (48 + digit) ∷ rest)

abbrev pub BeginsWithNoDigit : List ℕ → Type 0
BeginsWithNoDigit bytes = (n : ℕ) (rest : List ℕ) → n ≤ 9 → bytes ≢ (48 + n) ∷ rest

-- a number of two digits, and then the rest
abbrev pub BeginsWithTwoDigits : List ℕ → ℕ → List ℕ → Type 0
BeginsWithTwoDigits bytes n rest = (n ≤ 99) × (bytes ≡ two_digits n ++ rest)

abbrev pub BeginsWithoutTwoDigits : List ℕ → Type 0
BeginsWithoutTwoDigits bytes = (n : ℕ) (rest : List ℕ) → n ≤ 99 → bytes ≢ two_digits n ++ rest

-- a number of four digits, and then the rest
abbrev pub BeginsWithFourDigits : List ℕ → ℕ → List ℕ → Type 0
BeginsWithFourDigits bytes n rest = (n ≤ 9999) × (bytes ≡ four_digits n ++ rest)

abbrev pub BeginsWithoutFourDigits : List ℕ → Type 0
BeginsWithoutFourDigits bytes = (n : ℕ) (rest : List ℕ) → n ≤ 9999 → bytes ≢ four_digits n ++ rest

-- the date of this day, and then the rest
abbrev pub BeginsWithDay : List ℕ → ℤ → List ℕ → Type 0
BeginsWithDay bytes day rest = IsDay day × (bytes ≡ day_text day ++ rest)

abbrev pub BeginsWithNoDay : List ℕ → Type 0
BeginsWithNoDay bytes = (day : ℤ) (rest : List ℕ) → IsDay day → bytes ≢ day_text day ++ rest

-- a time of day, so many seconds from midnight, and then the rest
abbrev pub BeginsWithClock : List ℕ → ℕ → List ℕ → Type 0
BeginsWithClock bytes seconds rest = (clock : Clock) × IsClock clock × (bytes ≡ clock_text clock ++ rest) × (seconds ≡ seconds_of clock)

abbrev pub BeginsWithNoClock : List ℕ → Type 0
BeginsWithNoClock bytes = (clock : Clock) (rest : List ℕ) → IsClock clock → bytes ≢ clock_text clock ++ rest

-- ---- days

-- the day of the years 1 to 9999 that has this date
abbrev pub IsDayOf : CivilDate → ℤ → Type 0
IsDayOf date day = IsDay day × (date_of day ≡ date)

abbrev pub HasNoDay : CivilDate → Type 0
HasNoDay date = (day : ℤ) → IsDay day → date_of day ≢ date

-- the text is the date of this day
abbrev pub MeansDay : List ℕ → ℤ → Type 0
MeansDay text day = IsDay day × (text ≡ day_text day)

-- ---- moments

-- the text is a timestamp of this moment
abbrev pub MeansMoment : List ℕ → ℤ → Type 0
MeansMoment text moment = (t : Timestamp) × IsTimestamp t × (text ≡ timestamp_text t) × (moment ≡ moment_of t)

-- whatever timestamp the text is, this holds of it
abbrev pub IfTimestamp : List ℕ → (Timestamp → Type 0) → Type 0
IfTimestamp text P = (t : Timestamp) → IsTimestamp t → text ≡ timestamp_text t → P t

abbrev pub IsNoTimestamp : List ℕ → Type 0
IsNoTimestamp text = (t : Timestamp) → IsTimestamp t → text ≢ timestamp_text t
