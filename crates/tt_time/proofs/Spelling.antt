-- A date or a timestamp is written in one way: what is written tells its parts.
use Rattle.std.proofs.Common.{◌≡◌, ℕ, ◌+◌, ◌/◌, ◌%◌, ◌≤◌, List, ◌∷◌, ◌++◌, ap, ◌∙◌, arith, ℤ}
use Rattle.tt_value.specs.calendar.Calendar.{CivilDate, IsCivil, IsDay, date_of, two_digits, four_digits, date_text, day_text, Clock, IsClock, clock_text}
use Rattle.tt_value.proofs.calendar.DayNumbers.{numbered, one_day, same_parts, short_months}

pub two_one : (a b : ℕ) (r s : List ℕ) → a ≤ 99 → b ≤ 99 → two_digits a ++ r ≡ two_digits b ++ s → (a ≡ b) × (r ≡ s)
two_one a b r s la lb e =
    let tens : 48 + a / 10 ≡ 48 + b / 10 = cc in
    let ones : 48 + a % 10 ≡ 48 + b % 10 = cc in
    let behind : r ≡ s = cc in
    (omega arith, behind)

pub four_one : (a b : ℕ) (r s : List ℕ) → a ≤ 9999 → b ≤ 9999 → four_digits a ++ r ≡ four_digits b ++ s → (a ≡ b) × (r ≡ s)
four_one a b r s la lb e =
    let high = two_one (a / 100) (b / 100) (two_digits (a % 100) ++ r) (two_digits (b % 100) ++ s) (omega arith) (omega arith) e in
    let low = two_one (a % 100) (b % 100) r s (omega arith) (omega arith) high.1 in
    (omega (arith, high.0, low.0), low.1)

pub cons_tail : (a b : ℕ) (r s : List ℕ) → a ∷ r ≡ b ∷ s → r ≡ s
cons_tail a b r s e = cc

-- a date with numbers that can be written
pub record IsWritable (d : CivilDate) : Type 0 where
  pub year : d.year ≤ 9999
  pub month : d.month ≤ 99
  pub day : d.day ≤ 99

pub civil_writable : (d : CivilDate) → IsCivil d → IsWritable d
civil_writable d civil = record { year = civil.year.1; month = omega (arith, civil.month.1); day = omega (arith, civil.day.1, (short_months d.year d.month).1) }

pub day_writable : (day : ℤ) → IsDay day → IsWritable (date_of day)
day_writable day within = civil_writable (date_of day) (numbered day within).0

-- the bytes behind the year, and behind the month
abbrev pub after_year : CivilDate → List ℕ → List ℕ
after_year d rest = two_digits d.month ++ (45 ∷ (two_digits d.day ++ rest))

pub date_one : (d e : CivilDate) (r s : List ℕ) → IsWritable d → IsWritable e → date_text d ++ r ≡ date_text e ++ s → (d ≡ e) × (r ≡ s)
date_one d e r s wd we same =
    let y = four_one d.year e.year (45 ∷ after_year d r) (45 ∷ after_year e s) wd.year we.year same in
    let m = two_one d.month e.month (45 ∷ (two_digits d.day ++ r)) (45 ∷ (two_digits e.day ++ s)) wd.month we.month (cons_tail 45 45 (after_year d r) (after_year e s) y.1) in
    let a = two_one d.day e.day r s wd.day we.day (cons_tail 45 45 (two_digits d.day ++ r) (two_digits e.day ++ s) m.1) in
    (same_parts d e y.0 m.0 a.0, a.1)

pub day_one : (a b : ℤ) (r s : List ℕ) → IsDay a → IsDay b → day_text a ++ r ≡ day_text b ++ s → (a ≡ b) × (r ≡ s)
day_one a b r s in_a in_b same =
    let dates = date_one (date_of a) (date_of b) r s (day_writable a in_a) (day_writable b in_b) same in
    (one_day a b in_a in_b dates.0, dates.1)

abbrev pub made_clock : ℕ → ℕ → ℕ → Clock
made_clock hour minute second = record { hour = hour; minute = minute; second = second }

pub clock_one : (c d : Clock) (r s : List ℕ) → IsClock c → IsClock d → clock_text c ++ r ≡ clock_text d ++ s → (c ≡ d) × (r ≡ s)
clock_one c d r s ic id same =
    let h = two_one c.hour d.hour (58 ∷ (two_digits c.minute ++ (58 ∷ (two_digits c.second ++ r)))) (58 ∷ (two_digits d.minute ++ (58 ∷ (two_digits d.second ++ s)))) (omega (arith, ic.hour)) (omega (arith, id.hour)) same in
    let m = two_one c.minute d.minute (58 ∷ (two_digits c.second ++ r)) (58 ∷ (two_digits d.second ++ s)) (omega (arith, ic.minute)) (omega (arith, id.minute)) (cons_tail 58 58 _ _ h.1) in
    let z = two_one c.second d.second r s (omega (arith, ic.second)) (omega (arith, id.second)) (cons_tail 58 58 _ _ m.1) in
    (ap (λ (x : ℕ). made_clock x c.minute c.second) h.0 ∙ ap (λ (x : ℕ). made_clock d.hour x c.second) m.0 ∙ ap (made_clock d.hour d.minute) z.0, z.1)

-- a time of day, from its parts one after the other
pub clock_parts : (h m s : ℕ) (bytes r0 r1 r2 r3 r4 : List ℕ) → bytes ≡ two_digits h ++ r0 → r0 ≡ 58 ∷ r1 → r1 ≡ two_digits m ++ r2 → r2 ≡ 58 ∷ r3 → r3 ≡ two_digits s ++ r4 → bytes ≡ clock_text (made_clock h m s) ++ r4
clock_parts h m s bytes r0 r1 r2 r3 r4 e0 e1 e2 e3 e4 =
    e0 ∙ ap (λ (r : List ℕ). two_digits h ++ r) (e1 ∙ ap (λ (r : List ℕ). 58 ∷ r) (e2 ∙ ap (λ (r : List ℕ). two_digits m ++ r) (e3 ∙ ap (λ (r : List ℕ). 58 ∷ r) e4)))
