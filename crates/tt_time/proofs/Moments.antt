-- The moment of a timestamp.
use Rattle.std.proofs.Common.{◌≡◌, ℕ, ◌+◌, ◌*◌, ◌≤◌, List, [], ◌∷◌, ◌++◌, Option, Some, None, ◌⊎◌, sym, ap, ◌∙◌, arith, ℤ, pos, ◌+ℤ◌, ◌*ℤ◌, FitsSigned, w32, w64, to_z, of_z}
use Rattle.std.proofs.lemmas.Int.{to_z-of_z, to_z_pos}
use Rattle.jiff_core.proofs.SignedLemmas.{signed_arith}
use Rattle.tt_value.specs.calendar.Calendar.{IsDay, day_text, Clock, IsClock, clock_text, seconds_of, IsFraction, fraction_text, milliseconds, Timestamp, IsTimestamp, timestamp_text, moment_of}
use Rattle.tt_time.specs.Tails.{tail_at}
use Rattle.tt_time.proofs.Fractions.{tail_read, tail_written}
use Rattle.tt_time.proofs.Spelling.{day_one, clock_one}

abbrev pub moment_by : ℤ → ℕ → ℕ → ℤ
moment_by day seconds n = day *ℤ pos 86400000 +ℤ pos (1000 * seconds + n)

behind : (a b : ℕ) (r s : List ℕ) → a ∷ r ≡ b ∷ s → r ≡ s
behind a b r s e = cc

same_some : (a b : ℕ) (o : Option ℕ) → o ≡ Some a → o ≡ Some b → a ≡ b
same_some a b o e f = cc

abbrev pub clock_on : Timestamp → List ℕ
clock_on t = clock_text t.clock ++ (fraction_text t.fraction ++ t.zone)

-- a text is the text of timestamps of one moment alone
pub one_moment : (s t : Timestamp) → IsTimestamp s → IsTimestamp t → timestamp_text s ≡ timestamp_text t → moment_of s ≡ moment_of t
one_moment s t is it same =
    let days = day_one s.day t.day (s.between ∷ clock_on s) (t.between ∷ clock_on t) is.day it.day same in
    let clocks = clock_one s.clock t.clock (fraction_text s.fraction ++ s.zone) (fraction_text t.fraction ++ t.zone) is.clock it.clock (behind s.between t.between (clock_on s) (clock_on t) days.1) in
    let last = same_some _ _ _ (tail_read s.fraction s.zone is.fraction is.zone) (ap tail_at clocks.1 ∙ tail_read t.fraction t.zone it.fraction it.zone) in
    ap (λ (d : ℤ). moment_by d (seconds_of s.clock) (milliseconds s.fraction)) days.0 ∙ ap (λ (c : Clock). moment_by t.day (seconds_of c) (milliseconds s.fraction)) clocks.0 ∙ ap (moment_by t.day (seconds_of t.clock)) last

-- what was read is a timestamp
pub made_moment : (bytes r0 r1 r2 : List ℕ) (day : ℤ) (b seconds n : ℕ) → IsDay day → bytes ≡ day_text day ++ r0 → r0 ≡ b ∷ r1 → (b ≡ 32) ⊎ (b ≡ 84) → (clock : Clock) → IsClock clock → r1 ≡ clock_text clock ++ r2 → seconds ≡ seconds_of clock → tail_at r2 ≡ Some n
    → (t : Timestamp) × IsTimestamp t × (bytes ≡ timestamp_text t) × (moment_by day seconds n ≡ moment_of t)
made_moment bytes r0 r1 r2 day b seconds n within e0 e1 between clock is_clock e2 seconds_is e3 =
    let tail = tail_written r2 n e3 in (
      record { day = day; between = b; clock = clock; fraction = tail.fraction; zone = tail.zone },
      record { day = within; between = between; clock = is_clock; fraction = tail.fits; zone = tail.ends },
      e0 ∙ ap (λ (r : List ℕ). day_text day ++ r) (e1 ∙ ap (λ (r : List ℕ). b ∷ r) (e2 ∙ ap (λ (r : List ℕ). clock_text clock ++ r) tail.parts)),
      ap (λ (s : ℕ). moment_by day s n) seconds_is ∙ ap (moment_by day (seconds_of clock)) tail.value,
    )

-- where no fraction and no end stands, no timestamp stands
pub no_tail : (bytes r0 r1 r2 : List ℕ) (day : ℤ) (b : ℕ) (clock : Clock) → IsDay day → bytes ≡ day_text day ++ r0 → r0 ≡ b ∷ r1 → IsClock clock → r1 ≡ clock_text clock ++ r2 → None ≡ tail_at r2 → (t : Timestamp) → IsTimestamp t → bytes ≡ timestamp_text t → ⊥
no_tail bytes r0 r1 r2 day b clock within e0 e1 is_clock e2 e3 t it e =
    let days = day_one day t.day r0 (t.between ∷ clock_on t) within it.day (sym e0 ∙ e) in
    let clocks = clock_one clock t.clock r2 (fraction_text t.fraction ++ t.zone) is_clock it.clock (sym e2 ∙ behind b t.between r1 (clock_on t) (sym e1 ∙ days.1)) in
    let read : tail_at r2 ≡ Some (milliseconds t.fraction) = ap tail_at clocks.1 ∙ tail_read t.fraction t.zone it.fraction it.zone in
    absurd cc

-- ---- sizes

milliseconds_bound : (fraction : List ℕ) → IsFraction fraction → milliseconds fraction ≤ 999
milliseconds_bound [] fits = omega arith
milliseconds_bound (a ∷ []) fits = omega (arith, fits.1 0 0 (omega arith))
milliseconds_bound (a ∷ b ∷ []) fits = omega (arith, fits.1 0 0 (omega arith), fits.1 1 0 (omega arith))
milliseconds_bound (a ∷ b ∷ c ∷ []) fits = omega (arith, fits.1 0 0 (omega arith), fits.1 1 0 (omega arith), fits.1 2 0 (omega arith))
milliseconds_bound (a ∷ b ∷ c ∷ d ∷ rest) fits = absurd (omega (arith, fits.0))

pub seconds_bound : (clock : Clock) → IsClock clock → seconds_of clock ≤ 86399
seconds_bound clock is = omega (arith, is.hour, is.minute, is.second)

-- the moment fits, and so does each part of its sum
days_fit : (day : ℤ) → IsDay day → FitsSigned w64 (day *ℤ pos 86400000)
days_fit day within = omega (arith, signed_arith, within.0, within.1)

by_fits : (day : ℤ) (seconds n : ℕ) → IsDay day → seconds ≤ 86399 → n ≤ 999 → FitsSigned w64 (moment_by day seconds n)
by_fits day seconds n within ls ln = omega (arith, signed_arith, within.0, within.1, ls, ln)

pub moment_fits : (t : Timestamp) → IsTimestamp t → FitsSigned w64 (moment_of t)
moment_fits t is = by_fits t.day (seconds_of t.clock) (milliseconds t.fraction) is.day (seconds_bound t.clock is.clock) (milliseconds_bound t.fraction is.fraction)

pub cast_moment : (day : ℤ) (seconds n : ℕ) → IsDay day → seconds ≤ 86399 → n ≤ 999
    → to_z w64 (of_z w64 (to_z w64 (of_z w64 (to_z w64 (of_z w64 (to_z w32 (of_z w32 day))) *ℤ pos 86400000)) +ℤ to_z w64 (1000 * seconds + n))) ≡ moment_by day seconds n
cast_moment day seconds n within ls ln =
    let fits32 : FitsSigned w32 day = omega (arith, signed_arith, within.0, within.1) in
    let fits64 : FitsSigned w64 day = omega (arith, signed_arith, within.0, within.1) in
    let first : to_z w64 (of_z w64 (to_z w32 (of_z w32 day))) ≡ day = ap (λ (z : ℤ). to_z w64 (of_z w64 z)) (to_z-of_z w32 day fits32) ∙ to_z-of_z w64 day fits64 in
    let second : to_z w64 (of_z w64 (to_z w64 (of_z w64 (to_z w32 (of_z w32 day))) *ℤ pos 86400000)) ≡ day *ℤ pos 86400000 = ap (λ (z : ℤ). to_z w64 (of_z w64 (z *ℤ pos 86400000))) first ∙ to_z-of_z w64 (day *ℤ pos 86400000) (days_fit day within) in
    let third : to_z w64 (1000 * seconds + n) ≡ pos (1000 * seconds + n) = to_z_pos w64 (1000 * seconds + n) (omega arith) in
    ap (λ (z : ℤ). to_z w64 (of_z w64 (z +ℤ to_z w64 (1000 * seconds + n)))) second ∙ ap (λ (z : ℤ). to_z w64 (of_z w64 (day *ℤ pos 86400000 +ℤ z))) third ∙ to_z-of_z w64 (moment_by day seconds n) (by_fits day seconds n within ls ln)
