-- What may follow the time of day: read from left to right, it is what was written.
use Rattle.std.proofs.Common.{◌≡◌, ◌≢◌, ℕ, ◌+◌, ◌*◌, ◌-◌, ◌≤◌, true, false, List, [], ◌∷◌, ◌++◌, Some, None, All, ◌⊎◌, refl, sym, ap, ◌∙◌, arith, inl, inr, ◌==◌}
use Rattle.std.specs.Char.{is_ascii_digit}
use Rattle.std.proofs.lemmas.Bool.{cases_Bool, eqb-true}
use Rattle.std.proofs.lemmas.Bool.Decides.{nat_tests}
use Rattle.std.proofs.lemmas.List.Elements.{All-from_recursion}
use Rattle.tt_value.specs.calendar.Calendar.{IsFraction, fraction_text, milliseconds}
use Rattle.tt_time.specs.Tails.{end_at, zone_at, third_digit_at, second_digit_at, first_digit_at, tail_at}

digit_back : (b : ℕ) → is_ascii_digit b ≡ true → (b - 48 ≤ 9) × (48 + (b - 48) ≡ b)
digit_back b digit =
    let low : 48 ≤ b = grind (arith, nat_tests) in
    let high : b ≤ 57 = grind (arith, nat_tests) in
    (omega arith, omega arith)

pub digit_is : (n : ℕ) → n ≤ 9 → (is_ascii_digit (48 + n) ≡ true) × (48 + n - 48 ≡ n)
digit_is n le = (grind (arith, nat_tests), omega arith)

-- no digit stands at the front
abbrev pub NoDigit : List ℕ → Type 0
NoDigit bytes = (n : ℕ) (rest : List ℕ) → n ≤ 9 → bytes ≢ (48 + n) ∷ rest

no_digit : (b : ℕ) (rest : List ℕ) → NoDigit (b ∷ rest) → is_ascii_digit b ≡ false
no_digit b rest none = elim (cases_Bool (is_ascii_digit b)) [
  | inl digit ↦ absurd (none (b - 48) rest (digit_back b digit).0 (ap (λ (x : ℕ). x ∷ rest) (sym (digit_back b digit).1)))
  | inr other ↦ other
]

pub third_none : (bytes : List ℕ) (read : ℕ) → NoDigit bytes → third_digit_at bytes read ≡ zone_at bytes read
third_none [] read none = refl
third_none (b ∷ rest) read none = rw (no_digit b rest none) refl

pub second_none : (bytes : List ℕ) (read : ℕ) → NoDigit bytes → second_digit_at bytes read ≡ zone_at bytes read
second_none [] read none = refl
second_none (b ∷ rest) read none = rw (no_digit b rest none) refl

pub first_none : (bytes : List ℕ) → NoDigit bytes → first_digit_at bytes ≡ None
first_none [] none = refl
first_none (b ∷ rest) none = rw (no_digit b rest none) refl

-- ---- what is written is read

abbrev pub IsZone : List ℕ → Type 0
IsZone zone = (zone ≡ []) ⊎ (zone ≡ 90 ∷ [])

zone_read : (zone : List ℕ) (read : ℕ) → IsZone zone → zone_at zone read ≡ Some read
zone_read zone read (inl none) = rw none refl
zone_read zone read (inr z) = rw z refl

zone_no_digit : (zone : List ℕ) → IsZone zone → NoDigit zone
zone_no_digit zone (inl none) n rest le e = let f : [] ≡ (48 + n) ∷ rest = sym none ∙ e in cc
zone_no_digit zone (inr z) n rest le e =
    let f : 90 ∷ [] ≡ (48 + n) ∷ rest = sym z ∙ e in
    let g : 90 ≡ 48 + n = cc in
    absurd (omega arith)

tail_zone : (zone : List ℕ) → IsZone zone → tail_at zone ≡ Some 0
tail_zone zone (inl none) = rw none refl
tail_zone zone (inr z) = rw z refl

pub tail_read : (fraction zone : List ℕ) → IsFraction fraction → IsZone zone → tail_at (fraction_text fraction ++ zone) ≡ Some (milliseconds fraction)
tail_read [] zone fits is = tail_zone zone is
tail_read (a ∷ []) zone fits is =
    let da = digit_is a (fits.1 0 0 (omega arith)) in
    rw (da.0, da.1, second_none zone (100 * a) (zone_no_digit zone is), zone_read zone (100 * a) is) (ap (λ (n : ℕ). Some n) (omega arith))
tail_read (a ∷ b ∷ []) zone fits is =
    let da = digit_is a (fits.1 0 0 (omega arith)) in
    let db = digit_is b (fits.1 1 0 (omega arith)) in
    rw (da.0, da.1, db.0, db.1, third_none zone (100 * a + 10 * b) (zone_no_digit zone is), zone_read zone (100 * a + 10 * b) is) (ap (λ (n : ℕ). Some n) (omega arith))
tail_read (a ∷ b ∷ c ∷ []) zone fits is =
    let da = digit_is a (fits.1 0 0 (omega arith)) in
    let db = digit_is b (fits.1 1 0 (omega arith)) in
    let dc = digit_is c (fits.1 2 0 (omega arith)) in
    rw (da.0, da.1, db.0, db.1, dc.0, dc.1, zone_read zone (100 * a + 10 * b + c) is) refl
tail_read (a ∷ b ∷ c ∷ d ∷ rest) zone fits is = absurd (omega (arith, fits.0))

-- ---- what is read was written

-- a fraction and an end, of so many milliseconds
pub record IsTail (bytes : List ℕ) (n : ℕ) : Type 0 where
  pub fraction : List ℕ
  pub zone : List ℕ
  pub fits : IsFraction fraction
  pub ends : IsZone zone
  pub parts : bytes ≡ fraction_text fraction ++ zone
  pub value : n ≡ milliseconds fraction

end_written : (b : ℕ) (rest : List ℕ) (read n : ℕ) → b ≡ 90 → end_at rest read ≡ Some n → IsZone (b ∷ rest) × (n ≡ read)
end_written b [] read n z e = (inr (ap (λ (x : ℕ). x ∷ []) z), cc)
end_written b (c ∷ rest) read n z e = absurd cc

zone_written : (bytes : List ℕ) (read n : ℕ) → zone_at bytes read ≡ Some n → IsZone bytes × (n ≡ read)
zone_written [] read n e = (inl refl, cc)
zone_written (b ∷ rest) read n e = elim (cases_Bool (b == 90)) [
  | inl z ↦ end_written b rest read n (eqb-true b 90 z) (rw z at e)
  | inr other ↦ (let f : None ≡ Some n = rw other at e in absurd cc)
]

-- digits that fit
none_fit : All (λ (d : ℕ). d ≤ 9) []
none_fit k d lt = absurd (omega arith)

one_fit : (a : ℕ) → a ≤ 9 → All (λ (d : ℕ). d ≤ 9) (a ∷ [])
one_fit a la = All-from_recursion (λ (d : ℕ). d ≤ 9) (a ∷ []) (la, tt)

two_fit : (a b : ℕ) → a ≤ 9 → b ≤ 9 → All (λ (d : ℕ). d ≤ 9) (a ∷ b ∷ [])
two_fit a b la lb = All-from_recursion (λ (d : ℕ). d ≤ 9) (a ∷ b ∷ []) (la, (lb, tt))

three_fit : (a b c : ℕ) → a ≤ 9 → b ≤ 9 → c ≤ 9 → All (λ (d : ℕ). d ≤ 9) (a ∷ b ∷ c ∷ [])
three_fit a b c la lb lc = All-from_recursion (λ (d : ℕ). d ≤ 9) (a ∷ b ∷ c ∷ []) (la, (lb, (lc, tt)))

-- one digit in front, of a value
digit_front : (b : ℕ) (rest : List ℕ) → is_ascii_digit b ≡ true → b ∷ rest ≡ (48 + (b - 48)) ∷ rest
digit_front b rest digit = ap (λ (x : ℕ). x ∷ rest) (sym (digit_back b digit).1)

third_written : (bytes : List ℕ) (a b n : ℕ) → a ≤ 9 → b ≤ 9 → third_digit_at bytes (100 * a + 10 * b) ≡ Some n → IsTail (46 ∷ (48 + a) ∷ (48 + b) ∷ bytes) n
third_written [] a b n la lb e = record { fraction = a ∷ b ∷ []; zone = []; fits = (omega arith, two_fit a b la lb); ends = inl refl; parts = refl; value = (let f : n ≡ 100 * a + 10 * b = cc in omega arith) }
third_written (c ∷ rest) a b n la lb e = elim (cases_Bool (is_ascii_digit c)) [
  | inl digit ↦ (let z = zone_written rest (100 * a + 10 * b + (c - 48)) n (rw digit at e) in record { fraction = a ∷ b ∷ (c - 48) ∷ []; zone = rest; fits = (omega arith, three_fit a b (c - 48) la lb (digit_back c digit).0); ends = z.0; parts = ap (λ (xs : List ℕ). 46 ∷ (48 + a) ∷ (48 + b) ∷ xs) (digit_front c rest digit); value = z.1 })
  | inr other ↦ (let z = zone_written (c ∷ rest) (100 * a + 10 * b) n (rw other at e) in record { fraction = a ∷ b ∷ []; zone = c ∷ rest; fits = (omega arith, two_fit a b la lb); ends = z.0; parts = refl; value = omega (arith, z.1) })
]

second_written : (bytes : List ℕ) (a n : ℕ) → a ≤ 9 → second_digit_at bytes (100 * a) ≡ Some n → IsTail (46 ∷ (48 + a) ∷ bytes) n
second_written [] a n la e = record { fraction = a ∷ []; zone = []; fits = (omega arith, one_fit a la); ends = inl refl; parts = refl; value = (let f : n ≡ 100 * a = cc in omega arith) }
second_written (b ∷ rest) a n la e = elim (cases_Bool (is_ascii_digit b)) [
  | inl digit ↦ (let t = third_written rest a (b - 48) n la (digit_back b digit).0 (rw digit at e) in record { fraction = t.fraction; zone = t.zone; fits = t.fits; ends = t.ends; parts = ap (λ (xs : List ℕ). 46 ∷ (48 + a) ∷ xs) (digit_front b rest digit) ∙ t.parts; value = t.value })
  | inr other ↦ (let z = zone_written (b ∷ rest) (100 * a) n (rw other at e) in record { fraction = a ∷ []; zone = b ∷ rest; fits = (omega arith, one_fit a la); ends = z.0; parts = refl; value = omega (arith, z.1) })
]

first_written : (bytes : List ℕ) (n : ℕ) → first_digit_at bytes ≡ Some n → IsTail (46 ∷ bytes) n
first_written [] n e = absurd cc
first_written (a ∷ rest) n e = elim (cases_Bool (is_ascii_digit a)) [
  | inl digit ↦ (let t = second_written rest (a - 48) n (digit_back a digit).0 (rw digit at e) in record { fraction = t.fraction; zone = t.zone; fits = t.fits; ends = t.ends; parts = ap (λ (xs : List ℕ). 46 ∷ xs) (digit_front a rest digit) ∙ t.parts; value = t.value })
  | inr other ↦ (let f : None ≡ Some n = rw other at e in absurd cc)
]

pub tail_written : (bytes : List ℕ) (n : ℕ) → tail_at bytes ≡ Some n → IsTail bytes n
tail_written [] n e = record { fraction = []; zone = []; fits = (omega arith, none_fit); ends = inl refl; parts = refl; value = cc }
tail_written (b ∷ rest) n e = elim (cases_Bool (b == 46)) [
  | inl dot ↦ (let t = first_written rest n (rw dot at e) in record { fraction = t.fraction; zone = t.zone; fits = t.fits; ends = t.ends; parts = ap (λ (x : ℕ). x ∷ rest) (eqb-true b 46 dot) ∙ t.parts; value = t.value })
  | inr other ↦ (let z = zone_written (b ∷ rest) 0 n (rw other at e) in record { fraction = []; zone = b ∷ rest; fits = (omega arith, none_fit); ends = z.0; parts = refl; value = z.1 })
]
