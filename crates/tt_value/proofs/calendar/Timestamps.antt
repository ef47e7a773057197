-- The moment that a text means is that of the timestamp whose text it is.
use Rattle.std.proofs.Common.{◌≡◌, ℕ, ◌+◌, ◌-◌, ◌/◌, ◌%◌, ◌<◌, ◌≤◌, List, [], ◌∷◌, ◌++◌, length, map, take, drop, Option, Some, None, refl, sym, ap, subst, ◌∙◌, arith, inl, inr, ◌⊎◌, ℤ, Bool, true, false}
use Rattle.std.specs.Prelude.{if◌then◌else◌, ◌&&◌, ◌||◌, ◌==◌, slice_index, option_and_then, nat_le, nat_lt}
use Rattle.std.specs.List.{list_all}
use Rattle.std.specs.Char.{is_ascii_digit}
use Rattle.std.proofs.lemmas.Bool.{cases_Bool, eqb-true, and_parts, cond-true, cond-false}
use Rattle.std.proofs.lemmas.List.{length-map, length-take, length-drop, take-append-drop, drop-drop, drop_more, append-nil, drop_all}
use Rattle.std.proofs.lemmas.Bool.Decides.{nat_tests}
use Rattle.std.proofs.lemmas.Option.{none-some, same_Some}
use Rattle.std.proofs.lemmas.List.Elements.{recursion_from_All, All-from_recursion}
use Rattle.std.specs.List.{AllByRecursion as ByRecursion}
use Rattle.tt_value.specs.calendar.Calendar.{day_text, two_digits, Clock, IsClock, clock_text, fraction_text, Timestamp, IsTimestamp, timestamp_text, moment_of}
use Rattle.tt_value.specs.calendar.Reading.{day_of, digits_value, has_clock_form, written_clock, is_clock, clock_of, digits_behind, fraction_of, has_zone, without_zone, stands_between, moment_from, timestamp_of}
use Rattle.tt_value.proofs.calendar.Dates.{digit_written, digit_range, two_value, two_read, if_both, both_if, day_of-written, day_of-read}

-- ---- the time of day

abbrev clocked : ℕ → ℕ → ℕ → Clock
clocked hour minute second = record { hour = hour; minute = minute; second = second }

clock_form : (h m s : ℕ) → h ≤ 99 → m ≤ 99 → s ≤ 99 → has_clock_form (clock_text (clocked h m s)) ≡ true
clock_form h m s lh lm ls = rw (digit_written (h / 10) (omega arith), digit_written (h % 10) (omega arith), digit_written (m / 10) (omega arith), digit_written (m % 10) (omega arith), digit_written (s / 10) (omega arith), digit_written (s % 10) (omega arith)) refl

clock_value : (h m s : ℕ) → h ≤ 99 → m ≤ 99 → s ≤ 99 → written_clock (clock_text (clocked h m s)) ≡ clocked h m s
clock_value h m s lh lm ls = ap (λ x. clocked x (digits_value (two_digits m)) (digits_value (two_digits s))) (two_value h lh) ∙ ap (λ x. clocked h x (digits_value (two_digits s))) (two_value m lm) ∙ ap (clocked h m) (two_value s ls)

clock_test : (clock : Clock) → IsClock clock → is_clock clock ≡ true
clock_test clock right = grind (arith, nat_tests, right.hour, right.minute, right.second)

clock_from : (clock : Clock) → is_clock clock ≡ true → IsClock clock
clock_from clock test = record { hour = grind (arith, nat_tests, test); minute = grind (arith, nat_tests, test); second = grind (arith, nat_tests, test) }

clock_of-written : (clock : Clock) → IsClock clock → clock_of (clock_text clock) ≡ Some clock
unfolding clock_of
clock_of-written clock right =
    let lh : clock.hour ≤ 99 = omega (arith, right.hour) in
    let lm : clock.minute ≤ 99 = omega (arith, right.minute) in
    let ls : clock.second ≤ 99 = omega (arith, right.second) in
    let value = clock_value clock.hour clock.minute clock.second lh lm ls in
    if_both (has_clock_form (clock_text clock)) (is_clock (written_clock (clock_text clock))) (Some (written_clock (clock_text clock))) (clock_form clock.hour clock.minute clock.second lh lm ls) (ap is_clock value ∙ clock_test clock right)
    ∙ ap (λ (c : Clock). Some c) value

other_length : {A : Type 0} (text : List ℕ) (n : ℕ) → length text ≡ n → (n ≡ 8 → ⊥) → has_clock_form text ≡ true → A
other_length text n long other form = absurd (other (sym long ∙ eqb-true (length text) 8 (and_parts (length text == 8) _ form).0))

eight_bytes : (a b c d e f g h : ℕ) → has_clock_form (a ∷ b ∷ c ∷ d ∷ e ∷ f ∷ g ∷ h ∷ []) ≡ true → a ∷ b ∷ c ∷ d ∷ e ∷ f ∷ g ∷ h ∷ [] ≡ clock_text (written_clock (a ∷ b ∷ c ∷ d ∷ e ∷ f ∷ g ∷ h ∷ []))
eight_bytes a b c d e f g h form =
    let signs = and_parts ((c == 58) && (f == 58)) _ form in
    let colons = and_parts (c == 58) (f == 58) signs.0 in
    let hours = and_parts (list_all is_ascii_digit (a ∷ b ∷ [])) _ signs.1 in
    let others = and_parts (list_all is_ascii_digit (d ∷ e ∷ [])) (list_all is_ascii_digit (g ∷ h ∷ [])) hours.1 in
    let da = and_parts (is_ascii_digit a) _ hours.0 in
    let db = and_parts (is_ascii_digit b) _ da.1 in
    let dd = and_parts (is_ascii_digit d) _ others.0 in
    let de = and_parts (is_ascii_digit e) _ dd.1 in
    let dg = and_parts (is_ascii_digit g) _ others.1 in
    let dh = and_parts (is_ascii_digit h) _ dg.1 in
    let ra = digit_range a da.0 in let rb = digit_range b db.0 in let rd = digit_range d dd.0 in
    let re = digit_range e de.0 in let rg = digit_range g dg.0 in let rh = digit_range h dh.0 in
    let hour = sym (two_read a b ra.0 ra.1 rb.0 rb.1) in
    let minute = sym (two_read d e rd.0 rd.1 re.0 re.1) in
    let second = sym (two_read g h rg.0 rg.1 rh.0 rh.1) in
    ap (λ (x : ℕ). a ∷ b ∷ x ∷ d ∷ e ∷ f ∷ g ∷ h ∷ []) (eqb-true c 58 colons.0)
    ∙ ap (λ (x : ℕ). a ∷ b ∷ 58 ∷ d ∷ e ∷ x ∷ g ∷ h ∷ []) (eqb-true f 58 colons.1)
    ∙ ap (λ (xs : List ℕ). xs ++ (58 ∷ d ∷ e ∷ 58 ∷ g ∷ h ∷ [])) hour
    ∙ ap (λ (xs : List ℕ). two_digits (digits_value (a ∷ b ∷ [])) ++ (58 ∷ (xs ++ (58 ∷ g ∷ h ∷ [])))) minute
    ∙ ap (λ (xs : List ℕ). two_digits (digits_value (a ∷ b ∷ [])) ++ (58 ∷ (two_digits (digits_value (d ∷ e ∷ [])) ++ (58 ∷ xs)))) second

clock_written_as : (text : List ℕ) → has_clock_form text ≡ true → text ≡ clock_text (written_clock text)
clock_written_as [] form = other_length [] 0 refl (λ x. omega (arith, x)) form
clock_written_as (a ∷ []) form = other_length (a ∷ []) 1 refl (λ x. omega (arith, x)) form
clock_written_as (a ∷ b ∷ []) form = other_length (a ∷ b ∷ []) 2 refl (λ x. omega (arith, x)) form
clock_written_as (a ∷ b ∷ c ∷ []) form = other_length (a ∷ b ∷ c ∷ []) 3 refl (λ x. omega (arith, x)) form
clock_written_as (a ∷ b ∷ c ∷ d ∷ []) form = other_length (a ∷ b ∷ c ∷ d ∷ []) 4 refl (λ x. omega (arith, x)) form
clock_written_as (a ∷ b ∷ c ∷ d ∷ e ∷ []) form = other_length (a ∷ b ∷ c ∷ d ∷ e ∷ []) 5 refl (λ x. omega (arith, x)) form
clock_written_as (a ∷ b ∷ c ∷ d ∷ e ∷ f ∷ []) form = other_length (a ∷ b ∷ c ∷ d ∷ e ∷ f ∷ []) 6 refl (λ x. omega (arith, x)) form
clock_written_as (a ∷ b ∷ c ∷ d ∷ e ∷ f ∷ g ∷ []) form = other_length (a ∷ b ∷ c ∷ d ∷ e ∷ f ∷ g ∷ []) 7 refl (λ x. omega (arith, x)) form
clock_written_as (a ∷ b ∷ c ∷ d ∷ e ∷ f ∷ g ∷ h ∷ []) form = eight_bytes a b c d e f g h form
clock_written_as (a ∷ b ∷ c ∷ d ∷ e ∷ f ∷ g ∷ h ∷ i ∷ text) form = other_length (a ∷ b ∷ c ∷ d ∷ e ∷ f ∷ g ∷ h ∷ i ∷ text) (9 + length text) (omega arith) (λ x. omega (arith, x)) form

clock_of-read : (text : List ℕ) (clock : Clock) → clock_of text ≡ Some clock → IsClock clock × (text ≡ clock_text clock)
unfolding clock_of
clock_of-read text clock e =
    let found = both_if (has_clock_form text) (is_clock (written_clock text)) (Some (written_clock text)) clock e in
    let is = same_Some (written_clock text) clock found.2 in
    (subst IsClock is (clock_from (written_clock text) found.1), clock_written_as text found.0 ∙ ap clock_text is)

-- ---- the fraction and the zone

-- the digits of a number between 0 and 9, and no `Z`
no_zone : (d : ℕ) → d ≤ 9 → (48 + d == 90) ≡ false
no_zone d small = grind (arith, nat_tests)

back : (d : ℕ) → 48 + d - 48 ≡ d
back d = omega arith

forth : (b : ℕ) → 48 ≤ b → 48 + (b - 48) ≡ b
forth b least = omega arith

abbrev IsZone : List ℕ → Type 0
IsZone zone = (zone ≡ []) ⊎ (zone ≡ 90 ∷ [])

one_digit : (d : ℕ) (zone : List ℕ) → d ≤ 9 → IsZone zone → fraction_of (without_zone (fraction_text (d ∷ []) ++ zone)) ≡ Some (d ∷ [])
one_digit d zone small (inl none) = rw (none, no_zone d small, digit_written d small, back d) refl
one_digit d zone small (inr z) = rw (z, digit_written d small, back d) refl

two_more : (d e : ℕ) (zone : List ℕ) → d ≤ 9 → e ≤ 9 → IsZone zone → fraction_of (without_zone (fraction_text (d ∷ e ∷ []) ++ zone)) ≡ Some (d ∷ e ∷ [])
two_more d e zone ld le (inl none) = rw (none, no_zone e le, digit_written d ld, digit_written e le, back d, back e) refl
two_more d e zone ld le (inr z) = rw (z, digit_written d ld, digit_written e le, back d, back e) refl

three_more : (d e f : ℕ) (zone : List ℕ) → d ≤ 9 → e ≤ 9 → f ≤ 9 → IsZone zone → fraction_of (without_zone (fraction_text (d ∷ e ∷ f ∷ []) ++ zone)) ≡ Some (d ∷ e ∷ f ∷ [])
three_more d e f zone ld le lf (inl none) = rw (none, no_zone f lf, digit_written d ld, digit_written e le, digit_written f lf, back d, back e, back f) refl
three_more d e f zone ld le lf (inr z) = rw (z, digit_written d ld, digit_written e le, digit_written f lf, back d, back e, back f) refl

no_digit : (zone : List ℕ) → IsZone zone → fraction_of (without_zone zone) ≡ Some []
no_digit zone (inl none) = rw none refl
no_digit zone (inr z) = rw z refl

fraction_of-written : (digits zone : List ℕ) → length digits ≤ 3 → ByRecursion (λ d. d ≤ 9) digits → IsZone zone → fraction_of (without_zone (fraction_text digits ++ zone)) ≡ Some digits
fraction_of-written [] zone few small is = no_digit zone is
fraction_of-written (d ∷ []) zone few small is = one_digit d zone small.0 is
fraction_of-written (d ∷ e ∷ []) zone few small is = two_more d e zone small.0 small.1.0 is
fraction_of-written (d ∷ e ∷ f ∷ []) zone few small is = three_more d e f zone small.0 small.1.0 small.1.1.0 is
fraction_of-written (d ∷ e ∷ f ∷ g ∷ digits) zone few small is = absurd (omega arith)

-- ---- what is written is read

abbrev chain : Option ℤ → Option Clock → Option (List ℕ) → Bool → Option ℤ
chain day clock digits stands =
    option_and_then (λ x. option_and_then (λ c. option_and_then (λ f. if stands then Some (moment_from x c f) else None) digits) clock) day

chain_some : (day : Option ℤ) (clock : Option Clock) (digits : Option (List ℕ)) (stands : Bool) (x : ℤ) (c : Clock) (f : List ℕ) → day ≡ Some x → clock ≡ Some c → digits ≡ Some f → stands ≡ true → chain day clock digits stands ≡ Some (moment_from x c f)
chain_some day clock digits stands x c f e1 e2 e3 e4 = rw (e1, e2, e3, e4) refl

between_test : (b : ℕ) → (b ≡ 32) ⊎ (b ≡ 84) → stands_between b ≡ true
between_test b (inl space) = rw space refl
between_test b (inr t) = rw t refl

pub timestamp_of-written : (t : Timestamp) → IsTimestamp t → timestamp_of (timestamp_text t) ≡ Some (moment_of t)
unfolding timestamp_of
timestamp_of-written t right =
    chain_some (day_of (day_text t.day)) (clock_of (clock_text t.clock)) (fraction_of (without_zone (fraction_text t.fraction ++ t.zone))) (stands_between t.between) t.day t.clock t.fraction
    (day_of-written t.day right.day) (clock_of-written t.clock right.clock) (fraction_of-written t.fraction t.zone right.fraction.0 (recursion_from_All (λ d. d ≤ 9) t.fraction right.fraction.1) right.zone) (between_test t.between right.between)

-- ---- what is read was written

chain_parts : (day : Option ℤ) (clock : Option Clock) (digits : Option (List ℕ)) (stands : Bool) (m : ℤ) → chain day clock digits stands ≡ Some m
    → (x : ℤ) × (c : Clock) × (f : List ℕ) × (day ≡ Some x) × (clock ≡ Some c) × (digits ≡ Some f) × (stands ≡ true) × (m ≡ moment_from x c f)
chain_parts None clock digits stands m e = absurd (none-some m e)
chain_parts (Some x) None digits stands m e = absurd (none-some m e)
chain_parts (Some x) (Some c) None stands m e = absurd (none-some m e)
chain_parts (Some x) (Some c) (Some f) true m e = (x, c, f, refl, refl, refl, refl, sym (same_Some (moment_from x c f) m e))
chain_parts (Some x) (Some c) (Some f) false m e = absurd (none-some m e)

-- digits as numbers, and back
forth_all : (digits : List ℕ) → list_all is_ascii_digit digits ≡ true → map (λ (d : ℕ). 48 + d) (map (λ (b : ℕ). b - 48) digits) ≡ digits
forth_all [] all = refl
forth_all (b ∷ digits) all =
    let parts = and_parts (is_ascii_digit b) (list_all is_ascii_digit digits) all in
    ap (λ (x : ℕ). x ∷ map (λ (d : ℕ). 48 + d) (map (λ (b : ℕ). b - 48) digits)) (forth b (digit_range b parts.0).0) ∙ ap (λ (xs : List ℕ). b ∷ xs) (forth_all digits parts.1)

small_all : (digits : List ℕ) → list_all is_ascii_digit digits ≡ true → ByRecursion (λ d. d ≤ 9) (map (λ (b : ℕ). b - 48) digits)
small_all [] all = tt
small_all (b ∷ digits) all =
    let parts = and_parts (is_ascii_digit b) (list_all is_ascii_digit digits) all in
    (omega (arith, digit_range b parts.0), small_all digits parts.1)

abbrev IsReadFraction : List ℕ → List ℕ → Type 0
IsReadFraction text digits = (length digits ≤ 3) × ByRecursion (λ d. d ≤ 9) digits × (text ≡ fraction_text digits)

behind_read : (text digits : List ℕ) → digits_behind text ≡ Some digits → IsReadFraction (46 ∷ text) digits
behind_read [] digits e = absurd (none-some digits e)
behind_read (b ∷ text) digits e =
    let found = both_if (nat_le 1 (length (b ∷ text)) && nat_le (length (b ∷ text)) 3) (list_all is_ascii_digit (b ∷ text)) (Some (map (λ (d : ℕ). d - 48) (b ∷ text))) digits e in
    let is = same_Some (map (λ (d : ℕ). d - 48) (b ∷ text)) digits found.2 in
    let few : length (b ∷ text) ≤ 3 = grind (arith, nat_tests, found.0) in
    subst (IsReadFraction (46 ∷ b ∷ text)) is (
      omega (arith, few, length-map (b ∷ text) (λ (d : ℕ). d - 48)),
      small_all (b ∷ text) found.1,
      ap (λ (xs : List ℕ). 46 ∷ xs) (sym (forth_all (b ∷ text) found.1)),
    )

point_read : (b : ℕ) (text digits : List ℕ) → (if b == 46 then digits_behind text else None) ≡ Some digits → IsReadFraction (b ∷ text) digits
point_read b text digits e = elim (cases_Bool (b == 46)) [
  | inl point ↦ subst (λ (x : ℕ). IsReadFraction (x ∷ text) digits) (sym (eqb-true b 46 point)) (behind_read text digits (sym (cond-true (b == 46) (digits_behind text) None point) ∙ e))
  | inr other ↦ absurd (none-some digits (sym (cond-false (b == 46) (digits_behind text) None other) ∙ e))
]

fraction_of-read : (text digits : List ℕ) → fraction_of text ≡ Some digits → IsReadFraction text digits
fraction_of-read [] digits e = subst (IsReadFraction []) (same_Some [] digits e) (omega arith, tt, refl)
fraction_of-read (b ∷ text) digits e = point_read b text digits e

-- a text with its last byte
last_apart : (text : List ℕ) → 0 < length text → text ≡ take (length text - 1) text ++ slice_index text (length text - 1) ∷ []
last_apart text some =
    let whole = sym (take-append-drop (length text - 1) text) in
    let last : drop (length text - 1) text ≡ slice_index text (length text - 1) ∷ drop (length text - 1 + 1) text = drop_more text (length text - 1) 0 (omega arith) in
    let end_is : drop (length text - 1 + 1) text ≡ [] = drop_all (length text - 1 + 1) text (omega arith) in
    whole ∙ ap (λ (xs : List ℕ). take (length text - 1) text ++ xs) (last ∙ ap (λ (xs : List ℕ). slice_index text (length text - 1) ∷ xs) end_is)

zone_apart : (text : List ℕ) → (zone : List ℕ) × IsZone zone × (text ≡ without_zone text ++ zone)
zone_apart text = elim (cases_Bool (has_zone text)) [
  | inl z ↦ (
      let parts = and_parts (nat_lt 0 (length text)) (slice_index text (length text - 1) == 90) z in
      let some : 0 < length text = grind (arith, nat_tests, parts.0) in
      let last = eqb-true (slice_index text (length text - 1)) 90 parts.1 in
      (90 ∷ [], inr refl, last_apart text some ∙ ap (λ (x : ℕ). take (length text - 1) text ++ x ∷ []) last ∙ ap (λ (xs : List ℕ). xs ++ 90 ∷ []) (sym (cond-true (has_zone text) (take (length text - 1) text) text z))))
  | inr none ↦ ([], inl refl, sym (append-nil text) ∙ ap (λ (xs : List ℕ). xs ++ []) (sym (cond-false (has_zone text) (take (length text - 1) text) text none)))
]

between_read : (b : ℕ) → stands_between b ≡ true → (b ≡ 32) ⊎ (b ≡ 84)
between_read b stands = elim (cases_Bool (b == 32)) [
  | inl space ↦ inl (eqb-true b 32 space)
  | inr other ↦ inr (eqb-true b 84 (sym (ap (λ (x : Bool). x || (b == 84)) other) ∙ stands))
]

-- the parts of a text at the places of a timestamp
parts_of : (text : List ℕ) → 8 ≤ length (take 8 (drop 11 text)) → text ≡ take 10 text ++ (slice_index text 10 ∷ (take 8 (drop 11 text) ++ drop 19 text))
parts_of text clock =
    let long : 19 ≤ length text = omega (arith, clock, length-take 8 (drop 11 text), length-drop 11 text) in
    let sign : drop 10 text ≡ slice_index text 10 ∷ drop (10 + 1) text = drop_more text 10 0 (omega arith) in
    let rest : drop (10 + 1) text ≡ take 8 (drop 11 text) ++ drop 8 (drop 11 text) = sym (take-append-drop 8 (drop 11 text)) in
    let later : drop 8 (drop 11 text) ≡ drop 19 text = drop-drop 8 11 text in
    sym (take-append-drop 10 text) ∙ ap (λ (xs : List ℕ). take 10 text ++ xs) (sign ∙ ap (λ (xs : List ℕ). slice_index text 10 ∷ xs) (rest ∙ ap (λ (xs : List ℕ). take 8 (drop 11 text) ++ xs) later))

pub record IsReadMoment (text : List ℕ) (m : ℤ) : Type 0 where
  pub timestamp : Timestamp
  pub right : IsTimestamp timestamp
  pub text_is : text ≡ timestamp_text timestamp
  pub moment_is : m ≡ moment_of timestamp

pub timestamp_of-read : (text : List ℕ) (m : ℤ) → timestamp_of text ≡ Some m → IsReadMoment text m
unfolding timestamp_of
timestamp_of-read text m e =
    let p = chain_parts (day_of (take 10 text)) (clock_of (take 8 (drop 11 text))) (fraction_of (without_zone (drop 19 text))) (stands_between (slice_index text 10)) m e in
    let day = day_of-read (take 10 text) p.0 p.3 in
    let clock = clock_of-read (take 8 (drop 11 text)) p.1 p.4 in
    let digits = fraction_of-read (without_zone (drop 19 text)) p.2 p.5 in
    let zone = zone_apart (drop 19 text) in
    let long : 8 ≤ length (take 8 (drop 11 text)) = omega (arith, ap length clock.1) in
    record {
      timestamp = record { day = p.0; between = slice_index text 10; clock = p.1; fraction = p.2; zone = zone.0 };
      right = record { day = day.0; between = between_read (slice_index text 10) p.6; clock = clock.0; fraction = (digits.0, All-from_recursion (λ d. d ≤ 9) p.2 digits.1); zone = zone.1 };
      text_is = parts_of text long
          ∙ ap (λ (xs : List ℕ). xs ++ (slice_index text 10 ∷ (take 8 (drop 11 text) ++ drop 19 text))) day.1
          ∙ ap (λ (xs : List ℕ). day_text p.0 ++ (slice_index text 10 ∷ (xs ++ drop 19 text))) clock.1
          ∙ ap (λ (xs : List ℕ). day_text p.0 ++ (slice_index text 10 ∷ (clock_text p.1 ++ xs))) (zone.2 ∙ ap (λ (xs : List ℕ). xs ++ zone.0) digits.2);
      moment_is = p.7;
    }
