-- Numbers as query ids write them.
use Rattle.std.proofs.Common.{◌≡◌, ◌≢◌, ℕ, zero, suc, ◌<◌, ◌≤◌, ◌^◌, ◌++◌, true, false, List, Result, Ok, Err, length, take, drop, get_or, ap, sym, ◌∙◌, subst, arith, decimal}
use Rattle.std.specs.Prelude.{IfNone, IfSome, Option}
use Rattle.std.specs.Result.{result_ok}
use Rattle.std.specs.Str.{bytes_eq}
use Rattle.std.specs.Str.Parse.{ParsesUnsigned}
use Rattle.std.proofs.Math.Seq.{take-append_seam}
use Rattle.std.proofs.lemmas.Bool.{false≢true}
use Rattle.std.proofs.lemmas.List.{take-append-drop}
use Rattle.std.proofs.lemmas.Slice.Eq.{bytes_eq-Decides}
use Rattle.std.proofs.lemmas.Fmt.{decimal_digit, decimal_nonempty, decimal-digits_value, digits_decimal, digits_value-decimal, first_decimal}
use Rattle.std.proofs.lemmas.Str.Parse.{numerals_by_value, parse_gives, parse_plain, tells_digits}

-- digits without a zero or a plus in front
pub number_read : (E : Type 0) (ds : List ℕ) (n : ℕ) → ParsesUnsigned {E = E} 64 10 ds (Ok n) → 0 < length ds → get_or ds 0 0 ≢ 43 → get_or ds 0 0 ≢ 48
    → (decimal n ≡ ds) × (1 ≤ n) × (n < 2 ^ 64)
number_read E ds n h some no_plus no_zero =
    let own = numerals_by_value _ tells_digits in
    let given : Result ℕ E = Ok n in
    let r = parse_plain own 64 ds given h no_plus in
    let written : decimal n ≡ ds = ap decimal r.1 ∙ decimal-digits_value own ds r.0.0 some (λ zero. absurd (no_zero zero)) r.0.2 in
    (written, above n written, subst (λ v. v < 2 ^ 64) (sym r.1) r.0.2)
  where
    above : (n : ℕ) → decimal n ≡ ds → 1 ≤ n
    above zero e = absurd (no_zero (ap (λ (l : List ℕ). get_or l 0 0) (sym e ∙ decimal_digit 0 (omega arith))))
    above (suc n) e = omega arith

pub number_unread : {E : Type 0} (ds : List ℕ) (e : E) → ParsesUnsigned 64 10 ds (Err e) → (n : ℕ) → n < 2 ^ 64 → decimal n ≢ ds
number_unread {E} ds e h n small same =
    let own = numerals_by_value _ tells_digits in
    let r : Result ℕ E = Err e in
    let read : r ≡ Ok n = parse_gives own 64 (decimal n) r (subst (λ l. ParsesUnsigned 64 10 l r) (sym same) h) (digits_decimal own n small) (decimal_nonempty n small) (omega (arith, digits_value-decimal own n small)) ∙ ap Ok (digits_value-decimal own n small) in
    absurd cc

-- digits that `parse` was given
pub told_number : {E : Type 0} (ds text : List ℕ) (r : Result ℕ E) (o : Option ℕ) → o ≡ result_ok r → text ≡ ds → ParsesUnsigned 64 10 text r → 0 < length ds → get_or ds 0 0 ≢ 43 → get_or ds 0 0 ≢ 48
    → IfSome o (λ n. decimal n ≡ ds) × IfSome o (λ n. 1 ≤ n) × IfNone o ((n : ℕ) → 1 ≤ n → n < 2 ^ 64 → decimal n ≢ ds) × IfSome o (λ n. n < 2 ^ 64)
told_number {E} ds text r o e same h some no_plus no_zero = rw e (by r (subst (λ l. ParsesUnsigned 64 10 l r) same h))
  where
    by : (r : Result ℕ E) → ParsesUnsigned 64 10 ds r → IfSome (result_ok r) (λ n. decimal n ≡ ds) × IfSome (result_ok r) (λ n. 1 ≤ n) × IfNone (result_ok r) ((n : ℕ) → 1 ≤ n → n < 2 ^ 64 → decimal n ≢ ds) × IfSome (result_ok r) (λ n. n < 2 ^ 64)
    by (Ok n) h = let k = number_read E ds n h some no_plus no_zero in (k.0, k.1, tt, k.2)
    by (Err why) h = (tt, tt, λ n low small. number_unread ds why h n small, tt)

-- a number from one on begins with neither zero nor a plus
pub decimal_begins : (n : ℕ) → 1 ≤ n → n < 2 ^ 64 → 48 < get_or (decimal n) 0 0
decimal_begins n low small = first_decimal n (omega arith) small

-- ---- what stands behind a prefix

pub stripped : (text front rest : List ℕ) → bytes_eq (take (length front) text) front ≡ true → rest ≡ drop (length front) text → front ++ rest ≡ text
stripped text front rest same e =
    let begins : take (length front) text ≡ front = (bytes_eq-Decides (take (length front) text) front).0 same in
    ap (λ l. l ++ rest) (sym begins) ∙ ap (λ l. take (length front) text ++ l) e ∙ take-append-drop (length front) text

pub not_stripped : (text front : List ℕ) → bytes_eq (take (length front) text) front ≡ false → (rest : List ℕ) → front ++ rest ≢ text
not_stripped text front other rest e =
    let begins : take (length front) text ≡ front = ap (take (length front)) (sym e) ∙ take-append_seam front rest in
    false≢true (sym other ∙ (bytes_eq-Decides (take (length front) text) front).1 begins)
