-- Numbers of 64 bits as `parse` reads them.
use Rattle.std.proofs.Common.{◌≡◌, ◌≢◌, ℕ, ◌+◌, ◌-◌, ◌*◌, ◌<◌, ◌≤◌, ◌^◌, Bool, true, false, List, [], ◌∷◌, length, get_or, fold, Some, None, Result, Ok, Err, ℤ, pos, neg_ℤ, refl, ap, sym, ◌∙◌, arith, eq-eqb, eqb-true}
use Rattle.std.specs.Prelude.{nat_lt, option_and_then, option_map, ◌&&◌, ◌==◌, int_le, int_lt}
use Rattle.std.specs.Char.{is_ascii_digit}
use Rattle.std.specs.List.{list_all}
use Rattle.std.specs.Result.{OkIff, result_ok}
use Rattle.std.specs.Str.Parse.{ParsesSigned}
use Rattle.std.proofs.lemmas.Bool.{false≢true}
use Rattle.std.proofs.lemmas.Bool.Decides.{nat_tests}
use Rattle.std.proofs.lemmas.Int.{ints}
use Rattle.std.proofs.lemmas.Str.Parse.{FoldsDigits, IsNumeralModel, numerals_by_fold, parse_signed_minus, parse_signed_plain, tells_all_ascii_digits}
use mir.Syntax.{w64}
use Rattle.tt_value.specs.calendar.Reading.{digits_value}
use Rattle.tt_value.specs.declared.value.Value.TheVariants.{Int}
use Rattle.tt_value.specs.trees.Expressions.{in_range}
use Rattle.tt_plain.specs.meaning.StagedRows.{digits_of, signed_of}

value_after : ℕ → List ℕ → ℕ
value_after n digits = fold (λ value digit. 10 * value + (digit - 48)) n digits

folds : FoldsDigits value_after
unfolding value_after
folds = record { empty = λ n. refl; more = λ n c cs k. ap (λ m. value_after m cs) (omega arith) }

abbrev AreDigits : List ℕ → Type 0
AreDigits digits = list_all is_ascii_digit digits ≡ true

numerals : IsNumeralModel AreDigits digits_value
unfolding value_after
numerals = numerals_by_fold AreDigits tells_all_ascii_digits value_after folds

plain_in : (n : ℕ) → n < 2 ^ 63 → in_range (pos n) ≡ Some (Int (pos n))
plain_in n less = let test : int_le (neg_ℤ (pos (2 ^ 63))) (pos n) && int_lt (pos n) (pos (2 ^ 63)) ≡ true = grind (arith, ints) in rw test refl

plain_out : (n : ℕ) → 2 ^ 63 ≤ n → in_range (pos n) ≡ None
plain_out n more = let test : int_le (neg_ℤ (pos (2 ^ 63))) (pos n) && int_lt (pos n) (pos (2 ^ 63)) ≡ false = grind (arith, ints) in rw test refl

minus_in : (n : ℕ) → n ≤ 2 ^ 63 → in_range (neg_ℤ (pos n)) ≡ Some (Int (neg_ℤ (pos n)))
minus_in n less = let test : int_le (neg_ℤ (pos (2 ^ 63))) (neg_ℤ (pos n)) && int_lt (neg_ℤ (pos n)) (pos (2 ^ 63)) ≡ true = grind (arith, ints) in rw test refl

minus_out : (n : ℕ) → 2 ^ 63 < n → in_range (neg_ℤ (pos n)) ≡ None
minus_out n more = let test : int_le (neg_ℤ (pos (2 ^ 63))) (neg_ℤ (pos n)) && int_lt (neg_ℤ (pos n)) (pos (2 ^ 63)) ≡ false = grind (arith, ints) in rw test refl

-- what the digits say, and no sign before them
digits_told : {E : Type 0} (f : ℕ → ℤ) (Fit : ℕ → Type 0) (bs : List ℕ) (r : Result ℤ E) → OkIff r (AreDigits bs × (0 < length bs) × Fit (digits_value bs)) (f (digits_value bs))
    → ((n : ℕ) → Fit n → in_range (f n) ≡ Some (Int (f n))) → ((n : ℕ) → ¬ (Fit n) → in_range (f n) ≡ None)
    → option_map Int (result_ok r) ≡ option_and_then in_range (option_map f (digits_of bs))
digits_told f Fit bs (Ok x) h fits not_fits =
    let some : nat_lt 0 (length bs) ≡ true = grind (arith, nat_tests, h.0.1) in
    rw (some, h.0.0) (ap (λ z. Some (Int z)) h.1 ∙ sym (fits (digits_value bs) h.0.2))
digits_told f Fit bs (Err e) h fits not_fits = by (nat_lt 0 (length bs)) (list_all is_ascii_digit bs) refl refl
  where
    by : (some digits : Bool) → nat_lt 0 (length bs) ≡ some → list_all is_ascii_digit bs ≡ digits → None ≡ option_and_then in_range (option_map f (digits_of bs))
    by false digits d e = rw d refl
    by true false d e = rw (d, e) refl
    by true true d e = let long : 0 < length bs = grind (arith, nat_tests) in rw (d, e) (sym (not_fits (digits_value bs) (λ fit. h (e, long, fit))))

by_less : {P : Type 0} (a b : ℕ) → (a < b → P) → (b ≤ a → P) → P
by_less {P} a b f g = by (nat_lt a b) refl
  where
    by : (t : Bool) → nat_lt a b ≡ t → P
    by true e = f (grind (arith, nat_tests))
    by false e = g (grind (arith, nat_tests))

no_digit : (c : ℕ) (bs : List ℕ) → c < 48 → list_all is_ascii_digit (c ∷ bs) ≡ false
no_digit c bs low = let test : is_ascii_digit c ≡ false = grind (arith, nat_tests) in rw test refl

-- where no plus stands in front, `parse` reads what the definition says
pub told_integer : {E : Type 0} (bs : List ℕ) (r : Result ℤ E) → ParsesSigned w64 10 bs r → get_or bs 0 0 ≢ 43 → option_map Int (result_ok r) ≡ option_and_then in_range (signed_of bs)
told_integer {E} [] (Ok x) h plus = absurd (omega (arith, h.0.0.0))
told_integer {E} [] (Err e) h plus = refl
told_integer {E} (c ∷ bs) r h plus = by (c == 45) refl
  where
    by : (minus : Bool) → (c == 45) ≡ minus → option_map Int (result_ok r) ≡ option_and_then in_range (signed_of (c ∷ bs))
    by true e =
        let told = parse_signed_minus numerals w64 (c ∷ bs) r h (eqb-true c 45 e) in
        rw e (digits_told (λ n. neg_ℤ (pos n)) (λ n. n ≤ 2 ^ 63) bs r told minus_in (λ n no. minus_out n (by_less (2 ^ 63) n (λ more. more) (λ less. absurd (no less)))))
    by false e =
        let told = parse_signed_plain numerals w64 (c ∷ bs) r h plus (λ is. false≢true (sym e ∙ eq-eqb c 45 is)) in
        rw e (digits_told pos (λ n. n < 2 ^ 63) (c ∷ bs) r told plain_in (λ n no. plain_out n (by_less n (2 ^ 63) (λ less. absurd (no less)) (λ more. more))))
