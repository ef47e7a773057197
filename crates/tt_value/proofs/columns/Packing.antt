-- Digits of a number, and the number of digits: each gives the other back.
use Rattle.std.proofs.Common.{◌≡◌, ℕ, zero, suc, ◌+◌, ◌-◌, ◌*◌, ◌/◌, ◌%◌, ◌^◌, ◌<◌, ◌≤◌, ◌≢◌, List, [], ◌∷◌, ◌++◌, length, refl, sym, ap, ◌∙◌, arith, append_assoc, cond, ltb, ◌&&◌, true, false, inl, inr, ◌⊎◌, drop, get_or}
use Rattle.std.proofs.lemmas.Bool.{cases_lt, lt-ltb, le-ltb, eqb-true}
use Rattle.std.proofs.lemmas.Bool.Decides.{nat_tests}
use Rattle.std.specs.Prelude.{◌==◌}
use Rattle.std.specs.List.{AllByRecursion, list_all}
use Rattle.std.proofs.lemmas.List.{drop_more, drop_all, append-nil}
use Rattle.std.proofs.Math.Nat.{add-mod-mod, div-div-eq-div-mul, mod-add-div, add-mul-div_left, add-mul-mod_self_left, pow-le-pow_right, mul-le-mul_left, div-eq_of_lt, mod-eq_of_lt}
use Rattle.std.proofs.Math.Pow.{mod-mod-pow}
use Rattle.std.proofs.lemmas.Nat.{pow_pos, pow-add, leading_length, shr-shr, shr_below, mod_below}
use Rattle.tt_value.specs.columns.Packing.{joined, digits, bytes_for, packed, width_of}

abbrev pub Fit : ℕ → List ℕ → Type 0
Fit width xs = AllByRecursion (λ x. x < 2 ^ width) xs

pub length-digits : (w count n : ℕ) → length (digits w count n) ≡ count
length-digits w zero n = refl
length-digits w (suc count) n = ap suc (length-digits w count (n / 2 ^ w))

pub digits-fit : (w count n : ℕ) → Fit w (digits w count n)
digits-fit w zero n = tt
digits-fit w (suc count) n = (let p = pow_pos w in omega arith, digits-fit w count (n / 2 ^ w))

-- the digit that comes out first, and what is left
pub first_digit : (w x rest : ℕ) → x < 2 ^ w → (x + 2 ^ w * rest) % 2 ^ w ≡ x
first_digit w x rest lt = add-mul-mod_self_left x (2 ^ w) rest ∙ mod-eq_of_lt lt

pub other_digits : (w x rest : ℕ) → x < 2 ^ w → (x + 2 ^ w * rest) / 2 ^ w ≡ rest
other_digits w x rest lt = let e = add-mul-div_left x rest (pow_pos w) in let z : x / 2 ^ w ≡ 0 = div-eq_of_lt lt in omega arith

pub digits-joined : (w : ℕ) (xs : List ℕ) → Fit w xs → digits w (length xs) (joined w xs) ≡ xs
digits-joined w [] fit = refl
digits-joined w (x ∷ xs) fit =
    let a : (x + 2 ^ w * joined w xs) % 2 ^ w ≡ x = first_digit w x (joined w xs) fit.0 in
    let b : (x + 2 ^ w * joined w xs) / 2 ^ w ≡ joined w xs = other_digits w x (joined w xs) fit.0 in
    rw (a, b, digits-joined w xs fit.1) refl

pow_more : (w count : ℕ) → 2 ^ (suc count * w) ≡ 2 ^ w * 2 ^ (count * w)
pow_more w count = let e : suc count * w ≡ w + count * w = omega arith in rw e (pow-add 2 w (count * w))

-- a digit in front
pub joined_below : (w : ℕ) (xs : List ℕ) → Fit w xs → joined w xs < 2 ^ (length xs * w)
joined_below w [] fit = pow_pos (0 * w)
joined_below w (x ∷ xs) fit =
    let ih : joined w xs < 2 ^ (length xs * w) = joined_below w xs fit.1 in
    let e = pow_more w (length xs) in
    let m : 2 ^ w * suc (joined w xs) ≤ 2 ^ w * 2 ^ (length xs * w) = mul-le-mul_left (2 ^ w) (omega arith) in
    let f = fit.0 in
    omega arith

-- what the digits leave of the number
pub joined-digits : (w count n : ℕ) → joined w (digits w count n) + 2 ^ (count * w) * (n / 2 ^ (count * w)) ≡ n
joined-digits w zero n = let e : 0 * w ≡ 0 = omega arith in rw e (omega arith)
joined-digits w (suc count) n =
    let ih = joined-digits w count (n / 2 ^ w) in
    let e = pow_more w count in
    let q : n / 2 ^ w / 2 ^ (count * w) ≡ n / (2 ^ w * 2 ^ (count * w)) = div-div-eq-div-mul n (2 ^ w) (2 ^ (count * w)) in
    let h : joined w (digits w count (n / 2 ^ w)) + 2 ^ (count * w) * (n / (2 ^ w * 2 ^ (count * w))) ≡ n / 2 ^ w = ap (λ x. joined w (digits w count (n / 2 ^ w)) + 2 ^ (count * w) * x) (sym q) ∙ ih in
    let k = ap (λ x. 2 ^ w * x) h in
    let d = mod-add-div n (2 ^ w) in
    rw e (omega arith)

pub joined_back : (w count n : ℕ) → n < 2 ^ (count * w) → joined w (digits w count n) ≡ n
joined_back w count n lt = let z : n / 2 ^ (count * w) ≡ 0 = div-eq_of_lt lt in let e = joined-digits w count n in let k = ap (λ x. 2 ^ (count * w) * x) z in omega arith

-- ---- the bits that wait before more bits

-- the least significant byte comes out
pub byte_out : (bits count p more : ℕ) → 8 ≤ bits → digits 8 (bytes_for (bits + count)) (p + 2 ^ bits * more) ≡ p % 256 ∷ digits 8 (bytes_for (bits - 8 + count)) (p / 256 + 2 ^ (bits - 8) * more)
byte_out bits count p more le =
    let k : bytes_for (bits + count) ≡ suc (bytes_for (bits - 8 + count)) = omega arith in
    let e : 2 ^ bits ≡ 256 * 2 ^ (bits - 8) = (let b : bits ≡ 8 + (bits - 8) = omega arith in ap (λ x. 2 ^ x) b ∙ pow-add 2 8 (bits - 8)) in
    let f : p + 2 ^ bits * more ≡ p + 256 * (2 ^ (bits - 8) * more) = (let g = ap (λ x. x * more) e in omega arith) in
    let r : (p + 256 * (2 ^ (bits - 8) * more)) % 256 ≡ p % 256 = add-mul-mod_self_left p 256 (2 ^ (bits - 8) * more) in
    let q : (p + 256 * (2 ^ (bits - 8) * more)) / 256 ≡ p / 256 + 2 ^ (bits - 8) * more = add-mul-div_left p (2 ^ (bits - 8) * more) (omega arith) in
    rw (k, f, r, q) refl

pub byte_out_below : (bits p : ℕ) → 8 ≤ bits → p < 2 ^ bits → p / 256 < 2 ^ (bits - 8)
byte_out_below bits p le lt =
    let e : 2 ^ bits ≡ 256 * 2 ^ (bits - 8) = (let b : bits ≡ 8 + (bits - 8) = omega arith in ap (λ x. 2 ^ x) b ∙ pow-add 2 8 (bits - 8)) in
    omega arith

-- a number of w bits joins the bits that wait
pub joins_below : (bits w p x : ℕ) → p < 2 ^ bits → x < 2 ^ w → p + x * 2 ^ bits < 2 ^ (bits + w)
joins_below bits w p x p_lt x_lt =
    let e : 2 ^ (bits + w) ≡ 2 ^ bits * 2 ^ w = pow-add 2 bits w in
    let m : 2 ^ bits * suc x ≤ 2 ^ bits * 2 ^ w = mul-le-mul_left (2 ^ bits) (omega arith) in
    omega arith

pub joins : (bits w p x more : ℕ) → p + x * 2 ^ bits + 2 ^ (bits + w) * more ≡ p + 2 ^ bits * (x + 2 ^ w * more)
joins bits w p x more = let e = ap (λ y. y * more) (pow-add 2 bits w) in omega arith

-- ---- widths

pub width_le : (n : ℕ) → width_of n ≤ 64
width_le n = omega arith

pub width_holds : (n : ℕ) → n < 2 ^ 64 → n < 2 ^ width_of n
width_holds n lt =
    let h = leading_length 64 n lt in
    let e : width_of n ≡ h.0 = (let a = h.1 in omega arith) in
    rw e h.2

-- ---- the loops

-- a byte that is written stands in front of what is left to write
pub row_more : (out new : List ℕ) (b : ℕ) (left all total : List ℕ) → new ≡ out ++ b ∷ [] → all ≡ b ∷ left → out ++ all ≡ total → new ++ left ≡ total
row_more out new b left all total e f g = rw (e, append_assoc out (b ∷ []) left) (ap (λ (t : List ℕ). out ++ t) (sym f) ∙ g)

-- the bytes to come of the bits that wait and the numbers that are left
abbrev pub to_come : ℕ → ℕ → ℕ → List ℕ → List ℕ
to_come w bits p xs = digits 8 (bytes_for (bits + length xs * w)) (p + 2 ^ bits * joined w xs)

pub pack_start : (w : ℕ) (xs : List ℕ) → to_come w 0 0 xs ≡ packed w xs
pack_start w xs =
    let a : 0 + length xs * w ≡ length xs * w = omega arith in
    let b : 0 + 2 ^ 0 * joined w xs ≡ joined w xs = omega arith in
    rw (a, b) refl

pub pack_step : (w bits p x : ℕ) (xs : List ℕ) → to_come w bits p (x ∷ xs) ≡ digits 8 (bytes_for (bits + w + length xs * w)) (p + x * 2 ^ bits + 2 ^ (bits + w) * joined w xs)
pack_step w bits p x xs =
    let a : bits + suc (length xs) * w ≡ bits + w + length xs * w = omega arith in
    let b = joins bits w p x (joined w xs) in
    rw (a, ← b) refl

pub pack_end : (w bits p : ℕ) → bits < 8 → p < 2 ^ bits → to_come w bits p [] ≡ cond (ltb 0 bits) (p ∷ []) []
pack_end w bits p few lt =
    let b : p + 2 ^ bits * 0 ≡ p = omega arith in
    elim (cases_lt 0 bits) [
      | inl more ↦
          let a : bytes_for (bits + 0 * w) ≡ 1 = omega arith in
          let t : ltb 0 bits ≡ true = lt-ltb 0 bits more in
          let m : p % 256 ≡ p = mod-eq_of_lt (let q : 2 ^ bits ≤ 2 ^ 8 = pow-le-pow_right {n = 2} (omega arith) {i = bits} {j = 8} (omega arith) in omega arith) in
          rw (a, b, t, m) refl
      | inr none ↦
          let a : bytes_for (bits + 0 * w) ≡ 0 = omega arith in
          let t : ltb 0 bits ≡ false = le-ltb 0 bits none in
          rw (a, t) refl
    ]

pub row_turn : (w bits p x i : ℕ) (numbers out new total : List ℕ) (bits' p' waiting : ℕ) → i < length numbers → x ≡ get_or numbers i 0 → waiting ≡ p + x * 2 ^ bits
    → ((more count : ℕ) → new ++ digits 8 (bytes_for (bits' + count)) (p' + 2 ^ bits' * more) ≡ out ++ digits 8 (bytes_for (bits + w + count)) (waiting + 2 ^ (bits + w) * more))
    → out ++ to_come w bits p (drop i numbers) ≡ total → new ++ to_come w bits' p' (drop (i + 1) numbers) ≡ total
row_turn w bits p x i numbers out new total bits' p' waiting lt x_is w_is row so_far =
    let rest : List ℕ = drop (i + 1) numbers in
    let front : drop i numbers ≡ x ∷ rest = drop_more numbers i 0 lt ∙ ap (λ y. y ∷ rest) (sym x_is) in
    let e : to_come w bits p (drop i numbers) ≡ digits 8 (bytes_for (bits + w + length rest * w)) (waiting + 2 ^ (bits + w) * joined w rest) = ap (to_come w bits p) front ∙ pack_step w bits p x rest ∙ ap (λ y. digits 8 (bytes_for (bits + w + length rest * w)) (y + 2 ^ (bits + w) * joined w rest)) (sym w_is) in
    row (joined w rest) (length rest * w) ∙ ap (λ (t : List ℕ). out ++ t) (sym e) ∙ so_far

pub row_end : (w bits p i : ℕ) (numbers out total : List ℕ) → length numbers ≤ i → bits < 8 → p < 2 ^ bits → out ++ to_come w bits p (drop i numbers) ≡ total → out ++ cond (ltb 0 bits) (p ∷ []) [] ≡ total
row_end w bits p i numbers out total le few lt so_far =
    ap (λ (t : List ℕ). out ++ t) (sym (ap (to_come w bits p) (drop_all i numbers le) ∙ pack_end w bits p few lt)) ∙ so_far

pub row_ended : (w bits p i : ℕ) (numbers out total : List ℕ) → length numbers ≤ i → bits < 8 → p < 2 ^ bits → out ++ to_come w bits p (drop i numbers) ≡ total → bits ≡ 0 → out ≡ total
row_ended w bits p i numbers out total le few lt so_far none =
    let e = row_end w bits p i numbers out total le few lt so_far in
    let t : ltb 0 bits ≡ false = le-ltb 0 bits (omega arith) in
    sym (append-nil out) ∙ rw t at e

pub row_ended_more : (w bits p i : ℕ) (numbers out new total : List ℕ) → length numbers ≤ i → bits < 8 → p < 2 ^ bits → out ++ to_come w bits p (drop i numbers) ≡ total → bits ≢ 0 → new ≡ out ++ p ∷ [] → new ≡ total
row_ended_more w bits p i numbers out new total le few lt so_far more new_is =
    let e = row_end w bits p i numbers out total le few lt so_far in
    let t : ltb 0 bits ≡ true = lt-ltb 0 bits (omega arith) in
    new_is ∙ rw t at e

-- a byte more waits
pub byte_in : (bits p b rest : ℕ) → p + b * 2 ^ bits + 2 ^ (bits + 8) * rest ≡ p + 2 ^ bits * (b + 256 * rest)
byte_in bits p b rest = joins bits 8 p b rest

-- eight bytes more wait
pub word_in : (bits p word rest all : ℕ) → all ≡ word + 2 ^ 64 * rest → p + word * 2 ^ bits + 2 ^ (bits + 64) * rest ≡ p + 2 ^ bits * all
word_in bits p word rest all all_is = joins bits 64 p word rest ∙ ap (λ x. p + 2 ^ bits * x) (sym all_is)

same_tests : (b n : ℕ) → ((b == 0) && (n == 0)) ≡ ((b + 256 * n) == 0)
same_tests b n = grind (arith, nat_tests)

pub joined_zero : (bs : List ℕ) → list_all (λ b. b == 0) bs ≡ (joined 8 bs == 0)
joined_zero [] = refl
joined_zero (b ∷ bs) = ap (λ t. (b == 0) && t) (joined_zero bs) ∙ same_tests b (joined 8 bs)

-- ---- digits come out of the bits that wait

power_split : (w bits : ℕ) → w ≤ bits → 2 ^ bits ≡ 2 ^ w * 2 ^ (bits - w)
power_split w bits le = let e : bits ≡ w + (bits - w) = omega arith in ap (λ x. 2 ^ x) e ∙ pow-add 2 w (bits - w)

regrouped : (w bits p more : ℕ) → w ≤ bits → p + 2 ^ bits * more ≡ p + 2 ^ w * (2 ^ (bits - w) * more)
regrouped w bits p more le = let e = ap (λ x. x * more) (power_split w bits le) in omega arith

pub digit_out : (w bits p more : ℕ) → w ≤ bits → (p + 2 ^ bits * more) % 2 ^ w ≡ p % 2 ^ w
digit_out w bits p more le = rw (regrouped w bits p more le) (add-mul-mod_self_left p (2 ^ w) (2 ^ (bits - w) * more))

pub digit_left : (w bits p more : ℕ) → w ≤ bits → (p + 2 ^ bits * more) / 2 ^ w ≡ p / 2 ^ w + 2 ^ (bits - w) * more
digit_left w bits p more le = rw (regrouped w bits p more le) (add-mul-div_left p (2 ^ (bits - w) * more) (pow_pos w))

pub left_below : (w bits p : ℕ) → w ≤ bits → p < 2 ^ bits → p / 2 ^ w < 2 ^ (bits - w)
left_below w bits p le lt = shr_below p (bits - w) w (let e : bits - w + w ≡ bits = omega arith in rw e lt)

-- the byte at a place of fewer than eight
pub byte_within : (bits i len p b : ℕ) → bits ≡ 8 * i → i < len → len < 8 → p < 2 ^ bits → b < 2 ^ 8 → p + b * 2 ^ bits < 2 ^ 64
byte_within bits i len p b is lt few p_lt b_lt =
    let h : p + b * 2 ^ bits < 2 ^ (bits + 8) = joins_below bits 8 p b p_lt b_lt in
    let g : 2 ^ (bits + 8) ≤ 2 ^ 64 = pow-le-pow_right {n = 2} (omega arith) {i = bits + 8} {j = 64} (omega arith) in
    omega arith

pub byte_taken : (bits i p : ℕ) (bytes : List ℕ) (total : ℕ) → i < length bytes → p + 2 ^ bits * joined 8 (drop i bytes) ≡ total → p + get_or bytes i 0 * 2 ^ bits + 2 ^ (bits + 8) * joined 8 (drop (i + 1) bytes) ≡ total
byte_taken bits i p bytes total lt so_far =
    byte_in bits p (get_or bytes i 0) (joined 8 (drop (i + 1) bytes)) ∙ ap (λ (t : List ℕ). p + 2 ^ bits * joined 8 t) (sym (drop_more bytes i 0 lt)) ∙ so_far

-- a word behind the bits that wait: the number in front of both, and what is left
pub word_value : (w bits p word more all : ℕ) → w ≤ 64 → all ≡ word + 2 ^ 64 * more → (p + word * 2 ^ bits % 2 ^ 64) % 2 ^ 64 % 2 ^ w ≡ (p + 2 ^ bits * all) % 2 ^ w
word_value w bits p word more all le all_is =
    let q : ℕ = p + word * 2 ^ bits in
    let k : 64 - w + w ≡ 64 = omega arith in
    let a : (p + word * 2 ^ bits % 2 ^ 64) % 2 ^ 64 ≡ q % 2 ^ 64 = add-mod-mod p (word * 2 ^ bits) (2 ^ 64) in
    let b : q % 2 ^ (64 - w + w) % 2 ^ w ≡ q % 2 ^ w = mod-mod-pow q (64 - w) w in
    let c : q % 2 ^ 64 % 2 ^ w ≡ q % 2 ^ w = ap (λ n. q % 2 ^ n % 2 ^ w) (sym k) ∙ b in
    let d : (q + 2 ^ (bits + 64) * more) % 2 ^ w ≡ q % 2 ^ w = digit_out w (bits + 64) q more (omega arith) in
    ap (λ n. n % 2 ^ w) a ∙ c ∙ sym d ∙ ap (λ n. n % 2 ^ w) (word_in bits p word more all all_is)

word_over : (w bits p word : ℕ) → bits ≤ w → p < 2 ^ bits → (p + word * 2 ^ bits) / 2 ^ w ≡ word / 2 ^ (w - bits)
word_over w bits p word le lt =
    let e : 2 ^ w ≡ 2 ^ bits * 2 ^ (w - bits) = power_split bits w le in
    let a : (p + 2 ^ bits * word) / 2 ^ bits ≡ word = other_digits bits p word lt in
    let b : (p + 2 ^ bits * word) / 2 ^ bits / 2 ^ (w - bits) ≡ (p + 2 ^ bits * word) / (2 ^ bits * 2 ^ (w - bits)) = div-div-eq-div-mul (p + 2 ^ bits * word) (2 ^ bits) (2 ^ (w - bits)) in
    let s : p + word * 2 ^ bits ≡ p + 2 ^ bits * word = omega arith in
    ap (λ n. n / 2 ^ w) s ∙ ap (λ n. (p + 2 ^ bits * word) / n) e ∙ sym b ∙ ap (λ n. n / 2 ^ (w - bits)) a

two_shifts : (word missing : ℕ) → 0 < missing → word / 2 ^ (missing - 1) / 2 ≡ word / 2 ^ missing
two_shifts word missing lt = let e : missing - 1 + 1 ≡ missing = omega arith in shr-shr word (missing - 1) 1 ∙ ap (λ n. word / 2 ^ n) e

pub word_left_below : (w bits p word : ℕ) → bits < w → word < 2 ^ 64 → p < 2 ^ bits → word / 2 ^ (w - bits - 1) / 2 < 2 ^ (64 - (w - bits))
word_left_below w bits p word lt word_lt p_lt =
    let e = two_shifts word (w - bits) (omega arith) in
    elim (cases_lt 64 (w - bits)) [
      | inl wide ↦
          let z : 64 - (w - bits) ≡ 0 = omega arith in
          let g : 2 ^ 64 ≤ 2 ^ (w - bits) = pow-le-pow_right {n = 2} (omega arith) {i = 64} {j = w - bits} (omega arith) in
          let d : word / 2 ^ (w - bits) ≡ 0 = div-eq_of_lt (omega arith) in
          rw (e, d, z) (omega arith)
      | inr narrow ↦ rw e (shr_below word (64 - (w - bits)) (w - bits) (let k : 64 - (w - bits) + (w - bits) ≡ 64 = omega arith in rw k word_lt))
    ]

pub word_left : (w bits p word more all : ℕ) → bits < w → w ≤ 64 → p < 2 ^ bits → all ≡ word + 2 ^ 64 * more → word / 2 ^ (w - bits - 1) / 2 + 2 ^ (64 - (w - bits)) * more ≡ (p + 2 ^ bits * all) / 2 ^ w
word_left w bits p word more all lt le p_lt all_is =
    let a = two_shifts word (w - bits) (omega arith) in
    let b = word_over w bits p word (omega arith) p_lt in
    let k : bits + 64 - w ≡ 64 - (w - bits) = omega arith in
    let d = digit_left w (bits + 64) (p + word * 2 ^ bits) more (omega arith) in
    ap (λ n. n + 2 ^ (64 - (w - bits)) * more) (a ∙ sym b) ∙ ap (λ n. (p + word * 2 ^ bits) / 2 ^ w + 2 ^ n * more) (sym k) ∙ sym d ∙ ap (λ n. n / 2 ^ w) (word_in bits p word more all all_is)

-- a turn of the loop: r is what was left before it, and s what is left after it
pub unpack_turn : (w i count r s x : ℕ) (old new total : List ℕ) → i < count → x ≡ r % 2 ^ w → s ≡ r / 2 ^ w → new ≡ old ++ x ∷ []
    → old ++ digits w (count - i) r ≡ total → new ++ digits w (count - (i + 1)) s ≡ total
unpack_turn w i count r s x old new total lt x_is s_is new_is so_far =
    let k : count - i ≡ suc (count - (i + 1)) = omega arith in
    let one : digits w (count - i) r ≡ x ∷ digits w (count - (i + 1)) s = rw (k, x_is, s_is) refl in
    row_more old new x (digits w (count - (i + 1)) s) (digits w (count - i) r) total new_is one so_far

pub unpack_left : (w i n r s : ℕ) → s ≡ r / 2 ^ w → r ≡ n / 2 ^ (i * w) → s ≡ n / 2 ^ ((i + 1) * w)
unpack_left w i n r s s_is left =
    let k : (i + 1) * w ≡ i * w + w = omega arith in
    s_is ∙ ap (λ x. x / 2 ^ w) left ∙ shr-shr n (i * w) w ∙ ap (λ x. n / 2 ^ x) (sym k)

-- what is left tells whether the number has more digits
pub nothing_left : (n k : ℕ) → n / 2 ^ k ≡ 0 → n < 2 ^ k
nothing_left n k e = let d = mod-add-div n (2 ^ k) in let m = mod_below n (2 ^ k) (pow_pos k) in let z = ap (λ x. 2 ^ k * x) e in omega arith

pub something_left : (n k : ℕ) → 0 < n / 2 ^ k → 2 ^ k ≤ n
something_left n k lt = let d = mod-add-div n (2 ^ k) in let z : 2 ^ k * 1 ≤ 2 ^ k * (n / 2 ^ k) = mul-le-mul_left (2 ^ k) (omega arith) in omega arith

-- the loop has ended
pub unpack_fits : (w bits p more count i n : ℕ) (old total : List ℕ) → count ≤ i → i ≤ count → p ≡ 0 → more ≡ 0 → old ++ digits w (count - i) (p + 2 ^ bits * more) ≡ total → p + 2 ^ bits * more ≡ n / 2 ^ (i * w) → (n < 2 ^ (count * w)) × (old ≡ total)
unpack_fits w bits p more count i n old total le ge p_is more_is so_far left =
    let k : count - i ≡ 0 = omega arith in
    let j : i ≡ count = omega arith in
    let z : p + 2 ^ bits * more ≡ 0 = (let e = ap (λ x. 2 ^ bits * x) more_is in omega arith) in
    (nothing_left n (count * w) (ap (λ x. n / 2 ^ (x * w)) (sym j) ∙ sym left ∙ z), sym (append-nil old) ∙ rw k at so_far)

pub unpack_more : (w bits p more count i n : ℕ) → count ≤ i → i ≤ count → p + 2 ^ bits * more ≡ n / 2 ^ (i * w) → (0 < p) ⊎ (0 < more) → 2 ^ (count * w) ≤ n
unpack_more w bits p more count i n le ge left (inl lt) =
    let j : i ≡ count = omega arith in
    something_left n (count * w) (let e = ap (λ x. n / 2 ^ (x * w)) j in omega arith)
unpack_more w bits p more count i n le ge left (inr lt) =
    let j : i ≡ count = omega arith in
    let m : 2 ^ bits * 1 ≤ 2 ^ bits * more = mul-le-mul_left (2 ^ bits) (omega arith) in
    let q = pow_pos bits in
    something_left n (count * w) (let e = ap (λ x. n / 2 ^ (x * w)) j in omega arith)

pub zero_tested : (bs : List ℕ) → list_all (λ b. b == 0) bs ≡ true → joined 8 bs ≡ 0
zero_tested bs e = eqb-true (joined 8 bs) 0 (sym (joined_zero bs) ∙ e)

pub above_zero_tested : (bs : List ℕ) → list_all (λ b. b == 0) bs ≡ false → 0 < joined 8 bs
above_zero_tested bs e = let h : (joined 8 bs == 0) ≡ false = sym (joined_zero bs) ∙ e in grind (arith, nat_tests)

-- ---- packed numbers are read again, and what is read is packed so

enough_bytes : (bits : ℕ) → 2 ^ bits ≤ 2 ^ (bytes_for bits * 8)
enough_bytes bits = pow-le-pow_right {n = 2} (omega arith) {i = bits} {j = bytes_for bits * 8} (omega arith)

pub joined_packed : (w : ℕ) (xs : List ℕ) → Fit w xs → joined 8 (packed w xs) ≡ joined w xs
joined_packed w xs fit =
    let lt = joined_below w xs fit in
    let le = enough_bytes (length xs * w) in
    joined_back 8 (bytes_for (length xs * w)) (joined w xs) (omega arith)

pub numbers_again : (w : ℕ) (xs : List ℕ) → Fit w xs → digits w (length xs) (joined 8 (packed w xs)) ≡ xs
numbers_again w xs fit = ap (digits w (length xs)) (joined_packed w xs fit) ∙ digits-joined w xs fit

pub packed_is_low : (w : ℕ) (xs : List ℕ) → Fit w xs → joined 8 (packed w xs) < 2 ^ (length xs * w)
packed_is_low w xs fit = rw (joined_packed w xs fit) (joined_below w xs fit)

pub length-packed : (w : ℕ) (xs : List ℕ) → length (packed w xs) ≡ bytes_for (length xs * w)
length-packed w xs = length-digits 8 (bytes_for (length xs * w)) (joined w xs)

pub packed_takes : (w count : ℕ) (bs : List ℕ) → Fit 8 bs → length bs ≡ bytes_for (count * w) → joined 8 bs < 2 ^ (count * w) → packed w (digits w count (joined 8 bs)) ≡ bs
packed_takes w count bs fit len lt =
    let a : length (digits w count (joined 8 bs)) ≡ count = length-digits w count (joined 8 bs) in
    let b : joined w (digits w count (joined 8 bs)) ≡ joined 8 bs = joined_back w count (joined 8 bs) lt in
    rw (a, b, ← len) (digits-joined 8 bs fit)
