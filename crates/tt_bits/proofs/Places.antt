-- The bits of words by their places.
use Rattle.std.proofs.Common.{◌≡◌, ◌≢◌, ℕ, ◌+◌, ◌-◌, ◌*◌, ◌/◌, ◌%◌, ◌^◌, ◌<◌, ◌≤◌, min, max, Bool, true, false, nat_eq, not, ◌&&◌, ◌||◌, cond, ◌⊎◌, inl, inr, List, [], ◌∷◌, ◌++◌, map, length, get_or, set, refl, sym, ap, subst, ◌∙◌, arith, bit_and, bit_or, replicate, IsTrue, ◌↔◌}
use Rattle.std.proofs.lemmas.Bool.{cases_eq, cases_lt, eq-eqb, ne_eqb, eqb-true, and_left, or_from}
use Rattle.std.proofs.lemmas.List.{get_or-set_same, get_or-set_other, get_or_past, ext_get_or, get_or-replicate, length-replicate, length-map, get_or_push, get_or_append_left, length_push, get_or-map}
use Rattle.std.proofs.lemmas.List.FromFn.{length-map-range_with_len, get_or-map-range_with_len}
use Rattle.std.proofs.lemmas.Slice.Zip.{length-zip, get_or-zip}
use Rattle.std.proofs.lemmas.Nat.{shr_split, mod_below, pow_pos, and_mask, one_shl}
use Rattle.std.proofs.lemmas.Nat.Bits.{bit_at_cat_low, bit_at_above, bit_at-zero, bit_at-lt, bit_at_and, bit_at_or, bit_at_not, bit_at_ones, bit_at_set_same, bit_at_set_other}
use Rattle.std.specs.Int.{bit_at, bit_not, w64}
use Rattle.std.specs.List.{zip}
use Rattle.tt_bits.specs.Bits.{both, either}
use Rattle.tt_bits.specs.Words.{is_set, bits_of, AreWordsFor, Keeps}

abbrev at_bit : ℕ → ℕ → Bool
at_bit word j = nat_eq (bit_at word j) 1

pub length-bits_of : (n : ℕ) (ws : List ℕ) → length (bits_of n ws) ≡ n
unfolding bits_of
length-bits_of n ws = length-map-range_with_len (is_set ws) 0 n

pub get_or-bits_of : (n : ℕ) (ws : List ℕ) (i : ℕ) → i < n → get_or (bits_of n ws) i false ≡ is_set ws i
unfolding bits_of
get_or-bits_of n ws i h = get_or-map-range_with_len (is_set ws) 0 n i i false h (omega arith)

-- the bits are a list that agrees at each place
pub bits_are : (n : ℕ) (ws : List ℕ) (xs : List Bool) → length xs ≡ n
    → ((i : ℕ) → i < n → is_set ws i ≡ get_or xs i false) → bits_of n ws ≡ xs
bits_are n ws xs long same =
    ext_get_or false (bits_of n ws) xs (length-bits_of n ws ∙ sym long)
    (λ i h. let within : i < n = subst (λ m. i < m) (length-bits_of n ws) h in get_or-bits_of n ws i within ∙ same i within)

pub is_set_same : (ws : List ℕ) (j v place : ℕ) → place / 64 ≡ j → j < length ws → is_set (set ws j v) place ≡ at_bit v (place % 64)
is_set_same ws j v place at h =
    ap (λ w. at_bit w (place % 64)) (ap (λ k. get_or (set ws j v) k 0) at ∙ get_or-set_same ws j v 0 h)

pub is_set_other : (ws : List ℕ) (j v place : ℕ) → place / 64 ≢ j → is_set (set ws j v) place ≡ is_set ws place
is_set_other ws j v place apart = ap (λ w. at_bit w (place % 64)) (get_or-set_other ws j (place / 64) v 0 apart)

pub is_set_in : (ws : List ℕ) (j place : ℕ) → place / 64 ≡ j → is_set ws place ≡ at_bit (get_or ws j 0) (place % 64)
is_set_in ws j place at = ap (λ k. at_bit (get_or ws k 0) (place % 64)) at

pub is_set_past : (ws : List ℕ) (place : ℕ) → 64 * length ws ≤ place → is_set ws place ≡ false
is_set_past ws place h =
    let past : length ws ≤ place / 64 = omega arith in
    ap (λ w. at_bit w (place % 64)) (get_or_past ws (place / 64) 0 past) ∙ ap (λ b. nat_eq b 1) (bit_at-zero (place % 64))

-- ---- what is left of the last word
pub bit_low : (w r j : ℕ) → j < r → bit_at (w % 2 ^ r) j ≡ bit_at w j
bit_low w r j h = sym (bit_at_cat_low (w / 2 ^ r) r (w % 2 ^ r) j h) ∙ ap (λ v. bit_at v j) (shr_split w r)

pub bit_high : (w r j : ℕ) → r ≤ j → bit_at (w % 2 ^ r) j ≡ 0
bit_high w r j h = bit_at_above (w % 2 ^ r) r j (mod_below w (2 ^ r) (pow_pos r)) h

pub masked_is : (w r : ℕ) → r < 64 → bit_and w (1 * 2 ^ r % 2 ^ 64 - 1) ≡ w % 2 ^ r
masked_is w r h = ap (λ m. bit_and w (m - 1)) (one_shl r 64 h) ∙ and_mask w r

abbrev pub masked : ℕ → List ℕ → ℕ → List ℕ
masked n ws last = set ws last (get_or ws last 0 % 2 ^ (n % 64))

pub is_set-masked_below : (n : ℕ) (ws : List ℕ) (last : ℕ) → AreWordsFor n ws → n % 64 ≢ 0 → last ≡ length ws - 1
    → (place : ℕ) → place < n → is_set (masked n ws last) place ≡ is_set ws place
is_set-masked_below n ws last size used e place h =
    let enough = size.enough in
    let no_more = size.no_more in
    elim (cases_eq (place / 64) last) [
      | inl at ↦
          let low : place % 64 < n % 64 = omega arith in
          let within : last < length ws = omega arith in
          is_set_same ws last _ place at within
          ∙ ap (λ b. nat_eq b 1) (bit_low (get_or ws last 0) (n % 64) (place % 64) low)
          ∙ sym (is_set_in ws last place at)
      | inr apart ↦ is_set_other ws last _ place apart
    ]

pub is_set-masked_above : (n : ℕ) (ws : List ℕ) (last : ℕ) → AreWordsFor n ws → n % 64 ≢ 0 → last ≡ length ws - 1
    → (place : ℕ) → n ≤ place → is_set (masked n ws last) place ≡ false
is_set-masked_above n ws last size used e place h =
    let enough = size.enough in
    let no_more = size.no_more in
    elim (cases_eq (place / 64) last) [
      | inl at ↦
          let high : n % 64 ≤ place % 64 = omega arith in
          let within : last < length ws = omega arith in
          is_set_same ws last _ place at within
          ∙ ap (λ b. nat_eq b 1) (bit_high (get_or ws last 0) (n % 64) (place % 64) high)
      | inr apart ↦
          let past : 64 * length ws ≤ place = omega arith in
          is_set_other ws last _ place apart ∙ is_set_past ws place past
    ]

-- ---- one more word, one more bit
pub is_set-push_zero : (ws : List ℕ) (place : ℕ) → is_set (ws ++ 0 ∷ []) place ≡ is_set ws place
is_set-push_zero ws place = ap (λ w. at_bit w (place % 64)) (same (place / 64)) where
  same : (k : ℕ) → get_or (ws ++ 0 ∷ []) k 0 ≡ get_or ws k 0
  same k =
      elim (cases_lt k (length ws)) [
        | inl h ↦ get_or_append_left ws (0 ∷ []) 0 k h
        | inr h ↦ elim (cases_eq k (length ws)) [
          | inl e ↦ get_or_push ws 0 0 k (sym e) ∙ sym (get_or_past ws k 0 h)
          | inr n ↦
              let past : length (ws ++ 0 ∷ []) ≤ k = omega (arith, length_push ws 0) in
              get_or_past (ws ++ 0 ∷ []) k 0 past ∙ sym (get_or_past ws k 0 h)
        ]
      ]

pub size_more_full : (n : ℕ) (ws : List ℕ) → AreWordsFor n ws → n % 64 ≡ 0 → AreWordsFor (n + 1) (ws ++ 0 ∷ [])
size_more_full n ws size full =
    let enough = size.enough in
    let no_more = size.no_more in
    let long = length_push ws 0 in
    record { enough = omega arith; no_more = omega arith }

pub size_more : (n : ℕ) (ws : List ℕ) → AreWordsFor n ws → n % 64 ≢ 0 → AreWordsFor (n + 1) ws
size_more n ws size used =
    let enough = size.enough in
    let no_more = size.no_more in
    record { enough = omega arith; no_more = omega arith }

pub is_set-put_true : (ws : List ℕ) (place other : ℕ) → place < 64 * length ws
    → is_set (set ws (place / 64) (bit_or (get_or ws (place / 64) 0) (1 * 2 ^ (place % 64) % 2 ^ 64))) other
    ≡ cond (nat_eq other place) true (is_set ws other)
is_set-put_true ws place other h =
    let within : place / 64 < length ws = omega arith in
    let low : place % 64 < 64 = omega arith in
    elim (cases_eq (other / 64) (place / 64)) [
      | inl at ↦ elim (cases_eq (other % 64) (place % 64)) [
        | inl j ↦
            let same : other ≡ place = omega arith in
            is_set_same ws _ _ other at within
            ∙ ap (λ k. at_bit (bit_or (get_or ws (place / 64) 0) (1 * 2 ^ (place % 64) % 2 ^ 64)) k) j
            ∙ ap (λ b. nat_eq b 1) (bit_at_set_same w64 (get_or ws (place / 64) 0) (place % 64) low)
            ∙ sym (ap (λ t. cond t true (is_set ws other)) (eq-eqb other place same))
        | inr j ↦
            let apart : other ≢ place = λ e. j (ap (λ k. k % 64) e) in
            is_set_same ws _ _ other at within
            ∙ ap (λ b. nat_eq b 1) (bit_at_set_other w64 (get_or ws (place / 64) 0) (place % 64) low (other % 64) j)
            ∙ sym (is_set_in ws _ other at)
            ∙ sym (ap (λ t. cond t true (is_set ws other)) (ne_eqb other place apart))
      ]
      | inr n ↦
          let apart : other ≢ place = λ e. n (ap (λ k. k / 64) e) in
          is_set_other ws _ _ other n ∙ sym (ap (λ t. cond t true (is_set ws other)) (ne_eqb other place apart))
    ]

pub put_false : (ws : List ℕ) (place other : ℕ) → is_set ws place ≡ false → is_set ws other ≡ cond (nat_eq other place) false (is_set ws other)
put_false ws place other unset =
    elim (cases_eq other place) [
      | inl e ↦ ap (is_set ws) e ∙ unset ∙ sym (ap (λ t. cond t false (is_set ws other)) (eq-eqb other place e))
      | inr n ↦ sym (ap (λ t. cond t false (is_set ws other)) (ne_eqb other place n))
    ]

-- ---- two lists of words, bit by bit
bit_cases : (b : ℕ) → b < 2 → (b ≡ 0) ⊎ (b ≡ 1)
bit_cases b h = elim (cases_eq b 0) [ inl e ↦ inl e | inr n ↦ inr (omega arith) ]

min_test : (a b : ℕ) → a < 2 → b < 2 → nat_eq (min a b) 1 ≡ (nat_eq a 1 && nat_eq b 1)
min_test a b p q =
    elim (bit_cases a p) [
      | inl e ↦ elim (bit_cases b q) [ inl f ↦ rw (e, f) refl | inr f ↦ rw (e, f) refl ]
      | inr e ↦ elim (bit_cases b q) [ inl f ↦ rw (e, f) refl | inr f ↦ rw (e, f) refl ]
    ]

max_test : (a b : ℕ) → a < 2 → b < 2 → nat_eq (max a b) 1 ≡ (nat_eq a 1 || nat_eq b 1)
max_test a b p q =
    elim (bit_cases a p) [
      | inl e ↦ elim (bit_cases b q) [ inl f ↦ rw (e, f) refl | inr f ↦ rw (e, f) refl ]
      | inr e ↦ elim (bit_cases b q) [ inl f ↦ rw (e, f) refl | inr f ↦ rw (e, f) refl ]
    ]

turned_test : (a : ℕ) → a < 2 → nat_eq (1 - a) 1 ≡ not (nat_eq a 1)
turned_test a p = elim (bit_cases a p) [ inl e ↦ rw e refl | inr e ↦ rw e refl ]

pub and_places : (xs ys zs : List ℕ) → length ys ≡ length xs → length zs ≡ length xs
    → ((k : ℕ) → k < length xs → get_or zs k 0 ≡ bit_and (get_or xs k 0) (get_or ys k 0))
    → (place : ℕ) → is_set zs place ≡ (is_set xs place && is_set ys place)
and_places xs ys zs long longer same place =
    elim (cases_lt (place / 64) (length xs)) [
      | inl h ↦
          ap (λ w. at_bit w (place % 64)) (same (place / 64) h)
          ∙ ap (λ b. nat_eq b 1) (bit_at_and _ _ (place % 64))
          ∙ min_test _ _ (bit_at-lt _ (place % 64)) (bit_at-lt _ (place % 64))
      | inr h ↦
          let past : 64 * length xs ≤ place = omega arith in
          let past_too : 64 * length zs ≤ place = omega arith in
          is_set_past zs place past_too ∙ sym (and_left _ (is_set ys place) (is_set_past xs place past))
    ]

pub or_places : (xs ys zs : List ℕ) → length ys ≡ length xs → length zs ≡ length xs
    → ((k : ℕ) → k < length xs → get_or zs k 0 ≡ bit_or (get_or xs k 0) (get_or ys k 0))
    → (place : ℕ) → is_set zs place ≡ (is_set xs place || is_set ys place)
or_places xs ys zs long longer same place =
    elim (cases_lt (place / 64) (length xs)) [
      | inl h ↦
          ap (λ w. at_bit w (place % 64)) (same (place / 64) h)
          ∙ ap (λ b. nat_eq b 1) (bit_at_or _ _ (place % 64))
          ∙ max_test _ _ (bit_at-lt _ (place % 64)) (bit_at-lt _ (place % 64))
      | inr h ↦
          let past : 64 * length xs ≤ place = omega arith in
          let past_ys : 64 * length ys ≤ place = omega arith in
          let past_zs : 64 * length zs ≤ place = omega arith in
          is_set_past zs place past_zs ∙ sym (or_from _ _ (is_set_past xs place past) (is_set_past ys place past_ys))
    ]

pub not_places : (xs zs : List ℕ) → ((k : ℕ) → k < length xs → get_or xs k 0 < 2 ^ 64)
    → ((k : ℕ) → k < length xs → get_or zs k 0 ≡ bit_not w64 (get_or xs k 0))
    → (place : ℕ) → place < 64 * length xs → is_set zs place ≡ not (is_set xs place)
not_places xs zs fits same place h =
    let within : place / 64 < length xs = omega arith in
    let low : place % 64 < 64 = omega arith in
    ap (λ w. at_bit w (place % 64)) (same (place / 64) within)
    ∙ ap (λ b. nat_eq b 1) (bit_at_not w64 (get_or xs (place / 64) 0) (place % 64) (fits (place / 64) within) low)
    ∙ turned_test _ (bit_at-lt _ (place % 64))

-- ---- the lists of bits that they give
length-pairs : (f : Bool × Bool → Bool) (n : ℕ) (xs ys : List Bool) → length xs ≡ n → length ys ≡ n → length (map f (zip xs ys)) ≡ n
length-pairs f n xs ys p q = length-map (zip xs ys) f ∙ length-zip xs ys ∙ (omega arith)

get_or-pairs : (f : Bool × Bool → Bool) (n : ℕ) (xs ys : List Bool) → length xs ≡ n → length ys ≡ n → (i : ℕ) → i < n
    → get_or (map f (zip xs ys)) i false ≡ f (get_or xs i false, get_or ys i false)
get_or-pairs f n xs ys p q i h =
    let left : i < length xs = omega arith in
    let right : i < length ys = omega arith in
    let within : i < length (zip xs ys) = omega (arith, length-zip xs ys) in
    get_or-map f (zip xs ys) i (false, false) false within ∙ ap f (get_or-zip xs ys i (false, false) left right)

pub bits_both : (n : ℕ) (xs ys zs : List ℕ) → ((place : ℕ) → is_set zs place ≡ (is_set xs place && is_set ys place))
    → bits_of n zs ≡ both (bits_of n xs) (bits_of n ys)
bits_both n xs ys zs same =
    bits_are n zs _ (length-pairs _ n (bits_of n xs) (bits_of n ys) (length-bits_of n xs) (length-bits_of n ys))
    (λ i h. same i ∙ ap (λ b. b && is_set ys i) (sym (get_or-bits_of n xs i h)) ∙ ap (λ b. get_or (bits_of n xs) i false && b) (sym (get_or-bits_of n ys i h))
    ∙ sym (get_or-pairs (λ p. p.0 && p.1) n (bits_of n xs) (bits_of n ys) (length-bits_of n xs) (length-bits_of n ys) i h))

pub bits_either : (n : ℕ) (xs ys zs : List ℕ) → ((place : ℕ) → is_set zs place ≡ (is_set xs place || is_set ys place))
    → bits_of n zs ≡ either (bits_of n xs) (bits_of n ys)
bits_either n xs ys zs same =
    bits_are n zs _ (length-pairs _ n (bits_of n xs) (bits_of n ys) (length-bits_of n xs) (length-bits_of n ys))
    (λ i h. same i ∙ ap (λ b. b || is_set ys i) (sym (get_or-bits_of n xs i h)) ∙ ap (λ b. get_or (bits_of n xs) i false || b) (sym (get_or-bits_of n ys i h))
    ∙ sym (get_or-pairs (λ p. p.0 || p.1) n (bits_of n xs) (bits_of n ys) (length-bits_of n xs) (length-bits_of n ys) i h))

pub bits_turned : (n : ℕ) (xs zs : List ℕ) → ((place : ℕ) → place < n → is_set zs place ≡ not (is_set xs place))
    → bits_of n zs ≡ map not (bits_of n xs)
bits_turned n xs zs same =
    bits_are n zs _ (length-map (bits_of n xs) not ∙ length-bits_of n xs)
    (λ i h.
    let within : i < length (bits_of n xs) = subst (λ m. i < m) (sym (length-bits_of n xs)) h in
    same i h ∙ ap not (sym (get_or-bits_of n xs i h)) ∙ sym (get_or-map not (bits_of n xs) i false false within))

pub bits_filled : (n : ℕ) (zs : List ℕ) (bit : Bool) → ((place : ℕ) → place < n → is_set zs place ≡ bit) → bits_of n zs ≡ replicate n bit
bits_filled n zs bit same = bits_are n zs _ (length-replicate n bit) (λ i h. same i h ∙ sym (get_or-replicate n i bit false h))

pub bits_pushed : (n : ℕ) (xs zs : List ℕ) (bit : Bool) → ((place : ℕ) → is_set zs place ≡ cond (nat_eq place n) bit (is_set xs place))
    → bits_of (n + 1) zs ≡ bits_of n xs ++ bit ∷ []
bits_pushed n xs zs bit same =
    bits_are (n + 1) zs _ (length_push (bits_of n xs) bit ∙ ap (λ m. m + 1) (length-bits_of n xs))
    (λ i h. elim (cases_eq i n) [
      | inl e ↦
          same i ∙ ap (λ t. cond t bit (is_set xs i)) (eq-eqb i n e)
          ∙ sym (get_or_push (bits_of n xs) bit false i (length-bits_of n xs ∙ sym e))
      | inr d ↦
          let within : i < n = omega arith in
          let inside : i < length (bits_of n xs) = subst (λ m. i < m) (sym (length-bits_of n xs)) within in
          same i ∙ ap (λ t. cond t bit (is_set xs i)) (ne_eqb i n d) ∙ sym (get_or-bits_of n xs i within)
          ∙ sym (get_or_append_left (bits_of n xs) (bit ∷ []) false i inside)
    ])

pub unused_pushed : (n : ℕ) (xs zs : List ℕ) (bit : Bool) → ((place : ℕ) → n ≤ place → is_set xs place ≡ false)
    → ((place : ℕ) → is_set zs place ≡ cond (nat_eq place n) bit (is_set xs place))
    → (place : ℕ) → n + 1 ≤ place → is_set zs place ≡ false
unused_pushed n xs zs bit unused same place h =
    let apart : place ≢ n = λ e. absurd (omega arith) in
    let above : n ≤ place = omega arith in
    same place ∙ ap (λ t. cond t bit (is_set xs place)) (ne_eqb place n apart) ∙ unused place above

-- ---- words that are all 0 or all 1
pub is_set-replicate_zero : (k place : ℕ) → is_set (replicate k 0) place ≡ false
is_set-replicate_zero k place =
    elim (cases_lt (place / 64) k) [
      | inl h ↦ ap (λ w. at_bit w (place % 64)) (get_or-replicate k (place / 64) 0 0 h) ∙ ap (λ b. nat_eq b 1) (bit_at-zero (place % 64))
      | inr h ↦ let past : 64 * length (replicate k 0) ≤ place = omega (arith, length-replicate {A = ℕ} k 0) in is_set_past (replicate k 0) place past
    ]

pub is_set-replicate_ones : (k place : ℕ) → place < 64 * k → is_set (replicate k (2 ^ 64 - 1)) place ≡ true
is_set-replicate_ones k place h =
    let within : place / 64 < k = omega arith in
    let low : place % 64 < 64 = omega arith in
    ap (λ w. at_bit w (place % 64)) (get_or-replicate k (place / 64) (2 ^ 64 - 1) 0 within) ∙ ap (λ b. nat_eq b 1) (bit_at_ones 64 (place % 64) low)

-- ---- two lists of bits of one length take as many words
pub same_size : (n m : ℕ) (xs ys : List ℕ) → AreWordsFor n xs → AreWordsFor m ys → n ≡ m → length ys ≡ length xs
same_size n m xs ys p q e =
    let a = p.enough in
    let b = p.no_more in
    let c = q.enough in
    let d = q.no_more in
    omega arith

-- the same, from what is seen of them
pub same_size_seen : (n m : ℕ) (xs ys : List ℕ) (left right : List Bool) → Keeps n xs → Keeps m ys → bits_of n xs ≡ left → bits_of m ys ≡ right
    → length left ≡ length right → (n ≡ m) × (length ys ≡ length xs)
same_size_seen n m xs ys left right p q e f long =
    let same : n ≡ m = sym (length-bits_of n xs) ∙ ap length e ∙ long ∙ ap length (sym f) ∙ length-bits_of m ys in
    (same, same_size n m xs ys p.size q.size same)

pub Keeps-same_size : (n : ℕ) (xs zs : List ℕ) → Keeps n xs → length zs ≡ length xs
    → ((place : ℕ) → n ≤ place → is_set zs place ≡ false) → Keeps n zs
Keeps-same_size n xs zs keeps long unused =
    let a = keeps.size.enough in
    let b = keeps.size.no_more in
    record { size = record { enough = omega arith; no_more = omega arith }; unused = unused }

-- ---- no bits
no_bits : (xs : List Bool) → length xs ≡ 0 → xs ≡ []
no_bits [] e = refl
no_bits (x ∷ xs) e = absurd (omega arith)

pub bits_empty : (n : ℕ) (ws : List ℕ) (bits : List Bool) → bits_of n ws ≡ bits → IsTrue (nat_eq n 0) ↔ (bits ≡ [])
bits_empty n ws bits e = (
  λ none. no_bits bits (ap length (sym e) ∙ length-bits_of n ws ∙ eqb-true n 0 none),
  λ none. eq-eqb n 0 (sym (length-bits_of n ws) ∙ ap length (e ∙ none)),
)

-- no bit of any words
pub bits_none : (words : List ℕ) → bits_of 0 words ≡ []
unfolding bits_of
bits_none words = refl
