-- How many bits of words are set.
use Rattle.std.proofs.Common.{◌≡◌, ◌≢◌, ℕ, zero, suc, ◌+◌, ◌-◌, ◌*◌, ◌/◌, ◌%◌, ◌^◌, ◌<◌, ◌≤◌, Bool, false, nat_eq, cond, inl, inr, List, map, length, get_or, take, refl, sym, ap, ◌∙◌, arith, add-one, count_by, sum_by}
use Rattle.std.specs.Int.RustNames.{count_ones}
use Rattle.std.proofs.lemmas.Bool.{cases_eq}
use Rattle.std.proofs.lemmas.List.{take_all}
use Rattle.std.proofs.lemmas.List.Sums.{sum_by_more, count_by-le-length}
use Rattle.std.proofs.lemmas.List.FromFn.{sum_by-map-range_with_len_more}
use Rattle.std.proofs.lemmas.Nat.{mod-pow-add, ones_cat, ones_le_self, zero_from_ones, mod_below, pow_pos}
use Rattle.std.proofs.lemmas.Nat.Bits.{bit_at-lt}
use Rattle.std.specs.Int.{bit_at}
use Rattle.std.specs.List.{range_with_len}
use Rattle.tt_bits.specs.Words.{is_set, bits_of, Keeps}
use Rattle.tt_bits.proofs.Places.{length-bits_of}

abbrev count_upto : (ℕ → Bool) → ℕ → ℕ
count_upto f n = count_by (λ b. b) (map f (range_with_len 0 n))

count_upto-more : (f : ℕ → Bool) (n : ℕ) → count_upto f (n + 1) ≡ count_upto f n + cond (f n) 1 0
count_upto-more f n = sum_by-map-range_with_len_more (λ b. cond b 1 0) f 0 n n (omega arith)

-- nothing is counted from n on
count_upto-past : (f : ℕ → Bool) (n m : ℕ) → ((p : ℕ) → n ≤ p → f p ≡ false) → count_upto f (n + m) ≡ count_upto f n
count_upto-past f n zero none = let same : n + zero ≡ n = omega arith in ap (count_upto f) same
count_upto-past f n (suc m) none =
    let next : n + suc m ≡ (n + m) + 1 = omega arith in
    let above : n ≤ n + m = omega arith in
    ap (count_upto f) next ∙ count_upto-more f (n + m) ∙ ap (λ t. count_upto f (n + m) + cond t 1 0) (none (n + m) above)
    ∙ (let rest = count_upto-past f n m none in omega arith)

ones_of_bit : (b : ℕ) → b < 2 → count_ones b ≡ cond (nat_eq b 1) 1 0
ones_of_bit b h =
    elim (cases_eq b 0) [
      | inl e ↦ rw e (let least = ones_le_self 0 in omega arith)
      | inr n ↦
          let one : b ≡ 1 = omega arith in
          let some : count_ones 1 ≢ 0 = λ z. absurd (let e : 1 ≡ 0 = zero_from_ones 1 z in omega arith) in
          rw one (let least = ones_le_self 1 in omega arith)
    ]

ones_more : (w j : ℕ) → count_ones (w % 2 ^ suc j) ≡ count_ones (w % 2 ^ j) + cond (nat_eq (bit_at w j) 1) 1 0
ones_more w j =
    let turn : suc j ≡ 1 + j = omega arith in
    ap (λ k. count_ones (w % 2 ^ k)) turn ∙ ap count_ones (mod-pow-add w 1 j)
    ∙ ones_cat j (bit_at w j) (w % 2 ^ j) (mod_below w (2 ^ j) (pow_pos j))
    ∙ (let one = ones_of_bit (bit_at w j) (bit_at-lt w j) in omega arith)

-- within one word
word_count : (ws : List ℕ) (i j : ℕ) → j ≤ 64
    → count_upto (is_set ws) (64 * i + j) ≡ count_upto (is_set ws) (64 * i) + count_ones (get_or ws i 0 % 2 ^ j)
word_count ws i zero h =
    let none : get_or ws i 0 % 1 ≡ 0 = omega arith in
    let least = ones_le_self 0 in
    let nothing : count_ones (get_or ws i 0 % 1) ≡ 0 = ap count_ones none ∙ (omega arith) in
    let same : 64 * i + zero ≡ 64 * i = omega arith in
    ap (count_upto (is_set ws)) same ∙ (omega arith)
word_count ws i (suc j) h =
    let before : j ≤ 64 = omega arith in
    let next : 64 * i + suc j ≡ (64 * i + j) + 1 = omega arith in
    let word : (64 * i + j) / 64 ≡ i = omega arith in
    let low : (64 * i + j) % 64 ≡ j = omega arith in
    let here : is_set ws (64 * i + j) ≡ nat_eq (bit_at (get_or ws i 0) j) 1 =
    ap (λ k. nat_eq (bit_at (get_or ws k 0) ((64 * i + j) % 64)) 1) word ∙ ap (λ k. nat_eq (bit_at (get_or ws i 0) k) 1) low in
    ap (count_upto (is_set ws)) next ∙ count_upto-more (is_set ws) (64 * i + j)
    ∙ ap (λ t. count_upto (is_set ws) (64 * i + j) + cond t 1 0) here
    ∙ (let rest = word_count ws i j before in let more = ones_more (get_or ws i 0) j in omega arith)

words_count : (ws : List ℕ) → ((k : ℕ) → k < length ws → get_or ws k 0 < 2 ^ 64) → (i : ℕ) → i ≤ length ws
    → sum_by count_ones (take i ws) ≡ count_upto (is_set ws) (64 * i)
words_count ws fits zero h = refl
words_count ws fits (suc i) h =
    let within : i < length ws = omega arith in
    let before : i ≤ length ws = omega arith in
    let whole : get_or ws i 0 % 2 ^ 64 ≡ get_or ws i 0 = let fit = fits i within in omega arith in
    let next : 64 * suc i ≡ 64 * i + 64 = omega arith in
    ap (λ k. sum_by count_ones (take k ws)) (sym (add-one i)) ∙ sum_by_more count_ones ws i 0 within
    ∙ (let rest = words_count ws fits i before in
    let word = word_count ws i 64 (omega arith) in
    let same = ap count_ones whole in
    omega arith)
    ∙ sym (ap (count_upto (is_set ws)) next)

pub count_of_words : (n : ℕ) (ws : List ℕ) → Keeps n ws → ((k : ℕ) → k < length ws → get_or ws k 0 < 2 ^ 64)
    → sum_by count_ones ws ≡ count_by (λ b. b) (bits_of n ws)
unfolding bits_of
count_of_words n ws keeps fits =
    let enough = keeps.size.enough in
    let long : 64 * length ws ≡ n + (64 * length ws - n) = omega arith in
    ap (sum_by count_ones) (sym (take_all (length ws) ws (omega arith))) ∙ words_count ws fits (length ws) (omega arith)
    ∙ ap (count_upto (is_set ws)) long ∙ count_upto-past (is_set ws) n (64 * length ws - n) keeps.unused

pub count_fits : (n : ℕ) (ws : List ℕ) → Keeps n ws → ((k : ℕ) → k < length ws → get_or ws k 0 < 2 ^ 64) → n < 2 ^ 64
    → sum_by count_ones ws < 2 ^ 64
count_fits n ws keeps fits small =
    let is = count_of_words n ws keeps fits in
    let most = count_by-le-length (λ b. b) (bits_of n ws) in
    let long = length-bits_of n ws in
    omega arith
