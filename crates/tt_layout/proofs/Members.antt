-- Which numbers a list has.
use Rattle.std.proofs.Common.{◌≡◌, ℕ, ◌<◌, Bool, true, false, not, ◌&&◌, ◌||◌, List, [], ◌∷◌, filter, ◌==◌, cond, refl, ap, sym, ◌∙◌, inl, inr, arith}
use Rattle.std.specs.List.{list_all}
use Rattle.std.proofs.lemmas.Bool.{cases_order, cases_Bool, lt-ltb, le-ltb, eq-eqb, ne_eqb, eqb-true, and_parts, or_cases, not-true}
use Rattle.tt_layout.specs.Numbers.{has, HasAll, HasNone, without, with_number, joined, changed}

-- ---- tests

or_swap : (a b c : Bool) → (a || (b || c)) ≡ (b || (a || c))
or_swap true true c = refl
or_swap true false c = refl
or_swap false true c = refl
or_swap false false c = refl

or_first : (a b c : Bool) → ((a || b) || c) ≡ (b || (a || c))
or_first true true c = refl
or_first true false c = refl
or_first false true c = refl
or_first false false c = refl

or_same : (a c : Bool) → (a || (a || c)) ≡ (a || c)
or_same true c = refl
or_same false c = refl

-- ---- with one more number

pub with_below : (n m : ℕ) (ms : List ℕ) → m < n → with_number n (m ∷ ms) ≡ m ∷ with_number n ms
with_below n m ms h = rw (lt-ltb m n h) refl

pub with_same : (n m : ℕ) (ms : List ℕ) → m ≡ n → with_number n (m ∷ ms) ≡ m ∷ ms
with_same n m ms h = rw (le-ltb m n (omega arith), eq-eqb m n h) refl

pub with_above : (n m : ℕ) (ms : List ℕ) → n < m → with_number n (m ∷ ms) ≡ n ∷ m ∷ ms
with_above n m ms h = rw (le-ltb m n (omega arith), ne_eqb m n (λ e. omega arith)) refl

has-with_number : (n : ℕ) (ns : List ℕ) (k : ℕ) → has (with_number n ns) k ≡ ((n == k) || has ns k)
has-with_number n [] k = refl
has-with_number n (m ∷ ms) k =
    elim (cases_order m n) [
      | inl same ↦ ap (λ (xs : List ℕ). has xs k) (with_same n m ms same)
          ∙ sym (or_same (m == k) (has ms k)) ∙ ap (λ (x : ℕ). (x == k) || ((m == k) || has ms k)) same
      | inr (inl below) ↦ ap (λ (xs : List ℕ). has xs k) (with_below n m ms below)
          ∙ ap (λ (b : Bool). (m == k) || b) (has-with_number n ms k) ∙ or_swap (m == k) (n == k) (has ms k)
      | inr (inr above) ↦ ap (λ (xs : List ℕ). has xs k) (with_above n m ms above)
    ]

pub has-joined : (ns ms : List ℕ) (k : ℕ) → has (joined ns ms) k ≡ (has ns k || has ms k)
has-joined ns [] k = or_none (has ns k)
  where
    or_none : (b : Bool) → b ≡ (b || false)
    or_none true = refl
    or_none false = refl
has-joined ns (m ∷ ms) k =
    has-joined (with_number m ns) ms k
    ∙ ap (λ (b : Bool). b || has ms k) (has-with_number m ns k)
    ∙ regroup (m == k) (has ns k) (has ms k)
  where
    regroup : (a b c : Bool) → ((a || b) || c) ≡ (b || (a || c))
    regroup a b c = or_first a b c

-- ---- without some

pub has-filter : (test : ℕ → Bool) (ns : List ℕ) (k : ℕ) → has (filter test ns) k ≡ (has ns k && test k)
has-filter test [] k = refl
has-filter test (m ∷ ms) k =
    elim (cases_Bool (test m)) [
      | inl kept ↦ ap (λ (b : Bool). has (cond b (m ∷ filter test ms) (filter test ms)) k) kept
          ∙ ap (λ (b : Bool). (m == k) || b) (has-filter test ms k)
          ∙ at_kept (m == k) (has ms k) (test k) (λ e. sym (ap test (eqb-true m k e)) ∙ kept)
      | inr left ↦ ap (λ (b : Bool). has (cond b (m ∷ filter test ms) (filter test ms)) k) left
          ∙ has-filter test ms k
          ∙ at_left (m == k) (has ms k) (test k) (λ e. sym (ap test (eqb-true m k e)) ∙ left)
    ]
  where
    at_kept : (a b t : Bool) → (a ≡ true → t ≡ true) → (a || (b && t)) ≡ ((a || b) && t)
    at_kept true b t h = sym (h refl)
    at_kept false b t h = refl

    at_left : (a b t : Bool) → (a ≡ true → t ≡ false) → (b && t) ≡ ((a || b) && t)
    at_left true true t h = refl
    at_left true false t h = sym (h refl)
    at_left false b t h = refl

pub has-without : (gone ns : List ℕ) (k : ℕ) → has (without gone ns) k ≡ (has ns k && not (has gone k))
has-without gone ns k = has-filter (λ n. not (has gone n)) ns k

pub has-changed : (ns gone added : List ℕ) (k : ℕ) → has (changed ns gone added) k ≡ ((has ns k && not (has gone k)) || has added k)
has-changed ns gone added k = has-joined (without gone ns) added k ∙ ap (λ (b : Bool). b || has added k) (has-without gone ns k)

-- ---- all and none

holds_of : (test : ℕ → Bool) (ms : List ℕ) (k : ℕ) → list_all test ms ≡ true → has ms k ≡ true → test k ≡ true
holds_of test [] k all there = absurd (cc)
holds_of test (m ∷ ms) k all there =
    let parts : (test m ≡ true) × (list_all test ms ≡ true) = and_parts (test m) (list_all test ms) all in
    elim (or_cases (m == k) (has ms k) there) [
      | inl here ↦ sym (ap test (eqb-true m k here)) ∙ parts.0
      | inr later ↦ holds_of test ms k parts.1 later
    ]

pub has_all : (ns ms : List ℕ) (k : ℕ) → HasAll ns ms → has ms k ≡ true → has ns k ≡ true
has_all ns ms k all there = holds_of (λ n. has ns n) ms k all there

pub has_none : (ns ms : List ℕ) (k : ℕ) → HasNone ns ms → has ms k ≡ true → has ns k ≡ false
has_none ns ms k none there = not-true (has ns k) (holds_of (λ n. not (has ns n)) ms k none there)
