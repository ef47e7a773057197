-- Lists that ascend, and that the numbers of such a list determine it.
use Rattle.std.proofs.Common.{◌≡◌, ℕ, ◌+◌, ◌<◌, ◌≤◌, Bool, true, false, not, ◌||◌, List, [], ◌∷◌, filter, cond, refl, ap, sym, ◌∙◌, inl, inr, arith}
use Rattle.std.proofs.lemmas.Bool.{cases_order, cases_eq, eq-eqb, ne_eqb}
use Rattle.tt_layout.specs.Numbers.{AscendsFrom, IsAscending, has, without, with_number, joined, changed}
use Rattle.tt_layout.proofs.Members.{with_below, with_same, with_above}

pub ascends_lower : (ns : List ℕ) (low high : ℕ) → low ≤ high → AscendsFrom high ns → AscendsFrom low ns
ascends_lower [] low high h up = tt
ascends_lower (n ∷ ns) low high h up = (omega (arith, up.0), up.1)

pub ascends-filter : (test : ℕ → Bool) (ns : List ℕ) (low : ℕ) → AscendsFrom low ns → AscendsFrom low (filter test ns)
ascends-filter test [] low up = tt
ascends-filter test (n ∷ ns) low up = kept (test n) (ascends-filter test ns (n + 1) up.1)
  where
    kept : (b : Bool) → AscendsFrom (n + 1) (filter test ns) → AscendsFrom low (cond b (n ∷ filter test ns) (filter test ns))
    kept true rest = (up.0, rest)
    kept false rest = ascends_lower (filter test ns) low (n + 1) (omega (arith, up.0)) rest

pub ascends-with_number : (ns : List ℕ) (n low : ℕ) → AscendsFrom low ns → low ≤ n → AscendsFrom low (with_number n ns)
ascends-with_number [] n low up h = (h, tt)
ascends-with_number (m ∷ ms) n low up h =
    elim (cases_order m n) [
      | inl same ↦ rw (with_same n m ms same) up
      | inr (inl below) ↦ rw (with_below n m ms below) (up.0, ascends-with_number ms n (m + 1) up.1 (omega arith))
      | inr (inr above) ↦ rw (with_above n m ms above) (h, (omega arith, up.1))
    ]

pub ascends-joined : (ms ns : List ℕ) (low : ℕ) → AscendsFrom low ns → AscendsFrom low ms → AscendsFrom low (joined ns ms)
ascends-joined [] ns low left right = left
ascends-joined (m ∷ ms) ns low left right =
    ascends-joined ms (with_number m ns) low (ascends-with_number ns m low left right.0) (ascends_lower ms low (m + 1) (omega (arith, right.0)) right.1)

pub ascends-changed : (ns gone added : List ℕ) → IsAscending ns → IsAscending added → IsAscending (changed ns gone added)
ascends-changed ns gone added up right =
    ascends-joined added (without gone ns) 0 (ascends-filter (λ n. not (has gone n)) ns 0 up) right

-- ---- a list is its numbers

pub has_below : (ns : List ℕ) (low k : ℕ) → AscendsFrom low ns → k < low → has ns k ≡ false
has_below [] low k up h = refl
has_below (n ∷ ns) low k up h =
    ap (λ (b : Bool). b || has ns k) (ne_eqb n k (λ e. omega (arith, up.0))) ∙ has_below ns (n + 1) k up.1 (omega (arith, up.0))

has_first : (n : ℕ) (ns : List ℕ) → has (n ∷ ns) n ≡ true
has_first n ns = ap (λ (b : Bool). b || has ns n) (eq-eqb n n refl)

has_later : (n : ℕ) (ns : List ℕ) (k : ℕ) → (n ≡ k → ⊥) → has (n ∷ ns) k ≡ has ns k
has_later n ns k h = ap (λ (b : Bool). b || has ns k) (ne_eqb n k h)

first_below : (n m : ℕ) (ns ms : List ℕ) → AscendsFrom (m + 1) ms → ((k : ℕ) → has (n ∷ ns) k ≡ has (m ∷ ms) k) → n < m → ⊥
first_below n m ns ms up same h =
    let there : has (n ∷ ns) n ≡ true = has_first n ns in
    let absent : has (m ∷ ms) n ≡ false = has_below (m ∷ ms) m n (omega arith, up) h in
    let both : has (n ∷ ns) n ≡ has (m ∷ ms) n = same n in
    absurd (cc)

pub same_numbers : (ns ms : List ℕ) (low : ℕ) → AscendsFrom low ns → AscendsFrom low ms → ((k : ℕ) → has ns k ≡ has ms k) → ns ≡ ms
same_numbers [] [] low left right same = refl
same_numbers [] (m ∷ ms) low left right same =
    let there : has (m ∷ ms) m ≡ true = has_first m ms in
    let both : false ≡ has (m ∷ ms) m = same m in
    absurd (cc)
same_numbers (n ∷ ns) [] low left right same =
    let there : has (n ∷ ns) n ≡ true = has_first n ns in
    let both : has (n ∷ ns) n ≡ false = same n in
    absurd (cc)
same_numbers (n ∷ ns) (m ∷ ms) low left right same =
    elim (cases_order n m) [
      | inl e ↦ tails e (λ up all. same_numbers ns ms (n + 1) left.1 up all)
      | inr (inl below) ↦ absurd (first_below n m ns ms right.1 same below)
      | inr (inr above) ↦ absurd (first_below m n ms ns left.1 (λ k. sym (same k)) above)
    ]
  where
    in_tails : n ≡ m → (k : ℕ) → has ns k ≡ has ms k
    in_tails e k =
        elim (cases_eq n k) [
          | inl here ↦ has_below ns (n + 1) k left.1 (omega arith) ∙ sym (has_below ms (m + 1) k right.1 (omega arith))
          | inr away ↦ sym (has_later n ns k away) ∙ same k ∙ has_later m ms k (λ x. away (e ∙ x))
        ]

    tails : n ≡ m → (AscendsFrom (n + 1) ms → ((k : ℕ) → has ns k ≡ has ms k) → ns ≡ ms) → n ∷ ns ≡ m ∷ ms
    tails e later =
        let rest : ns ≡ ms = later (ascends_lower ms (n + 1) (m + 1) (omega arith) right.1) (in_tails e) in
        cc
