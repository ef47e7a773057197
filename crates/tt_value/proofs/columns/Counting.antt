-- A count that is at most the number of the distinct values: of each number that values have, one value is counted.
use Rattle.std.proofs.Common.{◌≡◌, ℕ, zero, suc, ◌+◌, ◌-◌, ◌*◌, ◌^◌, ◌≤◌, ◌<◌, Bool, true, false, ◌||◌, List, [], ◌∷◌, length, get_or, set, take, refl, sym, ap, ◌∙◌, eq-eqb, arith, Ordering, ◌⊎◌, inl, inr}
use Rattle.std.specs.Prelude.{◌==◌}
use Rattle.std.specs.declared.cmp.Ordering.TheVariants.{Less, Equal, Greater}
use Rattle.std.specs.Cmp.{IsTotalOrder}
use Rattle.std.specs.Ordering.{is_eq, eq_by_cmp}
use Rattle.std.specs.List.{AllByRecursion, IsDistinct, list_any}
use Rattle.std.proofs.lemmas.Bool.{eqb-true, cases_lt}
use Rattle.std.proofs.lemmas.Cmp.{eq_by_cmp_equiv}
use Rattle.std.proofs.lemmas.Grind.{get_or-set_at}
use Rattle.std.proofs.lemmas.List.{get_or-set_other}
use Rattle.std.proofs.lemmas.List.Folds.{list_any_kept, list_any_more}
use Rattle.std.proofs.lemmas.Map.Made.{length-le_from_is_member}
use Rattle.std.proofs.lemmas.Nat.{leading_length, pow-add}
use Rattle.std.proofs.Math.Nat.{pow-le-pow_right, mul-le-mul_left}
use Rattle.tt_value.specs.values.Order.{TiesAreSame}
use Rattle.tt_value.specs.columns.Packing.{bytes_for, width_of}
use Rattle.tt_value.specs.columns.Body.{distinct}
use Rattle.tt_value.proofs.columns.Distinct.{has_distinct}

or_either : (b c : Bool) → (b || c) ≡ true → (b ≡ true) ⊎ (c ≡ true)
or_either true c e = inl refl
or_either false c e = inr e

or_true : (b : Bool) {c : Bool} → c ≡ true → (b || c) ≡ true
or_true true e = refl
or_true false e = e

is_equal : (o : Ordering) → is_eq o ≡ true → o ≡ Equal
is_equal Less h = absurd cc
is_equal Equal h = refl
is_equal Greater h = absurd cc

module _ {V : Type 0} (cmp : V → V → Ordering) (total : IsTotalOrder cmp) (ties : TiesAreSame cmp) (number : V → ℕ) where
  -- the numbers of these values have come
  abbrev pub Marked : List Bool → List V → Type 0
  Marked seen vs = AllByRecursion (λ v. get_or seen (number v) false ≡ true) vs

  -- so many of the values have been counted, each with a number of its own that has come
  abbrev pub AreCounted : List Bool → List V → ℕ → Type 0
  AreCounted seen vs count = (firsts : List V) × (length firsts ≡ count) × IsDistinct (eq_by_cmp cmp) firsts
      × ((q : V) → list_any (λ v. is_eq (cmp q v)) firsts ≡ true → list_any (λ v. is_eq (cmp q v)) vs ≡ true) × Marked seen firsts

  pub none_counted : (seen : List Bool) → AreCounted seen [] 0
  unfolding IsDistinct
  none_counted seen = ([], refl, tt, λ q h. h, tt)

  pub counted_before : (seen : List Bool) (vs : List V) (i count : ℕ) → AreCounted seen (take i vs) count → AreCounted seen (take (i + 1) vs) count
  counted_before seen vs i count c = (c.0, c.1, c.2, λ q h. list_any_kept (λ v. is_eq (cmp q v)) vs i (c.3 q h), c.4)

  any_in_front : (p : V → Bool) (vs : List V) (i : ℕ) → list_any p (take i vs) ≡ true → list_any p vs ≡ true
  any_in_front p [] zero h = absurd cc
  any_in_front p [] (suc i) h = absurd cc
  any_in_front p (v ∷ vs) zero h = absurd cc
  any_in_front p (v ∷ vs) (suc i) h = go (any_in_front p vs i) (p v) h
    where
      go : (list_any p (take i vs) ≡ true → list_any p vs ≡ true) → (b : Bool) → (b || list_any p (take i vs)) ≡ true → (b || list_any p vs) ≡ true
      go later true e = refl
      go later false e = later e

  -- what has been counted in front is counted of all
  pub counted_in_front : (seen : List Bool) (vs : List V) (i count : ℕ) → AreCounted seen (take i vs) count → AreCounted seen vs count
  counted_in_front seen vs i count c = (c.0, c.1, c.2, λ q h. any_in_front (λ v. is_eq (cmp q v)) vs i (c.3 q h), c.4)

  apart : (v : V) (seen : List Bool) (vs : List V) → get_or seen (number v) false ≡ false → Marked seen vs → AllByRecursion (λ y. eq_by_cmp cmp v y ≡ false) vs
  apart v seen [] new marked = tt
  apart v seen (y ∷ ys) new marked = (go (is_eq (cmp v y)) refl, apart v seen ys new marked.1)
    where
      go : (b : Bool) → is_eq (cmp v y) ≡ b → b ≡ false
      go false t = refl
      go true t = let e : v ≡ y = ties v y (is_equal (cmp v y) t) in let h : get_or seen (number v) false ≡ true = ap (λ u. get_or seen (number u) false) e ∙ marked.0 in absurd cc

  marked_still : (v : V) (seen : List Bool) (vs : List V) → number v < length seen → Marked seen vs → Marked (set seen (number v) true) vs
  marked_still v seen [] lt marked = tt
  marked_still v seen (y ∷ ys) lt marked = (go (number y == number v) refl, marked_still v seen ys lt marked.1)
    where
      go : (b : Bool) → (number y == number v) ≡ b → get_or (set seen (number v) true) (number y) false ≡ true
      go true t = get_or-set_at seen (number v) (number y) true false (eqb-true (number y) (number v) t) lt
      go false t = get_or-set_other seen (number v) (number y) true false (λ e. let h = ap (λ n. n == number v) e in differs (number v) (sym t ∙ h)) ∙ marked.0
        where
          differs : (n : ℕ) → false ≡ (n == n) → ⊥
          differs n h = let e = eq_itself n in absurd cc
            where
              eq_itself : (n : ℕ) → (n == n) ≡ true
              eq_itself n = eq-eqb n n refl

  pub counted_more : (seen : List Bool) (vs : List V) (i : ℕ) (d : V) (count : ℕ) → i < length vs → number (get_or vs i d) < length seen → get_or seen (number (get_or vs i d)) false ≡ false
      → AreCounted seen (take i vs) count → AreCounted (set seen (number (get_or vs i d)) true) (take (i + 1) vs) (count + 1)
  unfolding IsDistinct
  counted_more seen vs i d count lt within new c =
      let v : V = get_or vs i d in (
        v ∷ c.0,
        (let e = c.1 in omega arith),
        (apart v seen c.0 new c.4, c.2),
        λ q h. go q (or_either (is_eq (cmp q v)) (list_any (λ u. is_eq (cmp q u)) c.0) h),
        (get_or-set_at seen (number v) (number v) true false refl within, marked_still v seen c.0 within c.4),
      )
    where
      go : (q : V) → (is_eq (cmp q (get_or vs i d)) ≡ true) ⊎ (list_any (λ u. is_eq (cmp q u)) c.0 ≡ true) → list_any (λ u. is_eq (cmp q u)) (take (i + 1) vs) ≡ true
      go q (inl h) = list_any_more (λ u. is_eq (cmp q u)) vs i d lt ∙ or_true (list_any (λ u. is_eq (cmp q u)) (take i vs)) h
      go q (inr h) = list_any_kept (λ u. is_eq (cmp q u)) vs i (c.3 q h)

  pub counted_le : (seen : List Bool) (vs : List V) (count : ℕ) → AreCounted seen vs count → count ≤ length (distinct cmp vs)
  counted_le seen vs count c =
      let le : length c.0 ≤ length (distinct cmp vs) = length-le_from_is_member (eq_by_cmp_equiv total) c.0 (distinct cmp vs) c.2 (λ q h. has_distinct cmp total ties q vs ∙ c.3 q h) in
      let e = c.1 in
      omega arith

-- a greater number has as many digits or more
pub width_rises : (a b : ℕ) → a ≤ b → b < 2 ^ 64 → width_of a ≤ width_of b
width_rises a b le lt =
    let p = leading_length 64 a (omega arith) in
    let q = leading_length 64 b lt in
    let wa : width_of a ≡ p.0 = (let h = p.1 in omega arith) in
    let wb : width_of b ≡ q.0 = (let h = q.1 in omega arith) in
    elim (cases_lt q.0 p.0) [
      | inl less ↦
          let r : 2 ^ (q.0 + 1) ≤ 2 ^ p.0 = pow-le-pow_right {n = 2} (omega arith) {i = q.0 + 1} {j = p.0} (omega arith) in
          let s : 2 ^ (q.0 + 1) ≡ 2 ^ q.0 * 2 = pow-add 2 q.0 1 in
          let x = p.3 in
          let y = q.2 in
          absurd (omega arith)
      | inr more ↦ omega arith
    ]

-- a dictionary of more values is as long or longer
pub dictionary_grows : (size m a b : ℕ) → a ≤ b → b ≤ 2 ^ 64 → 4 + a * size + bytes_for (m * width_of (a - 1)) ≤ 4 + b * size + bytes_for (m * width_of (b - 1))
dictionary_grows size m a b le few =
    let w : width_of (a - 1) ≤ width_of (b - 1) = width_rises (a - 1) (b - 1) (omega arith) (omega arith) in
    let p : m * width_of (a - 1) ≤ m * width_of (b - 1) = mul-le-mul_left m w in
    let q : size * a ≤ size * b = mul-le-mul_left size le in
    omega arith
