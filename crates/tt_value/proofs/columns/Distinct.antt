-- Distinct values, ascending: however they are found, they are the same list.
use Rattle.std.proofs.Common.{◌≡◌, ℕ, suc, ◌+◌, ◌<◌, Bool, true, false, ◌||◌, ◌⊎◌, inl, inr, cond, List, [], ◌∷◌, length, get_or, refl, sym, ap, subst, ◌∙◌, add-one, arith, Ordering}
use Rattle.std.specs.declared.cmp.Ordering.TheVariants.{Less, Equal, Greater}
use Rattle.std.specs.Cmp.{IsTotalOrder}
use Rattle.std.specs.Ordering.{is_eq, is_lt, ordering_reverse, match_ordering, eq_by_cmp}
use Rattle.std.specs.List.{AllByRecursion, list_any, dedup, dedup_from}
use Rattle.std.specs.List.Sorted.{IsSorted, IsPermutation}
use Rattle.std.proofs.lemmas.Cmp.{tied_itself}
use Rattle.std.proofs.lemmas.List.Sorted.{list_any-IsPermutation}
use Rattle.tt_value.specs.values.Order.{TiesAreSame}
use Rattle.tt_value.specs.columns.Body.{with_value, distinct}

module _ {V : Type 0} (cmp : V → V → Ordering) (total : IsTotalOrder cmp) (ties : TiesAreSame cmp) where
  abbrev pub Above : V → List V → Type 0
  Above x ys = AllByRecursion (λ y. cmp x y ≡ Less) ys

  abbrev pub Ascends : List V → Type 0
  Ascends [] = Unit {0}
  Ascends (x ∷ xs) = Above x xs × Ascends xs

  abbrev pub has : V → List V → Bool
  has u xs = list_any (λ x. is_eq (cmp u x)) xs

  -- the other way round
  turned : (x y : V) → cmp x y ≡ Greater → cmp y x ≡ Less
  turned x y e = total.antisymm y x ∙ ap ordering_reverse e

  pub not_itself : (x : V) → cmp x x ≡ Less → ⊥
  not_itself x e = let t = tied_itself total x in cc

  pub above_more : (x y : V) (zs : List V) → cmp x y ≡ Less → Above y zs → Above x zs
  above_more x y [] lt h = tt
  above_more x y (z ∷ zs) lt h = (total.trans x y z lt h.0, above_more x y zs lt h.1)

  above_with : (x v : V) (ds : List V) → cmp x v ≡ Less → Above x ds → Above x (with_value cmp v ds)
  above_with x v [] lt h = (lt, tt)
  above_with x v (d ∷ ds) lt h = go (above_with x v ds lt h.1) (cmp v d)
    where
      go : Above x (with_value cmp v ds) → (o : Ordering) → Above x (match_ordering o (v ∷ d ∷ ds) (d ∷ ds) (d ∷ with_value cmp v ds))
      go ih Less = (lt, (h.0, h.1))
      go ih Equal = h
      go ih Greater = (h.0, ih)

  pub ascends_with : (v : V) (ds : List V) → Ascends ds → Ascends (with_value cmp v ds)
  ascends_with v [] up = (tt, tt)
  ascends_with v (d ∷ ds) up = go (ascends_with v ds up.1) (cmp v d) refl
    where
      go : Ascends (with_value cmp v ds) → (o : Ordering) → cmp v d ≡ o → Ascends (match_ordering o (v ∷ d ∷ ds) (d ∷ ds) (d ∷ with_value cmp v ds))
      go ih Less e = ((e, above_more v d ds e up.0), up)
      go ih Equal e = up
      go ih Greater e = (above_with d v ds (turned v d e) up.0, ih)

  or_swap : (a b c : Bool) → (a || (b || c)) ≡ (b || (a || c))
  or_swap true true c = refl
  or_swap true false c = refl
  or_swap false b c = refl

  or_twice : (a c : Bool) → (a || (a || c)) ≡ (a || c)
  or_twice true c = refl
  or_twice false c = refl

  pub has_with : (u v : V) (ds : List V) → has u (with_value cmp v ds) ≡ (is_eq (cmp u v) || has u ds)
  has_with u v [] = refl
  has_with u v (d ∷ ds) = go (has_with u v ds) (cmp v d) refl
    where
      go : has u (with_value cmp v ds) ≡ (is_eq (cmp u v) || has u ds) → (o : Ordering) → cmp v d ≡ o → has u (match_ordering o (v ∷ d ∷ ds) (d ∷ ds) (d ∷ with_value cmp v ds)) ≡ (is_eq (cmp u v) || (is_eq (cmp u d) || has u ds))
      go ih Less e = refl
      go ih Equal e = rw (ties v d e) (sym (or_twice (is_eq (cmp u d)) (has u ds)))
      go ih Greater e = ap (λ b. is_eq (cmp u d) || b) ih ∙ or_swap (is_eq (cmp u d)) (is_eq (cmp u v)) (has u ds)

  pub distinct_ascends : (vs : List V) → Ascends (distinct cmp vs)
  distinct_ascends [] = tt
  distinct_ascends (v ∷ vs) = ascends_with v (distinct cmp vs) (distinct_ascends vs)

  pub has_distinct : (u : V) (vs : List V) → has u (distinct cmp vs) ≡ has u vs
  has_distinct u [] = refl
  has_distinct u (v ∷ vs) = has_with u v (distinct cmp vs) ∙ ap (λ b. is_eq (cmp u v) || b) (has_distinct u vs)

  -- what stands above a value has not the value
  pub above_lacks : (x : V) (ys : List V) → Above x ys → has x ys ≡ false
  above_lacks x [] h = refl
  above_lacks x (y ∷ ys) h = rw h.0 (above_lacks x ys h.1)

  -- a member of what stands above x is above x
  pub above_has : (x u : V) (ys : List V) → Above x ys → has u ys ≡ true → cmp x u ≡ Less
  above_has x u [] h e = absurd cc
  above_has x u (y ∷ ys) h e = go (above_has x u ys h.1) (cmp u y) refl e
    where
      go : (has u ys ≡ true → cmp x u ≡ Less) → (o : Ordering) → cmp u y ≡ o → (is_eq o || has u ys) ≡ true → cmp x u ≡ Less
      go ih Less o-is e = ih e
      go ih Equal o-is e = rw (ties u y o-is) h.0
      go ih Greater o-is e = ih e

  -- heads of ascending lists with the same members
  pub has_head : (x : V) (xs : List V) → has x (x ∷ xs) ≡ true
  has_head x xs = ap (λ o. is_eq o || has x xs) (tied_itself total x)

  same_head : (x y : V) (xs ys : List V) → Above x xs → Above y ys → has x (y ∷ ys) ≡ true → has y (x ∷ xs) ≡ true → x ≡ y
  same_head x y xs ys p q hx hy = go (cmp x y) refl
    where
      one : (o : Ordering) → cmp x y ≡ o → (is_eq o || has x ys) ≡ true → (x ≡ y) ⊎ (cmp y x ≡ Less)
      one Less e h = inr (above_has y x ys q h)
      one Equal e h = inl (ties x y e)
      one Greater e h = inr (above_has y x ys q h)

      two : (o : Ordering) → cmp y x ≡ o → (is_eq o || has y xs) ≡ true → (x ≡ y) ⊎ (cmp x y ≡ Less)
      two Less e h = inr (above_has x y xs p h)
      two Equal e h = inl (sym (ties y x e))
      two Greater e h = inr (above_has x y xs p h)

      go : (o : Ordering) → cmp x y ≡ o → x ≡ y
      go o e = elim (one (cmp x y) refl hx) [
        | inl same ↦ same
        | inr less ↦ elim (two (cmp y x) refl hy) [ inl same ↦ same | inr more ↦ absurd (not_itself x (total.trans x y x more less)) ]
      ]

  tail_has : (u x : V) (xs ys : List V) → Above x xs → Above x ys → (is_eq (cmp u x) || has u xs) ≡ (is_eq (cmp u x) || has u ys) → has u xs ≡ has u ys
  tail_has u x xs ys p q e = go (cmp u x) refl e
    where
      go : (o : Ordering) → cmp u x ≡ o → (is_eq o || has u xs) ≡ (is_eq o || has u ys) → has u xs ≡ has u ys
      go Less o-is e = e
      go Equal o-is e = rw (ties u x o-is) (above_lacks x xs p ∙ sym (above_lacks x ys q))
      go Greater o-is e = e

  pub same_ascending : (xs ys : List V) → Ascends xs → Ascends ys → ((u : V) → has u xs ≡ has u ys) → xs ≡ ys
  same_ascending [] [] p q same = refl
  same_ascending [] (y ∷ ys) p q same = let h = same y in let t = has_head y ys in absurd (cc)
  same_ascending (x ∷ xs) [] p q same = let h = same x in let t = has_head x xs in absurd (cc)
  same_ascending (x ∷ xs) (y ∷ ys) p q same =
      let hx : has x (y ∷ ys) ≡ true = sym (same x) ∙ has_head x xs in
      let hy : has y (x ∷ xs) ≡ true = same y ∙ has_head y ys in
      let head : x ≡ y = same_head x y xs ys p.0 q.0 hx hy in
      let q' : Above x ys = subst (λ z. Above z ys) (sym head) q.0 in
      let same' : (u : V) → has u (x ∷ xs) ≡ has u (x ∷ ys) = λ u. same u ∙ ap (λ z. has u (z ∷ ys)) (sym head) in
      let tails : xs ≡ ys = same_ascending xs ys p.1 q.1 (λ u. tail_has u x xs ys p.0 q' (same' u)) in
      cc

  -- ---- sorted, and then each value once

  abbrev pub RisesFrom : V → List V → Type 0
  RisesFrom k [] = Unit {0}
  RisesFrom k (x ∷ xs) = (is_lt (cmp x k) ≡ false) × RisesFrom x xs

  next_above : (k x : V) → is_lt (cmp x k) ≡ false → is_eq (cmp x k) ≡ false → cmp k x ≡ Less
  next_above k x a b = go (cmp x k) refl a b
    where
      go : (o : Ordering) → cmp x k ≡ o → is_lt o ≡ false → is_eq o ≡ false → cmp k x ≡ Less
      go Less e a b = absurd cc
      go Equal e a b = absurd cc
      go Greater e a b = turned x k e

  not_less : (x k : V) → cmp x k ≡ Less → is_lt (cmp x k) ≡ false → ⊥
  not_less x k e h = let t = ap is_lt e in cc

  above_dedup : (j k : V) (xs : List V) → cmp j k ≡ Less → RisesFrom k xs → Above j (dedup_from (eq_by_cmp cmp) k xs)
  above_dedup j k [] lt up = (lt, tt)
  above_dedup j k (x ∷ xs) lt up = go (λ k lt up. above_dedup j k xs lt up) (cmp x k) refl
    where
      go : ((k : V) → cmp j k ≡ Less → RisesFrom k xs → Above j (dedup_from (eq_by_cmp cmp) k xs)) → (o : Ordering) → cmp x k ≡ o → Above j (cond (is_eq o) (dedup_from (eq_by_cmp cmp) k xs) (k ∷ dedup_from (eq_by_cmp cmp) x xs))
      go ih Less e = absurd (not_less x k e up.0)
      go ih Equal e = ih k lt (subst (λ z. RisesFrom z xs) (ties x k e) up.1)
      go ih Greater e = (lt, ih x (total.trans j k x lt (turned x k e)) up.1)

  ascends_dedup : (k : V) (xs : List V) → RisesFrom k xs → Ascends (dedup_from (eq_by_cmp cmp) k xs)
  ascends_dedup k [] up = (tt, tt)
  ascends_dedup k (x ∷ xs) up = go (λ k up. ascends_dedup k xs up) (cmp x k) refl
    where
      go : ((k : V) → RisesFrom k xs → Ascends (dedup_from (eq_by_cmp cmp) k xs)) → (o : Ordering) → cmp x k ≡ o → Ascends (cond (is_eq o) (dedup_from (eq_by_cmp cmp) k xs) (k ∷ dedup_from (eq_by_cmp cmp) x xs))
      go ih Less e = absurd (not_less x k e up.0)
      go ih Equal e = ih k (subst (λ z. RisesFrom z xs) (ties x k e) up.1)
      go ih Greater e = (above_dedup k x xs (turned x k e) up.1, ih x up.1)

  has_dedup : (u k : V) (xs : List V) → has u (dedup_from (eq_by_cmp cmp) k xs) ≡ (is_eq (cmp u k) || has u xs)
  has_dedup u k [] = refl
  has_dedup u k (x ∷ xs) = go (λ k. has_dedup u k xs) (cmp x k) refl
    where
      go : ((k : V) → has u (dedup_from (eq_by_cmp cmp) k xs) ≡ (is_eq (cmp u k) || has u xs)) → (o : Ordering) → cmp x k ≡ o → has u (cond (is_eq o) (dedup_from (eq_by_cmp cmp) k xs) (k ∷ dedup_from (eq_by_cmp cmp) x xs)) ≡ (is_eq (cmp u k) || (is_eq (cmp u x) || has u xs))
      go ih Less e = ap (λ b. is_eq (cmp u k) || b) (ih x)
      go ih Equal e = ih k ∙ rw (ties x k e) (sym (or_twice (is_eq (cmp u k)) (has u xs)))
      go ih Greater e = ap (λ b. is_eq (cmp u k) || b) (ih x)

  rises : (k : V) (xs : List V) → ((n : ℕ) (d : V) → suc n < length (k ∷ xs) → is_lt (cmp (get_or (k ∷ xs) (suc n) d) (get_or (k ∷ xs) n d)) ≡ false) → RisesFrom k xs
  rises k [] sorted = tt
  rises k (x ∷ xs) sorted = (sorted 0 k (omega arith), rises x xs (λ n d lt. sorted (suc n) d (omega arith)))

  risen : (k : V) (xs : List V) → IsSorted cmp (k ∷ xs) → RisesFrom k xs
  risen k xs up = rises k xs (λ n d lt. let h : is_lt (cmp (get_or (k ∷ xs) (n + 1) d) (get_or (k ∷ xs) n d)) ≡ false = up n d (omega arith) (omega arith) in subst (λ m. is_lt (cmp (get_or (k ∷ xs) m d) (get_or (k ∷ xs) n d)) ≡ false) (add-one n) h)

  pub distinct_from_sorted : (vs sorted once : List V) → IsPermutation vs sorted → IsSorted cmp sorted → once ≡ dedup (eq_by_cmp cmp) sorted → once ≡ distinct cmp vs
  distinct_from_sorted vs [] once perm up once_is = same_ascending once (distinct cmp vs) (rw once_is tt) (distinct_ascends vs) (λ u. rw once_is (sym (has_distinct u vs ∙ list_any-IsPermutation (λ x. is_eq (cmp u x)) vs [] perm)))
  distinct_from_sorted vs (k ∷ xs) once perm up once_is =
      same_ascending once (distinct cmp vs) (rw once_is (ascends_dedup k xs (risen k xs up))) (distinct_ascends vs)
      (λ u. rw once_is (has_dedup u k xs ∙ sym (has_distinct u vs ∙ list_any-IsPermutation (λ x. is_eq (cmp u x)) vs (k ∷ xs) perm)))
