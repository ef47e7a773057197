-- How the views of all seats stand after one of them changed.
use Rattle.std.proofs.Common.{◌≡◌, ◌≢◌, ◌⊎◌, ℕ, ◌<◌, true, List, [], ◌∷◌, ◌++◌, length, set, get_or, Contains, zero, suc, refl, ap, sym, ◌∙◌, subst, inl, inr, ⊎_elim, arith}
use mathlib.Core.Logic.{dite}
use mathlib.Core.Option.{some, some-injective, some-ne-none}
use native.Mathlib.Decide.{ℕ_discrete}
use lib.ListN.{get_elem?}
use Rattle.atomic_table.proofs.Lists.{at_set, set_here, set_else}
use Rattle.tt_seatlock.specs.declared.view.View.{View}
use Rattle.tt_seatlock.specs.Rule.{HasSeat}

-- a list of one element is as it was where that element is set to itself
pub one_kept : (ws : List ℕ) → length ws ≡ 1 → set ws 0 (get_or ws 0 0) ≡ ws
one_kept [] one = absurd (omega arith)
one_kept (x ∷ xs) one = refl

-- what is found at a place lies in the list
pub place_in : {A : Type 0} (l : List A) (i : ℕ) (a : A) → get_elem? l i ≡ some a → i < length l
place_in [] i a e = absurd (some-ne-none a (sym e))
place_in (x ∷ xs) zero a e = omega arith
place_in (x ∷ xs) (suc i) a e = let h = place_in xs i a e in omega arith

module _ {E G : Type 0} where
  -- a fact of each seat in use, once the seat id was changed
  pub each_set : (P : ℕ → View E G → Type 0) (vs : List (View E G)) (id : ℕ) (w : View E G) → (w.live ≡ true → P id w)
      → ((j : ℕ) (v : View E G) → j ≢ id → get_elem? vs j ≡ some v → v.live ≡ true → P j v)
      → (j : ℕ) (v : View E G) → get_elem? (set vs id w) j ≡ some v → v.live ≡ true → P j v
  each_set P vs id w mine others j v at live =
      ⊎_elim (λ (t : (j ≡ id) × (w ≡ v)). subst (λ (x : ℕ × View E G). P x.0 x.1) (λ i. (sym t.0 i, t.1 i)) (mine (ap (λ (u : View E G). u.live) t.1 ∙ live)))
      (λ (t : (j ≢ id) × (get_elem? vs j ≡ some v)). others j v t.0 t.1 live) (at_set vs id j w v at)

  -- the seat j, as it was before
  abbrev pub Was : List (View E G) → ℕ → View E G → Type 0
  Was vs j u = (v : View E G) × (get_elem? vs j ≡ some v) × (v.live ≡ true) × (v.number ≡ u.number)

  pub was_set : (vs : List (View E G)) (id : ℕ) (v w : View E G) → get_elem? vs id ≡ some v → (w.live ≡ true → (v.live ≡ true) × (v.number ≡ w.number))
      → (j : ℕ) (u : View E G) → get_elem? (set vs id w) j ≡ some u → u.live ≡ true → Was vs j u
  was_set vs id v w at same =
      each_set (λ j u. Was vs j u) vs id w (λ live. (v, at, (same live).0, (same live).1)) (λ j u other there live. (u, there, live, refl))

  abbrev pub Apart : List (View E G) → Type 0
  Apart vs = (i j : ℕ) (v w : View E G) → get_elem? vs i ≡ some v → get_elem? vs j ≡ some w → v.live ≡ true → w.live ≡ true → v.number ≡ w.number → i ≡ j

  -- seats stay apart where each was a seat of the same number
  pub apart_after : (vs ws : List (View E G)) → Apart vs → ((j : ℕ) (u : View E G) → get_elem? ws j ≡ some u → u.live ≡ true → Was vs j u) → Apart ws
  apart_after vs ws apart was i j v w at there live living same =
      let p = was i v at live in
      let q = was j w there living in
      apart i j p.0 q.0 p.1 q.1 p.2 q.2 (p.3 ∙ (same ∙ sym q.3))

  -- a number keeps its seat where the seat that changed keeps its own
  pub seat_set : (vs : List (View E G)) (id : ℕ) (v w : View E G) → get_elem? vs id ≡ some v → w.live ≡ true → v.number ≡ w.number
      → (n : ℕ) → HasSeat vs n → HasSeat (set vs id w) n
  seat_set vs id v w at live same n has =
      let A : Type 0 = HasSeat (set vs id w) n in
      dite (ℕ_discrete has.0 id)
      (λ e. let is : has.1 ≡ v = some-injective _ _ (sym has.2 ∙ (ap (get_elem? vs) e ∙ at)) in
      (id, w, set_here vs id w (place_in vs id v at), live, sym same ∙ (sym (ap (λ (u : View E G). u.number) is) ∙ has.4)))
      (λ ne. (has.0, has.1, set_else vs id has.0 w ne ∙ has.2, has.3, has.4))

  -- what holds of a seat holds of it still where the seat that changed keeps that
  pub some_set : (Q : View E G → Type 0) (vs : List (View E G)) (id : ℕ) (v w : View E G) → get_elem? vs id ≡ some v → (Q v → Q w)
      → (j : ℕ) (u : View E G) → get_elem? vs j ≡ some u → Q u → (x : View E G) × (get_elem? (set vs id w) j ≡ some x) × Q x
  some_set Q vs id v w at keeps j u there is =
      dite (ℕ_discrete j id)
      (λ e. let same : u ≡ v = some-injective _ _ (sym there ∙ (ap (get_elem? vs) e ∙ at)) in
      (w, ap (get_elem? (set vs id w)) e ∙ set_here vs id w (place_in vs id v at), keeps (subst Q same is)))
      (λ ne. (u, set_else vs id j w ne ∙ there, is))

  -- what is found after one seat more was found before, or is the new seat
  pub at_end : (l : List (View E G)) (a b : View E G) (j : ℕ) → get_elem? (l ++ a ∷ []) j ≡ some b → (get_elem? l j ≡ some b) ⊎ ((j ≡ length l) × (a ≡ b))
  at_end [] a b zero e = inr (refl, some-injective a b e)
  at_end [] a b (suc j) e = absurd (some-ne-none b (sym e))
  at_end (x ∷ xs) a b zero e = inl e
  at_end (x ∷ xs) a b (suc j) e = ⊎_elim inl (λ t. inr (ap suc t.0, t.1)) (at_end xs a b j e)

-- a list of one element contains no other
one_at : {X : Type 0} (x y : X) (k : ℕ) → k < 1 → get_or (x ∷ []) k y ≡ y → x ≡ y
one_at x y zero h e = e
one_at x y (suc k) h e = absurd (omega arith)

pub contains_one : {X : Type 0} (x y : X) → Contains (x ∷ []) y → x ≡ y
contains_one x y c = one_at x y c.0 c.1 c.2
