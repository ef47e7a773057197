-- For callers: how number 0 comes to keep every other number, as `close` asks.
use Rattle.std.proofs.Common.{◌≡◌, ℕ, zero, suc, ◌+◌, ◌-◌, ◌<◌, List, [], ◌∷◌, map, length, slice_index_or, Contains, refl, ap, sym, ◌∙◌, subst, arith}
use Rattle.std.proofs.lemmas.List.Elements.{Contains-append_left, Contains-append_right}
use mathlib.Core.Logic.{dite}
use native.Mathlib.Decide.{ℕ_discrete}
use lib.ListN.{length-map}
use Rattle.tt_seatlock.specs.Passes.{Known, with_joined, KeepsBelow, KeepsAll}

module _ {E : Type 0} where
  -- below 1 there is nothing to keep
  pub keeps_none : (k : Known E) → KeepsBelow k 1
  keeps_none k j above below = absurd (omega arith)

  -- what was joined is kept
  pub keeps_joined : (k l m : Known E) → m ≡ with_joined k l → Contains m.kept (l.number, l.own)
  keeps_joined k l m is = subst (λ (x : Known E). Contains x.kept (l.number, l.own)) (sym is) (Contains-append_right k.kept ((l.number, l.own) ∷ []) (l.number, l.own) (0, omega arith, refl))

  -- what was kept is kept still
  pub keeps_still : (k l m : Known E) → m ≡ with_joined k l → (n : ℕ) (own : List E) → Contains k.kept (n, own) → Contains m.kept (n, own)
  keeps_still k l m is n own had = subst (λ (x : Known E). Contains x.kept (n, own)) (sym is) (Contains-append_left k.kept ((l.number, l.own) ∷ []) (n, own) had)

  -- after number n was joined into it, number 0 keeps one number more
  pub keeps_next : (k l m : Known E) (n : ℕ) → m ≡ with_joined k l → l.number ≡ n → KeepsBelow k n → KeepsBelow m (n + 1)
  keeps_next k l m n is named keeps j above below = dite (ℕ_discrete j n)
      (λ e. (l.own, subst (λ (x : ℕ). Contains m.kept (x, l.own)) (named ∙ sym e) (keeps_joined k l m is)))
      (λ ne. let had = keeps j above (omega arith) in (had.0, keeps_still k l m is j had.0 had.1))

  pub keeps_all : (k : Known E) (n : ℕ) → k.made ≡ n → KeepsBelow k n → KeepsAll k
  keeps_all k n is keeps j above below = keeps j above (omega arith)

module _ {P : Type 0} where
  -- the item at a place, whatever stands in for a missing one
  item_at : (ps : List P) (i : ℕ) → i < length ps → (p : P) × ((d : P) → slice_index_or ps i d ≡ p)
  item_at [] i h = absurd (omega arith)
  item_at (p ∷ ps) zero h = (p, λ d. refl)
  item_at (p ∷ ps) (suc i) h = item_at ps i (omega arith)

  mapped_at : {Y : Type 0} (f : P → Y) (ps : List P) (i : ℕ) (e : Y) (d : P) → i < length ps → slice_index_or (map f ps) i e ≡ f (slice_index_or ps i d)
  mapped_at f [] i e d h = absurd (omega arith)
  mapped_at f (p ∷ ps) zero e d h = refl
  mapped_at f (p ∷ ps) (suc i) e d h = mapped_at f ps i e d (omega arith)

  module _ {E : Type 0} where
    -- after passes with the numbers from 1 on were joined in their order, number 0 keeps them all
    pub keeps_map : (k : P → Known E) (ps : List P) (m : Known E) → m.kept ≡ map (λ p. ((k p).number, (k p).own)) ps
        → ((i : ℕ) (d : P) → i < length ps → (k (slice_index_or ps i d)).number ≡ i + 1) → KeepsBelow m (length ps + 1)
    keeps_map k ps m is numbers j above below =
        let f : P → ℕ × List E = λ p. ((k p).number, (k p).own) in
        let i : ℕ = j - 1 in
        let inside : i < length ps = omega arith in
        let item = item_at ps i inside in
        let p = item.0 in
        let named : (k p).number ≡ j = ap (λ (x : P). (k x).number) (sym (item.1 p)) ∙ (numbers i p inside ∙ omega arith) in
        let there : slice_index_or (map f ps) i (j, (k p).own) ≡ (j, (k p).own) =
        mapped_at f ps i (j, (k p).own) p inside ∙ (ap f (item.1 p) ∙ ap (λ (n : ℕ). (n, (k p).own)) named) in
        ((k p).own, subst (λ (ks : List (ℕ × List E)). Contains ks (j, (k p).own)) (sym is) (i, omega (arith, length-map ps f, inside), there))
