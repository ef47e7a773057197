-- Two ascending lists of which one is below the other.
use Rattle.std.proofs.Common.{◌≡◌, ℕ, ◌+◌, ◌-◌, ◌<◌, ◌≤◌, List, [], ◌∷◌, ◌++◌, Some, None, length, slice_get, ap, sym, suc, ◌∙◌, arith}
use Rattle.std.proofs.lemmas.Option.{none-some, same_Some}
use Rattle.tt_layout.specs.Numbers.{AscendsFrom, IsAscending, joined}
use Rattle.tt_layout.proofs.Passes.{joined_first, joined_none}

last_behind : (x z : ℕ) (zs : List ℕ) → slice_get (z ∷ zs) (length (z ∷ zs) - 1) ≡ slice_get (x ∷ z ∷ zs) (length (x ∷ z ∷ zs) - 1)
last_behind x z zs =
    let place : suc (length (z ∷ zs) - 1) ≡ length (x ∷ z ∷ zs) - 1 = omega arith in
    ap (λ k. slice_get (x ∷ z ∷ zs) k) place

-- the last number is no less than the bound
last_high : (xs : List ℕ) (low last : ℕ) → AscendsFrom low xs → slice_get xs (length xs - 1) ≡ Some last → low ≤ last
last_high [] low last up e = absurd (none-some last e)
last_high (x ∷ []) low last up e = omega (arith, up.0, same_Some x last e)
last_high (x ∷ z ∷ zs) low last up e =
    let later = last_high (z ∷ zs) (x + 1) last up.1 (last_behind x z zs ∙ e) in omega (arith, up.0, later)

-- a list ascends from each bound that its first number reaches
ascends_at : (ys : List ℕ) (first low : ℕ) → slice_get ys 0 ≡ Some first → low ≤ first → IsAscending ys → AscendsFrom low ys
ascends_at [] first low e le up = absurd (none-some first e)
ascends_at (y ∷ ys) first low e le up = (omega (arith, le, same_Some y first e), up.1)

pub below_joined : (xs ys : List ℕ) (low last first : ℕ) → AscendsFrom low xs → IsAscending ys → slice_get xs (length xs - 1) ≡ Some last → slice_get ys 0 ≡ Some first → last < first → xs ++ ys ≡ joined xs ys
below_joined [] ys low last first up behind e f less = absurd (none-some last e)
below_joined (x ∷ []) ys low last first up behind e f less =
    sym (joined_first ys x [] (ascends_at ys first (x + 1) f (omega (arith, less, same_Some x last e)) behind) ∙ ap (λ (l : List ℕ). x ∷ l) (joined_none ys 0 behind))
below_joined (x ∷ z ∷ zs) ys low last first up behind e f less =
    let end : slice_get (z ∷ zs) (length (z ∷ zs) - 1) ≡ Some last = last_behind x z zs ∙ e in
    let high = last_high (z ∷ zs) (x + 1) last up.1 end in
    ap (λ (l : List ℕ). x ∷ l) (below_joined (z ∷ zs) ys (x + 1) last first up.1 behind end f less)
    ∙ sym (joined_first ys x (z ∷ zs) (ascends_at ys first (x + 1) f (omega (arith, high, less)) behind))

pub empty_below : (xs ys : List ℕ) → None ≡ slice_get xs (length xs - 1) → IsAscending ys → xs ++ ys ≡ joined xs ys
empty_below [] ys e up = sym (joined_none ys 0 up)
empty_below (x ∷ xs) ys e up = absurd (last_there x xs e)
  where
    last_there : (x : ℕ) (xs : List ℕ) → None ≡ slice_get (x ∷ xs) (length (x ∷ xs) - 1) → ⊥
    last_there x [] e = none-some x e
    last_there x (z ∷ zs) e = last_there z zs (e ∙ sym (last_behind x z zs))
