-- The limits that regimes set, and the greatest of them.
use Rattle.std.proofs.Common.{◌≡◌, ℕ, ◌≤◌, true, false, List, [], ◌∷◌, ℤ, pos, ◌-ℤ◌, ◌≤ℤ◌, ◌<ℤ◌, refl, sym, ◌∙◌, subst, arith}
use Rattle.std.specs.Int.RustNames.{int_le}
use Rattle.std.specs.Int.{int_min, int_max}
use Rattle.std.specs.List.{fold}
use Rattle.std.proofs.lemmas.Int.{ints, clamps, by_lt_z}
use Rattle.tt_retain.specs.declared.regime.Regime.{Regime}
use Rattle.tt_retain.specs.Retention.{FollowsFrom}
use Rattle.tt_retain.specs.Horizon.{retention_of, reach_of, limits_at, greatest_or}

pub le_true : (a b : ℤ) → a ≤ℤ b → int_le a b ≡ true
le_true a b h = grind (arith, ints)

pub le_false : (a b : ℤ) → b <ℤ a → int_le a b ≡ false
le_false a b h = grind (arith, ints)

pub min_first : (a b : ℤ) → a ≤ℤ b → int_min a b ≡ a
min_first a b h = omega (arith, ints, clamps)

pub min_second : (a b : ℤ) → b ≤ℤ a → int_min a b ≡ b
min_second a b h = omega (arith, ints, clamps)

pub max_second : (a b : ℤ) → a ≤ℤ b → int_max a b ≡ b
max_second a b h = omega (arith, ints, clamps)

pub max_same : (a : ℤ) → int_max a a ≡ a
max_same a = omega (arith, ints, clamps)

pub max_grows : (a b c d : ℤ) → a ≤ℤ b → c ≤ℤ d → int_max a c ≤ℤ int_max b d
max_grows a b c d h k = omega (arith, ints, clamps)

pub below_max : (a b c : ℤ) → a ≤ℤ b → a ≤ℤ int_max b c
below_max a b c h = omega (arith, ints, clamps)

pub above_max : (a b c : ℤ) → a ≤ℤ c → a ≤ℤ int_max b c
above_max a b c h = omega (arith, ints, clamps)

pub min_grows : (a b c : ℤ) → a ≤ℤ b → int_min a c ≤ℤ int_min b c
min_grows a b c h = omega (arith, ints, clamps)

pub minus_grows : (a b c : ℤ) → a ≤ℤ b → (a -ℤ c) ≤ℤ (b -ℤ c)
minus_grows a b c h = omega (arith, ints)

pub le_trans : (a b c : ℤ) → a ≤ℤ b → b ≤ℤ c → a ≤ℤ c
le_trans a b c h k = omega (arith, ints)

-- ---- the first limit

pub limits_begun : (r : Regime) (rs : List Regime) (s : ℤ) → pos r.begun ≤ℤ s
    → limits_at (r ∷ rs) s ≡ (reach_of rs s -ℤ pos (retention_of r)) ∷ limits_at rs s
limits_begun r rs s h = rw (le_true (pos r.begun) s h) refl

pub limits_to_come : (r : Regime) (rs : List Regime) (s : ℤ) → s <ℤ pos r.begun → limits_at (r ∷ rs) s ≡ limits_at rs s
limits_to_come r rs s h = rw (le_false (pos r.begun) s h) refl

pub limits_none : (begun : ℕ) (rs : List Regime) (s : ℤ) → FollowsFrom begun rs → s <ℤ pos begun → limits_at rs s ≡ []
limits_none begun [] s order h = refl
limits_none begun (r ∷ rs) s order h =
    let later : s <ℤ pos r.begun = omega (arith, ints, order.0) in
    limits_to_come r rs s later ∙ limits_none r.begun rs s order.3 later

-- ---- the greatest

pub fold_above : (a b : ℤ) (xs : List ℤ) → a ≤ℤ b → a ≤ℤ fold int_max b xs
fold_above a b [] h = h
fold_above a b (x ∷ xs) h = fold_above a (int_max b x) xs (below_max a b x h)

pub within_ninety : (s : ℤ) (r : Regime) → r.days ≤ 90 → (s -ℤ pos 7776000000) ≤ℤ (s -ℤ pos (retention_of r))
within_ninety s r h = omega (arith, ints)

whole_reach : (s next : ℤ) (r : Regime) → r.days ≤ 90 → s <ℤ next
    → (s -ℤ pos 7776000000) ≤ℤ (int_min s next -ℤ pos (retention_of r))
whole_reach s next r h later = omega (arith, ints, clamps)

-- of the regimes that have begun the last one leaves at most 90 days
pub limits_cover : (a : ℤ) (r : Regime) (rs : List Regime) (s : ℤ) → r.days ≤ 90 → FollowsFrom r.begun rs → pos r.begun ≤ℤ s
    → (s -ℤ pos 7776000000) ≤ℤ fold int_max a (limits_at (r ∷ rs) s)
limits_cover a r [] s days order begun =
    rw (limits_begun r [] s begun) (above_max _ a (s -ℤ pos (retention_of r)) (within_ninety s r days))
limits_cover a r (q ∷ qs) s days order begun =
    let left : ℤ = int_min s (pos q.begun) -ℤ pos (retention_of r) in
    rw (limits_begun r (q ∷ qs) s begun)
    (by_lt_z s (pos q.begun)
    (λ later.
    fold_above (s -ℤ pos 7776000000) (int_max a left) (limits_at (q ∷ qs) s)
    (above_max (s -ℤ pos 7776000000) a left (whole_reach s (pos q.begun) r days later)))
    (λ now. limits_cover (int_max a left) q qs s order.2 order.3 now))

pub greatest_covers : (other : ℤ) (r : Regime) (rs : List Regime) (s : ℤ) → r.days ≤ 90 → FollowsFrom r.begun rs → pos r.begun ≤ℤ s
    → (s -ℤ pos 7776000000) ≤ℤ greatest_or other (limits_at (r ∷ rs) s)
greatest_covers other r rs s days order begun =
    let first : ℤ = reach_of rs s -ℤ pos (retention_of r) in
    let P : List ℤ → Type 0 = λ xs. (s -ℤ pos 7776000000) ≤ℤ greatest_or other xs in
    let Q : ℤ → Type 0 = λ x. (s -ℤ pos 7776000000) ≤ℤ fold int_max x (limits_at rs s) in
    let R : List ℤ → Type 0 = λ xs. (s -ℤ pos 7776000000) ≤ℤ fold int_max first xs in
    subst P (sym (limits_begun r rs s begun))
    (subst Q (max_same first) (subst R (limits_begun r rs s begun) (limits_cover first r rs s days order begun)))
