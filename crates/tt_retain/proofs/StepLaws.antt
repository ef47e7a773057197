-- Steps as one is put behind them, and the horizon from the last step that has begun.
use Rattle.std.proofs.Common.{◌≡◌, ℕ, zero, suc, ◌-◌, ◌<◌, ◌≤◌, ◌^◌, List, [], ◌∷◌, ◌++◌, length, slice_get, slice_index_or, Some, ℤ, pos, ◌-ℤ◌, ◌≤ℤ◌, ◌<ℤ◌, refl, ap, sym, ◌∙◌, subst, arith}
use Rattle.std.specs.Int.{int_max}
use Rattle.std.specs.List.{fold}
use Rattle.std.proofs.lemmas.Int.{ints, clamps}
use Rattle.tt_retain.specs.declared.regime.Regime.{Regime}
use Rattle.tt_retain.specs.declared.regimes.Step.{Step}
use Rattle.tt_retain.specs.Retention.{FollowsFrom, last_regime}
use Rattle.tt_retain.specs.Horizon.{retention_of, reach_of, limits_at, greatest_or}
use Rattle.tt_retain.specs.Steps.{regimes_in, HaveFloors, HaveRightFloors}
use Rattle.tt_retain.proofs.RegimesInOrder.{follows_more}
use Rattle.tt_retain.proofs.Limits.{min_first, min_second, max_second, limits_begun, limits_to_come, limits_none}

-- the steps before the last one
pub split_last : (steps : List Step) (st : Step) → slice_get steps (length steps - 1) ≡ Some st
    → (front : List Step) × (steps ≡ front ++ st ∷ [])
split_last [] st h = absurd (cc)
split_last (x ∷ []) st h = let e : x ≡ st = cc in ([], ap (λ (y : Step). y ∷ []) e)
split_last (x ∷ y ∷ ys) st h =
    let place : length (x ∷ y ∷ ys) - 1 ≡ suc (length (y ∷ ys) - 1) = omega arith in
    let tail : slice_get (y ∷ ys) (length (y ∷ ys) - 1) ≡ Some st = sym (ap (slice_get (x ∷ y ∷ ys)) place) ∙ h in
    let rest : (front : List Step) × (y ∷ ys ≡ front ++ st ∷ []) = split_last (y ∷ ys) st tail in
    (x ∷ rest.0, ap (λ (zs : List Step). x ∷ zs) rest.1)

last_of_front : (before : Regime) (front : List Step) (st : Step) → last_regime before (regimes_in (front ++ st ∷ [])) ≡ st.regime
last_of_front before [] st = refl
last_of_front before (x ∷ xs) st = last_of_front x.regime xs st

pub last_regime_is : (before : Regime) (steps : List Step) (st : Step) → slice_get steps (length steps - 1) ≡ Some st
    → last_regime before (regimes_in steps) ≡ st.regime
last_regime_is before steps st h =
    let split : (front : List Step) × (steps ≡ front ++ st ∷ []) = split_last steps st h in
    ap (λ (xs : List Step). last_regime before (regimes_in xs)) split.1 ∙ last_of_front before split.0 st

-- ---- the order

pub days_at : (begun : ℕ) (steps : List Step) (k : ℕ) (d : Step) → FollowsFrom begun (regimes_in steps) → k < length steps
    → (slice_index_or steps k d).regime.days ≤ 90
days_at begun [] k d order h = absurd (omega arith)
days_at begun (x ∷ xs) zero d order h = order.2
days_at begun (x ∷ xs) (suc k) d order h = days_at x.regime.begun xs k d order.3 (omega arith)

pub begun_from : (begun : ℕ) (steps : List Step) (k : ℕ) (d : Step) → FollowsFrom begun (regimes_in steps) → k < length steps
    → begun ≤ (slice_index_or steps k d).regime.begun
begun_from begun [] k d order h = absurd (omega arith)
begun_from begun (x ∷ xs) zero d order h = order.0
begun_from begun (x ∷ xs) (suc k) d order h =
    omega (arith, begun_from x.regime.begun xs k d order.3 (omega arith), order.0)

-- no step begins before one in front of it
pub steps_ascend : (begun : ℕ) (steps : List Step) → FollowsFrom begun (regimes_in steps)
    → (i j : ℕ) (d : Step) → i ≤ j → j < length steps
    → (slice_index_or steps i d).regime.begun ≤ (slice_index_or steps j d).regime.begun
steps_ascend begun [] order i j d h k = absurd (omega arith)
steps_ascend begun (x ∷ xs) order zero zero d h k = omega arith
steps_ascend begun (x ∷ xs) order zero (suc j) d h k = begun_from x.regime.begun xs j d order.3 (omega arith)
steps_ascend begun (x ∷ xs) order (suc i) zero d h k = absurd (omega arith)
steps_ascend begun (x ∷ xs) order (suc i) (suc j) d h k = steps_ascend x.regime.begun xs order.3 i j d (omega arith) (omega arith)

pub regimes_more : (steps : List Step) (st : Step) → regimes_in (steps ++ st ∷ []) ≡ regimes_in steps ++ st.regime ∷ []
regimes_more [] st = refl
regimes_more (x ∷ xs) st = ap (λ (rs : List Regime). x.regime ∷ rs) (regimes_more xs st)

-- ---- the floors

floors_more : (front : List Step) (floor : ℤ) (st new : Step) → HaveFloors floor (front ++ st ∷ [])
    → new.floor ≡ int_max st.floor (pos new.regime.begun -ℤ pos (retention_of st.regime))
    → HaveFloors floor ((front ++ st ∷ []) ++ new ∷ [])
floors_more [] floor st new h e =
    (h, e ∙ ap (λ (z : ℤ). int_max z (pos new.regime.begun -ℤ pos (retention_of st.regime))) h)
floors_more (x ∷ []) floor st new h e =
    (h.0, floors_more [] (int_max floor (pos st.regime.begun -ℤ pos (retention_of x.regime))) st new h.1 e)
floors_more (x ∷ y ∷ ys) floor st new h e =
    (h.0, floors_more (y ∷ ys) (int_max floor (pos y.regime.begun -ℤ pos (retention_of x.regime))) st new h.1 e)

right_floors_more : (front : List Step) (st new : Step) → HaveRightFloors (front ++ st ∷ [])
    → new.floor ≡ int_max st.floor (pos new.regime.begun -ℤ pos (retention_of st.regime))
    → HaveRightFloors ((front ++ st ∷ []) ++ new ∷ [])
right_floors_more [] st new h e = floors_more [] (pos st.regime.begun -ℤ pos 7776000000) st new h e
right_floors_more (x ∷ xs) st new h e = floors_more (x ∷ xs) (pos x.regime.begun -ℤ pos 7776000000) st new h e

pub HaveRightFloors-more : (steps : List Step) (st new : Step) → slice_get steps (length steps - 1) ≡ Some st → HaveRightFloors steps
    → new.floor ≡ int_max st.floor (pos new.regime.begun -ℤ pos (retention_of st.regime))
    → HaveRightFloors (steps ++ new ∷ [])
HaveRightFloors-more steps st new last h e =
    let split : (front : List Step) × (steps ≡ front ++ st ∷ []) = split_last steps st last in
    subst (λ (xs : List Step). HaveRightFloors (xs ++ new ∷ [])) (sym split.1)
    (right_floors_more split.0 st new (subst HaveRightFloors split.1 h) e)

-- ---- the horizon

fold_at : (floor : ℤ) (steps : List Step) (n : ℕ) (d : Step) (s : ℤ) (begun : ℕ) → HaveFloors floor steps → FollowsFrom begun (regimes_in steps)
    → n < length steps → pos (slice_index_or steps n d).regime.begun ≤ℤ s
    → (suc n < length steps → s <ℤ pos (slice_index_or steps (suc n) d).regime.begun)
    → fold int_max floor (limits_at (regimes_in steps) s)
    ≡ int_max (slice_index_or steps n d).floor (s -ℤ pos (retention_of (slice_index_or steps n d).regime))
fold_at floor [] n d s begun floors order bound now later = absurd (omega arith)
fold_at floor (x ∷ []) zero d s begun floors order bound now later =
    rw (limits_begun x.regime [] s now) (ap (λ (z : ℤ). int_max z (s -ℤ pos (retention_of x.regime))) (sym floors))
fold_at floor (x ∷ []) (suc n) d s begun floors order bound now later = absurd (omega arith)
fold_at floor (x ∷ y ∷ ys) zero d s begun floors order bound now later =
    let next : s <ℤ pos y.regime.begun = later (omega arith) in
    let none : limits_at (regimes_in (y ∷ ys)) s ≡ [] =
    limits_to_come y.regime (regimes_in ys) s next ∙ limits_none y.regime.begun (regimes_in ys) s order.3.3 next in
    rw (limits_begun x.regime (regimes_in (y ∷ ys)) s now, none, min_first s (pos y.regime.begun) (omega (arith, ints)))
    (ap (λ (z : ℤ). int_max z (s -ℤ pos (retention_of x.regime))) (sym floors.0))
fold_at floor (x ∷ y ∷ ys) (suc n) d s begun floors order bound now later =
    let up : y.regime.begun ≤ (slice_index_or (y ∷ ys) n d).regime.begun = begun_from y.regime.begun (y ∷ ys) n d (omega arith, order.3.1, order.3.2, order.3.3) (omega arith) in
    let first : pos x.regime.begun ≤ℤ s = omega (arith, ints, order.3.0, up, now) in
    let second : pos y.regime.begun ≤ℤ s = omega (arith, ints, up, now) in
    rw (limits_begun x.regime (regimes_in (y ∷ ys)) s first, min_second s (pos y.regime.begun) second)
    (fold_at (int_max floor (pos y.regime.begun -ℤ pos (retention_of x.regime))) (y ∷ ys) n d s x.regime.begun floors.1 order.3 (omega arith) now
    (λ h. later (omega arith)))

pub horizon_at : (steps : List Step) (n : ℕ) (d : Step) (s : ℤ) → HaveRightFloors steps → FollowsFrom 0 (regimes_in steps)
    → n < length steps → pos (slice_index_or steps n d).regime.begun ≤ℤ s
    → (suc n < length steps → s <ℤ pos (slice_index_or steps (suc n) d).regime.begun)
    → greatest_or (s -ℤ pos 7776000000) (limits_at (regimes_in steps) s)
    ≡ int_max (slice_index_or steps n d).floor (s -ℤ pos (retention_of (slice_index_or steps n d).regime))
horizon_at [] n d s floors order bound now later = absurd floors
horizon_at (x ∷ xs) n d s floors order bound now later =
    let up : x.regime.begun ≤ (slice_index_or (x ∷ xs) n d).regime.begun = begun_from x.regime.begun (x ∷ xs) n d (omega arith, order.1, order.2, order.3) bound in
    let first : pos x.regime.begun ≤ℤ s = omega (arith, ints, up, now) in
    let left : ℤ = reach_of (regimes_in xs) s -ℤ pos (retention_of x.regime) in
    let far : (pos x.regime.begun -ℤ pos 7776000000) ≤ℤ left = far_enough xs x s order first in
    let whole : fold int_max (pos x.regime.begun -ℤ pos 7776000000) (limits_at (regimes_in (x ∷ xs)) s)
    ≡ fold int_max left (limits_at (regimes_in xs) s) =
    ap (fold int_max (pos x.regime.begun -ℤ pos 7776000000)) (limits_begun x.regime (regimes_in xs) s first)
    ∙ ap (λ (z : ℤ). fold int_max z (limits_at (regimes_in xs) s)) (max_second (pos x.regime.begun -ℤ pos 7776000000) left far) in
    ap (greatest_or (s -ℤ pos 7776000000)) (limits_begun x.regime (regimes_in xs) s first)
    ∙ sym whole
    ∙ fold_at (pos x.regime.begun -ℤ pos 7776000000) (x ∷ xs) n d s 0 floors order bound now later
  where
    far_enough : (xs : List Step) (x : Step) (s : ℤ) → FollowsFrom 0 (regimes_in (x ∷ xs)) → pos x.regime.begun ≤ℤ s
        → (pos x.regime.begun -ℤ pos 7776000000) ≤ℤ (reach_of (regimes_in xs) s -ℤ pos (retention_of x.regime))
    far_enough [] x s order first = omega (arith, ints, order.2)
    far_enough (y ∷ ys) x s order first = omega (arith, ints, clamps, order.2, order.3.0)

pub horizon_before : (steps : List Step) (d : Step) (s : ℤ) → HaveRightFloors steps → FollowsFrom 0 (regimes_in steps)
    → s <ℤ pos (slice_index_or steps 0 d).regime.begun
    → greatest_or (s -ℤ pos 7776000000) (limits_at (regimes_in steps) s) ≡ s -ℤ pos 7776000000
horizon_before [] d s floors order h = absurd floors
horizon_before (x ∷ xs) d s floors order h =
    ap (greatest_or (s -ℤ pos 7776000000))
    (limits_to_come x.regime (regimes_in xs) s h ∙ limits_none x.regime.begun (regimes_in xs) s order.3 h)

pub days_last : (steps : List Step) (st : Step) → slice_get steps (length steps - 1) ≡ Some st → FollowsFrom 0 (regimes_in steps)
    → st.regime.days ≤ 90
days_last steps st last order =
    let split : (front : List Step) × (steps ≡ front ++ st ∷ []) = split_last steps st last in
    days_behind 0 split.0 st (subst (λ (xs : List Step). FollowsFrom 0 (regimes_in xs)) split.1 order)
  where
    days_behind : (begun : ℕ) (front : List Step) (st : Step) → FollowsFrom begun (regimes_in (front ++ st ∷ [])) → st.regime.days ≤ 90
    days_behind begun [] st order = order.2
    days_behind begun (x ∷ xs) st order = days_behind x.regime.begun xs st order.3

pub some_step : (steps : List Step) → HaveRightFloors steps → 0 < length steps
some_step [] floors = absurd floors
some_step (x ∷ xs) floors = omega arith

-- the order, once a step was put behind the others
pub follows_step : (steps items : List Step) (st : Step) (moment days : ℕ) → items ≡ steps ++ st ∷ []
    → st.regime ≡ record { begun = moment; days = days } → FollowsFrom 0 (regimes_in steps)
    → (last_regime (record { begun = 0; days = 0 }) (regimes_in steps)).begun ≤ moment → moment < 2 ^ 62 → days ≤ 90
    → FollowsFrom 0 (regimes_in items)
follows_step steps items st moment days all this order later below few =
    subst (λ (xs : List Step). FollowsFrom 0 (regimes_in xs)) (sym all)
    (subst (λ (rs : List Regime). FollowsFrom 0 rs) (sym (regimes_more steps st))
    (subst (λ (r : Regime). FollowsFrom 0 (regimes_in steps ++ r ∷ [])) (sym this)
    (follows_more (record { begun = 0; days = 0 }) (regimes_in steps) (record { begun = moment; days = days }) order later below few)))
