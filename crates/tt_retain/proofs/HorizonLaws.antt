-- The horizon as the moment grows, and as regimes are put behind the others.
use Rattle.std.proofs.Common.{◌≡◌, ℕ, ◌<◌, ◌≤◌, ◌^◌, List, [], ◌∷◌, ◌++◌, ℤ, pos, ◌-ℤ◌, ◌≤ℤ◌, ◌<ℤ◌, refl, ap, sym, ◌∙◌, arith}
use Rattle.std.specs.Int.{int_max}
use Rattle.std.specs.List.{fold}
use Rattle.std.proofs.lemmas.Int.{ints, by_lt_z}
use Rattle.tt_retain.specs.declared.regime.Regime.{Regime}
use Rattle.tt_retain.specs.Retention.{Retention, FollowsFrom, IsRetention, with_regime, last_begun}
use Rattle.tt_retain.specs.Horizon.{retention_of, reach_of, limits_at, greatest_or, horizon_of}
use Rattle.tt_retain.proofs.Limits.{min_first, max_grows, below_max, min_grows, minus_grows, le_trans, limits_begun, limits_to_come, limits_none, fold_above, greatest_covers}
use Rattle.tt_retain.proofs.RegimesInOrder.{IsRetention-with_regime}

le_refl : (a : ℤ) → a ≤ℤ a
le_refl a = omega (arith, ints)

below : (a b : ℤ) → a <ℤ b → a ≤ℤ b
below a b h = omega (arith, ints)

reach_grows : (rs : List Regime) (s u : ℤ) → s ≤ℤ u → reach_of rs s ≤ℤ reach_of rs u
reach_grows [] s u h = h
reach_grows (r ∷ rs) s u h = min_grows s u (pos r.begun) h

fold_grows : (rs : List Regime) (a b s u : ℤ) → a ≤ℤ b → s ≤ℤ u
    → fold int_max a (limits_at rs s) ≤ℤ fold int_max b (limits_at rs u)
fold_grows [] a b s u h k = h
fold_grows (r ∷ rs) a b s u h k =
    by_lt_z s (pos r.begun)
    (λ later.
    rw (limits_to_come r rs s later)
    (by_lt_z u (pos r.begun)
    (λ still. rw (limits_to_come r rs u still) (fold_grows rs a b s u h k))
    (λ now. rw (limits_begun r rs u now) (fold_grows rs a _ s u (below_max a b _ h) k))))
    (λ now.
    let then : pos r.begun ≤ℤ u = le_trans _ _ _ now k in
    rw (limits_begun r rs s now, limits_begun r rs u then)
    (fold_grows rs _ _ s u (max_grows _ _ _ _ h (minus_grows _ _ (pos (retention_of r)) (reach_grows rs s u k))) k))

greatest_grows : (r : Regime) (rs : List Regime) (s u : ℤ) → r.days ≤ 90 → FollowsFrom r.begun rs → s ≤ℤ u
    → greatest_or (s -ℤ pos 7776000000) (limits_at (r ∷ rs) s) ≤ℤ greatest_or (u -ℤ pos 7776000000) (limits_at (r ∷ rs) u)
greatest_grows r rs s u days order k =
    by_lt_z s (pos r.begun)
    (λ later.
    rw (limits_to_come r rs s later, limits_none r.begun rs s order later)
    (by_lt_z u (pos r.begun)
    (λ still. rw (limits_to_come r rs u still, limits_none r.begun rs u order still) (minus_grows s u (pos 7776000000) k))
    (λ now. le_trans _ _ _ (minus_grows s u (pos 7776000000) k) (greatest_covers (u -ℤ pos 7776000000) r rs u days order now))))
    (λ now.
    let then : pos r.begun ≤ℤ u = le_trans _ _ _ now k in
    rw (limits_begun r rs s now, limits_begun r rs u then)
    (fold_grows rs _ _ s u (minus_grows _ _ (pos (retention_of r)) (reach_grows rs s u k)) k))

pub horizon_grows : (table : Retention) (s u : ℤ) → IsRetention table → s ≤ℤ u → horizon_of table s ≤ℤ horizon_of table u
horizon_grows table s u h k = of table.regimes h
  where
    of : (rs : List Regime) → (rs ≡ [] → ⊥) × FollowsFrom 0 rs
        → greatest_or (s -ℤ pos 7776000000) (limits_at rs s) ≤ℤ greatest_or (u -ℤ pos 7776000000) (limits_at rs u)
    of [] f = absurd (f.0 refl)
    of (r ∷ rs) f = greatest_grows r rs s u f.1.2 f.1.3 k

-- ---- one more regime

reach_stays : (rs : List Regime) (r : Regime) (s : ℤ) → s ≤ℤ pos r.begun → reach_of (rs ++ r ∷ []) s ≡ reach_of rs s
reach_stays [] r s h = min_first s (pos r.begun) h
reach_stays (q ∷ qs) r s h = refl

limits_stay : (rs : List Regime) (r : Regime) (s : ℤ) → s <ℤ pos r.begun → limits_at (rs ++ r ∷ []) s ≡ limits_at rs s
limits_stay [] r s h = limits_to_come r [] s h
limits_stay (q ∷ qs) r s h =
    let rest : limits_at (qs ++ r ∷ []) s ≡ limits_at qs s = limits_stay qs r s h in
    let reach : reach_of (qs ++ r ∷ []) s ≡ reach_of qs s = reach_stays qs r s (below s (pos r.begun) h) in
    by_lt_z s (pos q.begun)
    (λ later. limits_to_come q (qs ++ r ∷ []) s later ∙ rest ∙ sym (limits_to_come q qs s later))
    (λ now.
    limits_begun q (qs ++ r ∷ []) s now
    ∙ ap (λ (x : ℤ). (x -ℤ pos (retention_of q)) ∷ limits_at (qs ++ r ∷ []) s) reach
    ∙ ap (λ (xs : List ℤ). (reach_of qs s -ℤ pos (retention_of q)) ∷ xs) rest
    ∙ sym (limits_begun q qs s now))

pub horizon_stays : (table : Retention) (moment days : ℕ) (s : ℤ) → s <ℤ pos moment
    → horizon_of (with_regime table moment days) s ≡ horizon_of table s
horizon_stays table moment days s h =
    ap (greatest_or (s -ℤ pos 7776000000)) (limits_stay table.regimes (record { begun = moment; days = days }) s h)

fold_kept : (rs : List Regime) (r : Regime) (a b s : ℤ) → a ≤ℤ b → s ≤ℤ pos r.begun
    → fold int_max a (limits_at rs s) ≤ℤ fold int_max b (limits_at (rs ++ r ∷ []) s)
fold_kept [] r a b s h k = fold_above a b (limits_at (r ∷ []) s) h
fold_kept (q ∷ qs) r a b s h k =
    let left : ℤ = reach_of qs s -ℤ pos (retention_of q) in
    by_lt_z s (pos q.begun)
    (λ later.
    rw (limits_to_come q qs s later, limits_to_come q (qs ++ r ∷ []) s later) (fold_kept qs r a b s h k))
    (λ now.
    rw (limits_begun q qs s now, limits_begun q (qs ++ r ∷ []) s now, reach_stays qs r s k)
    (fold_kept qs r (int_max a left) (int_max b left) s (max_grows a b left left h (le_refl left)) k))

greatest_kept : (q : Regime) (rs : List Regime) (r : Regime) (s : ℤ) → FollowsFrom q.begun (rs ++ r ∷ []) → FollowsFrom q.begun rs
    → s ≤ℤ pos r.begun
    → greatest_or (s -ℤ pos 7776000000) (limits_at (q ∷ rs) s) ≤ℤ greatest_or (s -ℤ pos 7776000000) (limits_at (q ∷ (rs ++ r ∷ [])) s)
greatest_kept q rs r s more order k =
    let left : ℤ = reach_of rs s -ℤ pos (retention_of q) in
    by_lt_z s (pos q.begun)
    (λ later.
    rw (limits_to_come q rs s later, limits_to_come q (rs ++ r ∷ []) s later, limits_none q.begun rs s order later, limits_none q.begun (rs ++ r ∷ []) s more later)
    (le_refl (s -ℤ pos 7776000000)))
    (λ now.
    rw (limits_begun q rs s now, limits_begun q (rs ++ r ∷ []) s now, reach_stays rs r s k)
    (fold_kept rs r left left s (le_refl left) k))

pub expired_stays : (table : Retention) (moment days : ℕ) (x s u : ℤ) → IsRetention table → last_begun table ≤ moment
    → moment < 2 ^ 62 → days ≤ 90 → x ≤ℤ horizon_of table s → s ≤ℤ pos moment → s ≤ℤ u
    → x ≤ℤ horizon_of (with_regime table moment days) u
expired_stays table moment days x s u order later below few past before on =
    le_trans x (horizon_of table s) (horizon_of (with_regime table moment days) u) past
    (le_trans (horizon_of table s) (horizon_of (with_regime table moment days) s) (horizon_of (with_regime table moment days) u)
    (kept table.regimes order (IsRetention-with_regime table moment days order later below few))
    (horizon_grows (with_regime table moment days) s u (IsRetention-with_regime table moment days order later below few) on))
  where
    kept : (rs : List Regime) → (rs ≡ [] → ⊥) × FollowsFrom 0 rs
        → (rs ++ record { begun = moment; days = days } ∷ [] ≡ [] → ⊥) × FollowsFrom 0 (rs ++ record { begun = moment; days = days } ∷ [])
        → greatest_or (s -ℤ pos 7776000000) (limits_at rs s)
        ≤ℤ greatest_or (s -ℤ pos 7776000000) (limits_at (rs ++ record { begun = moment; days = days } ∷ []) s)
    kept [] f g = absurd (f.0 refl)
    kept (q ∷ qs) f g = greatest_kept q qs (record { begun = moment; days = days }) s g.1.3 f.1.3 before
