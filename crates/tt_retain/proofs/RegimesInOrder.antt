-- Regimes stay in order as one is put behind them.
use Rattle.std.proofs.Common.{◌≡◌, Bool, arith, ℕ, ◌<◌, ◌≤◌, ◌^◌, List, [], ◌∷◌, ◌++◌}
use Rattle.tt_retain.specs.declared.regime.Regime.{Regime}
use Rattle.tt_retain.specs.Retention.{Retention, FollowsFrom, IsRetention, first_retention, last_regime, last_begun, with_regime, with_end}

pub follows_more : (before : Regime) (rs : List Regime) (r : Regime) → FollowsFrom before.begun rs
    → (last_regime before rs).begun ≤ r.begun → r.begun < 2 ^ 62 → r.days ≤ 90 → FollowsFrom before.begun (rs ++ r ∷ [])
follows_more before [] r order later moment days = (later, moment, days, tt)
follows_more before (x ∷ xs) r order later moment days =
    (order.0, order.1, order.2, follows_more x xs r order.3 later moment days)

none_behind : (rs : List Regime) (r : Regime) → rs ++ r ∷ [] ≡ [] → ⊥
none_behind [] r e = cc
none_behind (x ∷ xs) r e = cc

pub IsRetention-with_regime : (table : Retention) (moment days : ℕ) → IsRetention table → last_begun table ≤ moment
    → moment < 2 ^ 62 → days ≤ 90 → IsRetention (with_regime table moment days)
IsRetention-with_regime table moment days h later below few =
    (none_behind table.regimes _, follows_more (record { begun = 0; days = 0 }) table.regimes (record { begun = moment; days = days }) h.1 later below few)

pub IsRetention-first_retention : (made days : ℕ) (transient : Bool) → made < 2 ^ 62 → days ≤ 90 → IsRetention (first_retention made days transient)
IsRetention-first_retention made days transient below few = ((λ e. cc), (omega arith, below, few, tt))

pub IsRetention-with_end : (table : Retention) (moment : ℕ) → IsRetention table → last_begun table ≤ moment → moment < 2 ^ 62
    → IsRetention (with_end table moment)
IsRetention-with_end table moment h later below = IsRetention-with_regime table moment 0 h later below (omega arith)
