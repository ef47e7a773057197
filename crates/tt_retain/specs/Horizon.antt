-- How far back a table's past can be asked for at a moment. Moments and retentions are in milliseconds.
use Rattle.std.specs.Prelude.{ℕ, ◌*◌, not, ◌&&◌, if◌then◌else◌, List, [], ◌∷◌, ℤ, pos, ◌-ℤ◌, ◌≤ℤ◌, int_lt, int_le}
use Rattle.std.specs.Int.{int_min, int_max}
use Rattle.std.specs.List.{fold}
use Rattle.tt_retain.specs.declared.regime.Regime.{Regime}
use Rattle.tt_retain.specs.declared.stage.Stage.{Stage}
use Rattle.tt_retain.specs.declared.stage.Stage.TheVariants.{TimeTravel, FailSafe, Gone}
use Rattle.tt_retain.specs.Retention.{Retention, made_of}

-- a regime's days in milliseconds
abbrev pub retention_of : Regime → ℕ
retention_of regime = regime.days * 86400000

-- up to where a regime counts at s, before those that follow it: the beginning of the next one, and without end the last one
abbrev pub reach_of : List Regime → ℤ → ℤ
reach_of [] s = s
reach_of (next ∷ _) s = int_min s (pos next.begun)

-- for each regime that has begun at s, its reach less its retention
abbrev pub limits_at : List Regime → ℤ → List ℤ
limits_at [] s = []
limits_at (r ∷ rs) s =
    if int_le (pos r.begun) s then (reach_of rs s -ℤ pos (retention_of r)) ∷ limits_at rs s else limits_at rs s

-- the greatest of a list, and of no number the one that is given
abbrev pub greatest_or : ℤ → List ℤ → ℤ
greatest_or other [] = other
greatest_or other (x ∷ xs) = fold int_max x xs

-- the horizon at s: the greatest of the limits, and before the making 90 days before s
abbrev pub horizon_of : Retention → ℤ → ℤ
horizon_of table s = greatest_or (s -ℤ pos 7776000000) (limits_at table.regimes s)

-- What a span that ended is at a moment. Fail-safe is 7 days behind Time Travel, for tables that are not transient.
abbrev pub stage_of : Retention → ℕ → ℕ → Stage
stage_of table ended moment =
    if int_lt (horizon_of table (pos moment)) (pos ended) then TimeTravel
    else if not table.transient && int_lt (horizon_of table (pos moment -ℤ pos 604800000)) (pos ended) then FailSafe
    else Gone

-- at a moment the table still answers for the point x: it was made by then, and x is neither past the horizon nor to come
pub record IsRetained (table : Retention) (x : ℤ) (moment : ℕ) : Type 0 where
  pub made : pos (made_of table) ≤ℤ x
  pub kept : horizon_of table (pos moment) ≤ℤ x
  pub come : x ≤ℤ pos moment
