-- What a table keeps of its past, and since when.
use Rattle.std.specs.Prelude.{◌≡◌, ℕ, ◌<◌, ◌≤◌, ◌^◌, min, Bool, true, false, if◌then◌else◌, List, [], ◌∷◌, ◌++◌, ⊤}
use Rattle.tt_retain.specs.declared.regime.Regime.{Regime}

-- the regimes of a table in the order in which they begin, whether it is transient, and whether the last regime is its end
pub record Retention : Type 0 where
  pub regimes : List Regime
  pub transient : Bool
  pub ended : Bool

-- a table as it is made
abbrev pub first_retention : ℕ → ℕ → Bool → Retention
first_retention made days transient =
    record { regimes = record { begun = made; days = days } ∷ []; transient = transient; ended = false }

-- one more regime behind the others
abbrev pub with_regime : Retention → ℕ → ℕ → Retention
with_regime table moment days =
    record table { regimes = table.regimes ++ record { begun = moment; days = days } ∷ [] }

-- the regime that ends a table: from then on nothing of it is kept
abbrev pub with_end : Retention → ℕ → Retention
with_end table moment = record (with_regime table moment 0) { ended = true }

-- the moment at which the first regime begins, which is that of the table's making
abbrev pub made_of : Retention → ℕ
made_of table = elim table.regimes [ [] ↦ 0 | r ∷ _ ↦ r.begun ]

-- the last regime of a list, and before it the one that is given
abbrev pub last_regime : Regime → List Regime → Regime
last_regime before [] = before
last_regime before (r ∷ rs) = last_regime r rs

-- the moment at which the last regime begins, and its days: those of the table now
abbrev pub last_begun : Retention → ℕ
last_begun table = (last_regime (record { begun = 0; days = 0 }) table.regimes).begun

abbrev pub days_of : Retention → ℕ
days_of table = (last_regime (record { begun = 0; days = 0 }) table.regimes).days

-- the days with which a clone begins: those of its source now, and at most 1 where the clone is transient
abbrev pub clone_days : Retention → Bool → ℕ
clone_days source transient = if transient then min 1 (days_of source) else days_of source

-- each regime keeps at most 90 days, begins before the moment 2 ^ 62, and not after the one behind it
abbrev pub FollowsFrom : ℕ → List Regime → Type 0
FollowsFrom begun [] = ⊤
FollowsFrom begun (r ∷ rs) = (begun ≤ r.begun) × (r.begun < 2 ^ 62) × (r.days ≤ 90) × FollowsFrom r.begun rs

-- what is so of every table's regimes: there is one, and they are in order
abbrev pub IsRetention : Retention → Type 0
IsRetention table = (table.regimes ≡ [] → ⊥) × FollowsFrom 0 table.regimes
