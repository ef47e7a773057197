-- What the steps of a column's reader give.
use Rattle.std.specs.Prelude.{◌≡◌, ℕ, Bool, true, false, List, ◌∷◌, Option, MatchOption}
use Rattle.std.specs.Global.{Vec}
use Rattle.std.specs.Option.{option_map}
use Rattle.tt_value.specs.columns.Reading.{spread}

-- the row of a flag, and the values of the rows behind it, whatever their flags
abbrev pub IsNextRow : {V : Type 0} → ℕ → List V → Option V → List V → Type 0
IsNextRow flag values row others = (flags : List ℕ) → spread (flag ∷ flags) values ≡ row ∷ spread flags others

-- something, seen by view as this, exactly where a test holds
abbrev pub SomeWhere : {A B : Type 0} → Bool → (A → B) → B → Option A → Type 0
SomeWhere test view wanted found = MatchOption found (test ≡ false) (λ v. (test ≡ true) × (view v ≡ wanted))

-- the items that are found, if they are
abbrev pub HasItems : {V : Type 0} → Option (Vec V) → Option (List V) → Type 0
HasItems found wanted = option_map (λ v. v.items) found ≡ wanted
