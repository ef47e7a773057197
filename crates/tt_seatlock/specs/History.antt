-- Histories as lists of entries.
use Rattle.std.specs.Prelude.{◌≡◌, ℕ, List, ◌++◌, length, filter, All, ◌==◌, nat_lt, if◌then◌else◌}

-- the entries of one number
abbrev pub made_by : {E : Type 0} → (E → ℕ) → ℕ → List E → List E
made_by number n log = filter (λ e. number e == n) log

-- the new history is the old one, and then entries of one number alone
abbrev pub AddsOnly : {E : Type 0} → (E → ℕ) → ℕ → List E → List E → Type 0
AddsOnly {E} number n old new = (added : List E) × (old ++ added ≡ new) × All (λ e. number e ≡ n) added

-- the longer of two histories, the first where they are equally long
abbrev pub longer : {E : Type 0} → List E → List E → List E
longer xs ys = if nat_lt (length xs) (length ys) then ys else xs

abbrev pub shorter : {E : Type 0} → List E → List E → List E
shorter xs ys = if nat_lt (length xs) (length ys) then xs else ys
