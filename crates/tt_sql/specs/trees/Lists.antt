-- Facts of each item of a list, and of what may be there.
use Rattle.std.specs.Prelude.{List, [], ◌∷◌, Option, Some, None, ⊤}

-- a fact of each
abbrev pub Each : {A : Type 0} → (A → Type 0) → List A → Type 0
Each P [] = ⊤
Each P (x ∷ xs) = P x × Each P xs

-- one at least
abbrev pub IsListed : {A : Type 0} → (A → Type 0) → List A → Type 0
IsListed P [] = ⊥
IsListed P (x ∷ xs) = P x × Each P xs

abbrev pub WhenThere : {A : Type 0} → (A → Type 0) → Option A → Type 0
WhenThere P None = ⊤
WhenThere P (Some x) = P x
