-- What holds of each item of a list, and of each two.
use Rattle.std.specs.Prelude.{List, [], ⊤, ◌∷◌}

abbrev pub Every : {A : Type 0} → (A → Type 0) → List A → Type 0
Every P [] = ⊤
Every P (x ∷ xs) = P x × Every P xs

-- of each item and each later one
abbrev pub EachTwo : {A : Type 0} → (A → A → Type 0) → List A → Type 0
EachTwo R [] = ⊤
EachTwo R (x ∷ xs) = Every (R x) xs × EachTwo R xs
