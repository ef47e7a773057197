-- Trees that are told apart by their marks.
use Rattle.std.specs.Prelude.{◌≡◌, List, ⊤}
use Rattle.tt_sql.specs.grammar.Grammar.{Mark}

-- among these trees no two note the same marks
abbrev pub AreToldApartBy : {T : Type 0} → (T → Type 0) → (T → List Mark) → Type 0
AreToldApartBy {T = T} IsGiven marks = (a b : T) → IsGiven a → IsGiven b → marks a ≡ marks b → a ≡ b

-- any tree
abbrev pub IsAny : {T : Type 0} → T → Type 0
IsAny x = ⊤
