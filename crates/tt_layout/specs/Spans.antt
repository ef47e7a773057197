-- The spans of a table's layouts.
use Rattle.std.specs.Prelude.{ℕ, List, [], ◌∷◌, Option, Some}

-- each layout's numbers beside the moment at which its span ended: where the next one began, and the last one at the drop
abbrev pub spans_of : List (ℕ × List ℕ) → Option ℕ → List (List ℕ × Option ℕ)
spans_of [] dropped = []
spans_of (l ∷ []) dropped = (l.1, dropped) ∷ []
spans_of (l ∷ next ∷ ls) dropped = (l.1, Some next.0) ∷ spans_of (next ∷ ls) dropped
