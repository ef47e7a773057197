-- Readers that answer with what they read and what is left behind it, or with what is left alone.
use Rattle.std.specs.Prelude.{ℕ, List, [], ◌∷◌, map, Option, Result}
use Rattle.tt_sql.specs.grammar.Grammar.{Mark, At, Gram}
use Rattle.tt_sql.specs.grammar.Combinators.{◌▸◌, one}
use Rattle.tt_sql.specs.marks.Expressions.{listed_marks, maybe_marks, repeated}
use Rattle.tt_sql.specs.marks.Queries.{maybe_listed}
use Rattle.tt_terminal.specs.declared.error.ParseError.{ParseError}
use Rattle.tt_terminal.specs.declared.rest.Rest.{Rest}
use Rattle.tt_terminal.specs.Reading.{Reads}

-- what was read notes these marks
abbrev pub ReadsPart : {T : Type 0} → (T → List Mark) → Gram → Rest → Result (T × Rest) ParseError → Type 0
ReadsPart {T = T} marks g r result = Reads (λ (x : T × Rest). marks x.0) (λ (x : T × Rest). x.1) g r result

-- a part that says nothing, or just the same wherever it stands
abbrev pub ReadsOver : List Mark → Gram → Rest → Result Rest ParseError → Type 0
ReadsOver marks g r result = Reads (λ (rest : Rest). marks) (λ (rest : Rest). rest) g r result

-- a list of things with commas between them, each with these marks
abbrev pub ReadsList : {T : Type 0} → (T → List Mark) → Gram → Rest → Result (List T × Rest) ParseError → Type 0
ReadsList marks g r result = ReadsPart (λ xs. listed_marks (map marks xs)) g r result

-- the same that may be left out
abbrev pub ReadsMaybeList : {T : Type 0} → (T → List Mark) → Gram → Rest → Result (List T × Rest) ParseError → Type 0
ReadsMaybeList marks g r result = ReadsPart (λ xs. maybe_listed (map marks xs)) g r result

-- a part that may be left out
abbrev pub ReadsMaybe : {T : Type 0} → (T → List Mark) → Gram → Rest → Result (Option T × Rest) ParseError → Type 0
ReadsMaybe marks g r result = ReadsPart (λ x. maybe_marks marks x) g r result

-- a part as often as it stands there
abbrev pub ReadsMany : {T : Type 0} → (T → List Mark) → Gram → Rest → Result (List T × Rest) ParseError → Type 0
ReadsMany marks g r result = ReadsPart (λ xs. repeated (map marks xs)) g r result

-- a place
abbrev pub place_marks : ℕ → List Mark
place_marks place = At place ∷ []

-- two words one behind the other
abbrev pub pair_of : ℕ → ℕ → Gram
pair_of a b = one a ▸ one b
