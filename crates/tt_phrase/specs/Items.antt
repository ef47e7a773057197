-- What aggregates stand over, and what is selected.
use Rattle.std.specs.Prelude.{◌≡◌, ℕ, false, MatchOption, List, [], ◌∷◌, ◌++◌, Option, Some, None}
use Rattle.tt_value.specs.declared.name.ColumnName.{ColumnName}
use Rattle.tt_sql.specs.grammar.Grammar.{Mark, Way, Gram, nowhere}
use Rattle.tt_sql.specs.grammar.Combinators.{◌▸◌, ◌∣◌, listed, name, one, placed, way}
use Rattle.tt_sql.specs.grammar.Lexemes.{begins_with}
use Rattle.tt_sql.specs.grammar.TokenKinds.{CLOSE, OPEN, STAR}
use Rattle.tt_sql.specs.machine.Factored.{read_item}
use Rattle.tt_sql.specs.marks.Expressions.{column_marks}
use Rattle.tt_terminal.specs.declared.rest.Rest.{Rest}
use Rattle.tt_terminal.specs.Reading.{IsPlaced, IsWord, seen}

-- the rows, or the values of a column
abbrev pub counted_marks : Option ColumnName → List Mark
counted_marks None = Way 4 ∷ []
counted_marks (Some c) = column_marks c ++ Way 5 ∷ []

-- and its closing bracket
abbrev pub counted_part : Gram
counted_part = one STAR ▸ one CLOSE ▸ way 4 ∣ name ▸ one CLOSE ▸ way 5

-- a column and a closing bracket, behind an aggregate of this number
abbrev pub closed_name : ℕ → Gram
closed_name n = name ▸ one CLOSE ▸ way n

abbrev pub closed_marks : ℕ → ColumnName → List Mark
closed_marks n c = column_marks c ++ Way n ∷ []

-- a word of this kind and an opening bracket lie between, or one of them does not stand here
abbrev pub IsCalledOrNone : ℕ → Rest → Option (ℕ × Rest) → Type 0
IsCalledOrNone k r found =
    MatchOption found (begins_with (k ∷ OPEN ∷ []) (seen r) ≡ false)
    (λ x. (bracket : Rest) × IsPlaced k r x.0 bracket × IsWord OPEN bracket x.1)

-- all columns, or items
abbrev pub selected : ℕ → Gram
selected levels = placed STAR ▸ way 0 ∣ listed (read_item nowhere levels) ▸ way 1
