-- Which tokens are a statement, and where others have their fault.
use Rattle.std.specs.Prelude.{ℕ, false, List, [], ◌∷◌}
use Rattle.tt_sql.specs.grammar.Grammar.{Lexeme, Mark, Spells, IsFault}
use Rattle.tt_sql.specs.grammar.Written.{statement, written_rule}

-- these tokens are a statement with at most so many open levels, and it notes these marks
abbrev pub IsStatement : ℕ → List Mark → List Lexeme → Type 0
IsStatement levels m ts = Spells written_rule false [] (statement levels ∷ []) m ts

-- the tokens of a text of this length are no statement, and this is the place of their fault
abbrev pub HasFaultAt : ℕ → ℕ → List Lexeme → ℕ → Type 0
HasFaultAt levels end ts at = IsFault written_rule [] (statement levels ∷ []) end ts at
