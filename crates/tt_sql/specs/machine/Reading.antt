-- What the machine reads of tokens: the marks of a statement, or the place of a fault.
use Rattle.std.specs.Prelude.{ℕ, List, [], ◌∷◌, Result}
use Rattle.tt_sql.specs.grammar.Grammar.{Lexeme, Mark}
use Rattle.tt_sql.specs.machine.Machine.{run}
use Rattle.tt_sql.specs.machine.Factored.{read_rule, read_statement}

abbrev pub read_run : ℕ → ℕ → List Lexeme → Result (List Mark) ℕ
read_run levels end ts = run read_rule end [] (read_statement levels ∷ []) ts
