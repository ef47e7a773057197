-- What the reader of a whole statement answers.
use Rattle.std.specs.Prelude.{◌≡◌, ℕ, List, Result, Ok, Err}
use Rattle.tt_sql.specs.declared.statement.Statement.{Statement}
use Rattle.tt_sql.specs.grammar.Grammar.{Lexeme}
use Rattle.tt_sql.specs.marks.Statements.{statement_marks}
use Rattle.tt_sql.specs.machine.Reading.{read_run}
use Rattle.tt_sql.specs.text.StatementOf.{HasSyntaxFault}
use Rattle.tt_terminal.specs.declared.error.ParseError.{ParseError}
use Rattle.tt_terminal.specs.declared.error.ParseError.TheVariants.{Syntax, Memory}

-- The result is this statement or the place of this fault, or there is no memory.
abbrev pub GivesStatement : Result Statement ParseError → Result Statement ℕ → Type 0
GivesStatement (Ok s) answer = answer ≡ Ok s
GivesStatement (Err (Syntax y)) answer = answer ≡ Err y.place
GivesStatement (Err Memory) answer = Unit {0}

-- A place is given only where the text has its fault.
abbrev pub IsAtFault : List ℕ → Result Statement ParseError → Type 0
IsAtFault text (Ok s) = Unit {0}
IsAtFault text (Err (Syntax y)) = HasSyntaxFault text y.place
IsAtFault text (Err Memory) = Unit {0}

-- what the machine says of these tokens
abbrev pub Says : ℕ → ℕ → List Lexeme → Result Statement ParseError → Type 0
Says levels end ts (Ok s) = read_run levels end ts ≡ Ok (statement_marks s)
Says levels end ts (Err (Syntax y)) = read_run levels end ts ≡ Err y.place
Says levels end ts (Err Memory) = Unit {0}
