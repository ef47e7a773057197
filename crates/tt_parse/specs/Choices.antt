-- Readers of some of the alternatives of a choice, which may leave the others to another reader.
use Rattle.std.specs.Prelude.{ℕ, List, [], Option, Some, None, Result, Ok, Err}
use Rattle.tt_sql.specs.declared.statement.Statement.{Statement}
use Rattle.tt_sql.specs.grammar.Grammar.{Mark, Gram}
use Rattle.tt_sql.specs.marks.Statements.{statement_marks}
use Rattle.tt_sql.specs.grammar.TokenKinds.{EXPLAIN}
use Rattle.tt_sql.specs.grammar.Combinators.{one, way, ◌▸◌, ◌∣◌}
use Rattle.tt_sql.specs.machine.Factored.{read_create, read_delete, read_insert, read_query, read_update}
use Rattle.tt_sql.specs.grammar.Written.{copy, drop_table, undrop, truncate, alter, begin, commit, rollback, show, wait}
use Rattle.tt_terminal.specs.declared.error.ParseError.{ParseError}
use Rattle.tt_terminal.specs.declared.rest.Rest.{Rest}
use Rattle.tt_terminal.specs.Reading.{Passes, Fails, Errs}

-- None of these alternatives begins here: the choice is what follows them.
pub record Skips (part : Gram → Gram) (r : Rest) : Type 0 where
  pub goes : (others : Gram) (m : List Mark) (s : Rest) → Passes [] others r m s → Passes [] (part others) r m s
  pub halts : (others : Gram) (at : ℕ) → Fails [] others r at → Fails [] (part others) r at

-- whatever the other alternatives are
abbrev pub Chooses : {T : Type 0} → (T → List Mark) → (T → Rest) → (Gram → Gram) → Rest → Result (Option T) ParseError → Type 0
Chooses marks rest part r (Ok (Some x)) = (others : Gram) → Passes [] (part others) r (marks x) (rest x)
Chooses marks rest part r (Ok None) = Skips part r
Chooses marks rest part r (Err e) = (others : Gram) → Errs [] (part others) r e

-- ---- statements

-- the same of a statement, with what is left behind it
abbrev pub ChoosesStatement : (Gram → Gram) → Rest → Result (Option (Statement × Rest)) ParseError → Type 0
ChoosesStatement part r result = Chooses (λ (x : Statement × Rest). statement_marks x.0) (λ (x : Statement × Rest). x.1) part r result

abbrev pub on_rows : ℕ → Gram → Gram
on_rows levels others = read_insert levels ▸ way 1 ∣ read_update levels ▸ way 2 ∣ read_delete levels ▸ way 3 ∣ copy ▸ way 4 ∣ others

abbrev pub on_tables : Gram → Gram
on_tables others = read_create ∣ drop_table ▸ way 7 ∣ undrop ▸ way 8 ∣ truncate ▸ way 9 ∣ alter ▸ way 10 ∣ others

abbrev pub on_transactions : Gram → Gram
on_transactions others = begin ▸ way 11 ∣ commit ▸ way 12 ∣ rollback ▸ way 13 ∣ others

-- those that wait or tell something
abbrev pub others : ℕ → Gram
others levels = wait ▸ way 14 ∣ (one EXPLAIN ▸ read_query levels) ▸ way 15 ∣ show ▸ way 16
