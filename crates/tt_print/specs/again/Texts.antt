-- A printed statement as it is read again.
use Rattle.std.specs.Prelude.{◌≡◌, Ok}
use Rattle.tt_sql.specs.declared.statement.Statement.{Statement}
use Rattle.tt_sql.specs.text.StatementOf.{statement_of}
use Rattle.tt_print.specs.text.Statements.{statement_text}
use Rattle.tt_print.specs.places.Trees.{unplaced_statement}

-- Its printed text is the text of a statement: of the same one, but for places, which is printed as the same text.
pub record IsReadAgain (s : Statement) : Type 0 where
  pub again : Statement
  pub read : statement_of (statement_text s) ≡ Ok again
  pub same : unplaced_statement again ≡ unplaced_statement s
  pub text : statement_text again ≡ statement_text s
