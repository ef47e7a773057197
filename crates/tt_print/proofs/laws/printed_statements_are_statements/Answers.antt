use Rattle.tt_print.proofs.again.Spelling.{is_statement}
use Rattle.tt_print.proofs.again.Statements.{statement_read}
use Rattle.tt_print.proofs.laws.printed_statements_are_statements.Goals as goal

pub returns : goal.returns
returns c = record {
  writable = λ levels s is. (statement_read levels s is).tokens;
  again = λ levels s is. let read = statement_read levels s is in (read.notes 0, read.alike 0, is_statement levels (read.spelled 0));
}
