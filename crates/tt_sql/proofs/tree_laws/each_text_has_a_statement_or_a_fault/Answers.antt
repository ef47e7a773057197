-- A text has a statement or a fault, and not both.
use Rattle.tt_sql.proofs.text.StatementOf.{statement_or_fault, found_statement, found_syntax_fault, is_text_of, is_fault_of}
use Rattle.tt_sql.specs.text.StatementOf.{most_levels}
use Rattle.tt_sql.proofs.determined.Statements.{statement_given}
use Rattle.tt_sql.proofs.tree_laws.each_text_has_a_statement_or_a_fault.Goals as goal

pub returns : goal.returns
returns c = record {
  one = statement_or_fault;
  statement = λ text s. (is_text_of text s, λ is. found_statement text is.tokens s is.has (statement_given most_levels s is.written) is.spelled);
  fault = λ text at. (is_fault_of text at, found_syntax_fault text at);
}
