-- A text has the statement that its tokens spell, or the place of their fault.
use Rattle.tt_sql.proofs.text.StatementOf.{found_statement, only_statement, found_fault, found_lex_fault}
use Rattle.tt_sql.proofs.tree_laws.texts_have_one_statement.Goals as goal

pub returns : goal.returns
returns c = record { found = found_statement; only = only_statement; fault = found_fault; no_tokens = found_lex_fault }
