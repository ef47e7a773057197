-- The laws of the machine over the grammar as it is written.
use Rattle.tt_sql.proofs.machine.Statements.{statement_ok, statement_only, statement_err, statement_err_only}
use Rattle.tt_sql.proofs.grammar_laws.statements_are_read_exactly.Goals as goal

pub returns : goal.returns
returns c = record { found = statement_ok; only = statement_only; place = statement_err; only_place = statement_err_only }
