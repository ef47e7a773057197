use Rattle.tt_print.proofs.again.Expressions.{expr_read}
use Rattle.tt_print.proofs.again.Predicates.{predicate_read}
use Rattle.tt_print.proofs.again.Queries.{query_read}
use Rattle.tt_print.proofs.again.Statements.{statement_read}
use Rattle.tt_print.proofs.laws.printed_trees_are_read_again.Goals as goal

pub returns : goal.returns
returns c = record { expression = expr_read; predicate = predicate_read; query = query_read; every = statement_read }
