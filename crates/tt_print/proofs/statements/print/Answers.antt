use Rattle.tt_print.specs.text.Statements.{statement_words}
use Rattle.tt_print.proofs.text.Joining.{appended}
use Rattle.tt_print.proofs.statements.print.Goals as goal

pub returns-in-Some-clause-ok : goal.returns-in-Some-clause-ok
returns-in-Some-clause-ok c =
    appended c.extend_from_slice.result (statement_words c.args.statement.now) _ _ _ _ _ _ _
    c.new-text.ensures.items c.in_ok-write_statement.ensures.ok c.deref.ensures.value c.in-Some.ensures.cases.0 c.extend_from_slice.ensures.items
