use Rattle.tt_sql.proofs.marks.Expressions.{marks-StartsWith}
use Rattle.tt_terminal.proofs.Exits.{exits, within}
use Rattle.tt_terminal.proofs.Steps.{marks_are, passes_as, passes_both, stops_first, stops_second}
use Rattle.tt_phrase.proofs.GivenTrees.{given_starts_with}
use Rattle.tt_phrase.proofs.unit.starts_with_of.Goals as goal

pub returns-in_err-column-clause-reads : goal.returns-in_err-column-clause-reads
returns-in_err-column-clause-reads c = exits _ _ _ _ _ _ c.from_residual.result c.from_residual.ensures.1 (within (λ at f. stops_first f) _ c.in_err-column.ensures.reads)

pub returns-in_err-rest-clause-reads : goal.returns-in_err-rest-clause-reads
returns-in_err-rest-clause-reads c = exits _ _ _ _ _ _ c.from_residual-in_err-rest.result c.from_residual-in_err-rest.ensures.1 (within (λ at f. stops_second c.in_ok-column.ensures.reads (stops_first f)) _ c.in_err-rest.ensures)

pub returns-in_err-front-clause-reads : goal.returns-in_err-front-clause-reads
returns-in_err-front-clause-reads c = exits _ _ _ _ _ _ c.from_residual-in_err-front.result c.from_residual-in_err-front.ensures.1 (within (λ at f. stops_second c.in_ok-column.ensures.reads (stops_second c.in_ok-rest.ensures (stops_first f))) _ c.in_err-front.ensures)

pub returns-in_err-rest-2-clause-reads : goal.returns-in_err-rest-2-clause-reads
returns-in_err-rest-2-clause-reads c = exits _ _ _ _ _ _ c.from_residual-in_err-rest-2.result c.from_residual-in_err-rest-2.ensures.1 (within (λ at f. stops_second c.in_ok-column.ensures.reads (stops_second c.in_ok-rest.ensures (stops_second c.in_ok-front.ensures (stops_first f)))) _ c.in_err-rest-2.ensures)

pub returns-clause-reads : goal.returns-clause-reads
returns-clause-reads c = marks_are (marks-StartsWith _ _) (passes_both c.in_ok-column.ensures.reads (passes_both c.in_ok-rest.ensures (passes_both c.in_ok-front.ensures (passes_as c.in_ok-rest-2.ensures))))

pub returns-clause-given : goal.returns-clause-given
returns-clause-given c = given_starts_with _ _
