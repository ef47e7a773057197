use Rattle.std.proofs.Common.{refl, sym}
use Rattle.tt_terminal.proofs.Steps.{passes_left, passes_right, passes_as, stops_first, stops_left, stops_right}
use Rattle.tt_terminal.proofs.Exits.{exits, within}
use Rattle.std.proofs.lemmas.Bool.{eqb-true}
use Rattle.tt_parse.proofs.statement.other_of.Goals as goal

pub returns-in_err-wait-clause-reads : goal.returns-in_err-wait-clause-reads
returns-in_err-wait-clause-reads c = exits _ _ _ _ _ _ c.from_residual.result c.from_residual.ensures.1 (within (λ at f. stops_left (eqb-true _ _ (sym c.if-stands.ensures)) refl refl (stops_first f)) _ c.in_err-wait.ensures)

pub returns-then-stands-clause-reads : goal.returns-then-stands-clause-reads
returns-then-stands-clause-reads c = passes_left (eqb-true _ _ (sym c.if-stands.ensures)) refl refl (passes_as c.in_ok-wait.ensures)

pub returns-in_err-query-clause-reads : goal.returns-in_err-query-clause-reads
returns-in_err-query-clause-reads c = exits _ _ _ _ _ _ c.from_residual-in_err-query.result c.from_residual-in_err-query.ensures.1 (within (λ at f. stops_right (rw (sym c.if-stands.ensures) refl) refl (stops_left (eqb-true _ _ (sym c.if-stands-2.ensures)) refl refl (stops_first f))) _ c.in_err-query.ensures.reads)

pub returns-then-stands-2-clause-reads : goal.returns-then-stands-2-clause-reads
returns-then-stands-2-clause-reads c = passes_right (rw (sym c.if-stands.ensures) refl) refl (passes_left (eqb-true _ _ (sym c.if-stands-2.ensures)) refl refl (passes_as c.in_ok-query.ensures.reads))

pub returns-in_err-history-clause-reads : goal.returns-in_err-history-clause-reads
returns-in_err-history-clause-reads c = exits _ _ _ _ _ _ c.from_residual-in_err-history.result c.from_residual-in_err-history.ensures.1 (within (λ at f. stops_right (rw (sym c.if-stands.ensures) refl) refl (stops_right (rw (sym c.if-stands-2.ensures) refl) refl (stops_first f))) _ c.in_err-history.ensures)

pub returns-clause-reads : goal.returns-clause-reads
returns-clause-reads c = passes_right (rw (sym c.if-stands.ensures) refl) refl (passes_right (rw (sym c.if-stands-2.ensures) refl) refl (passes_as c.in_ok-history.ensures))
