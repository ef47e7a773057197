use Rattle.std.proofs.Common.{refl, sym}
use Rattle.tt_terminal.proofs.Steps.{passes_left, passes_right, passes_as, stops_first, stops_left, stops_right}
use Rattle.tt_terminal.proofs.Exits.{within}
use Rattle.std.proofs.lemmas.Bool.{eqb-true}
use Rattle.tt_parse.specs.Choices.{on_rows}
use Rattle.tt_parse.proofs.Groups.{chooses_exit, skips_none, skips_first}
use Rattle.tt_parse.proofs.statement.on_row.Goals as goal

pub returns-in_err-insert-clause-reads : goal.returns-in_err-insert-clause-reads
returns-in_err-insert-clause-reads c = chooses_exit _ _ (on_rows c.args.levels) _ _ c.from_residual.result c.from_residual.ensures.1 (λ others. within (λ at f. stops_left (eqb-true _ _ (sym c.if-stands.ensures)) refl refl (stops_first f)) _ c.in_err-insert.ensures.reads)

pub returns-then-stands-clause-reads : goal.returns-then-stands-clause-reads
returns-then-stands-clause-reads c = λ others. passes_left (eqb-true _ _ (sym c.if-stands.ensures)) refl refl (passes_as c.in_ok-insert.ensures.reads)

pub returns-in_err-update-clause-reads : goal.returns-in_err-update-clause-reads
returns-in_err-update-clause-reads c = chooses_exit _ _ (on_rows c.args.levels) _ _ c.from_residual-in_err-update.result c.from_residual-in_err-update.ensures.1 (λ others. within (λ at f. stops_right (rw (sym c.if-stands.ensures) refl) refl (stops_left (eqb-true _ _ (sym c.if-stands-2.ensures)) refl refl (stops_first f))) _ c.in_err-update.ensures.reads)

pub returns-then-stands-2-clause-reads : goal.returns-then-stands-2-clause-reads
returns-then-stands-2-clause-reads c = λ others. passes_right (rw (sym c.if-stands.ensures) refl) refl (passes_left (eqb-true _ _ (sym c.if-stands-2.ensures)) refl refl (passes_as c.in_ok-update.ensures.reads))

pub returns-in_err-delete-clause-reads : goal.returns-in_err-delete-clause-reads
returns-in_err-delete-clause-reads c = chooses_exit _ _ (on_rows c.args.levels) _ _ c.from_residual-in_err-delete.result c.from_residual-in_err-delete.ensures.1 (λ others. within (λ at f. stops_right (rw (sym c.if-stands.ensures) refl) refl (stops_right (rw (sym c.if-stands-2.ensures) refl) refl (stops_left (eqb-true _ _ (sym c.if-stands-3.ensures)) refl refl (stops_first f)))) _ c.in_err-delete.ensures.reads)

pub returns-then-stands-3-clause-reads : goal.returns-then-stands-3-clause-reads
returns-then-stands-3-clause-reads c = λ others. passes_right (rw (sym c.if-stands.ensures) refl) refl (passes_right (rw (sym c.if-stands-2.ensures) refl) refl (passes_left (eqb-true _ _ (sym c.if-stands-3.ensures)) refl refl (passes_as c.in_ok-delete.ensures.reads)))

pub returns-in_err-copy-clause-reads : goal.returns-in_err-copy-clause-reads
returns-in_err-copy-clause-reads c = chooses_exit _ _ (on_rows c.args.levels) _ _ c.from_residual-in_err-copy.result c.from_residual-in_err-copy.ensures.1 (λ others. within (λ at f. stops_right (rw (sym c.if-stands.ensures) refl) refl (stops_right (rw (sym c.if-stands-2.ensures) refl) refl (stops_right (rw (sym c.if-stands-3.ensures) refl) refl (stops_left (eqb-true _ _ (sym c.if-stands-4.ensures)) refl refl (stops_first f))))) _ c.in_err-copy.ensures)

pub returns-then-stands-4-clause-reads : goal.returns-then-stands-4-clause-reads
returns-then-stands-4-clause-reads c = λ others. passes_right (rw (sym c.if-stands.ensures) refl) refl (passes_right (rw (sym c.if-stands-2.ensures) refl) refl (passes_right (rw (sym c.if-stands-3.ensures) refl) refl (passes_left (eqb-true _ _ (sym c.if-stands-4.ensures)) refl refl (passes_as c.in_ok-copy.ensures))))

pub returns-clause-reads : goal.returns-clause-reads
returns-clause-reads c = skips_first (rw (sym c.if-stands.ensures) refl) refl (skips_first (rw (sym c.if-stands-2.ensures) refl) refl (skips_first (rw (sym c.if-stands-3.ensures) refl) refl (skips_first (rw (sym c.if-stands-4.ensures) refl) refl skips_none)))
