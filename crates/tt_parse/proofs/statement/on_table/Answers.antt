use Rattle.std.proofs.Common.{refl, sym}
use Rattle.tt_terminal.proofs.Steps.{passes_left, passes_right, passes_as, stops_first, stops_left, stops_right}
use Rattle.tt_terminal.proofs.Exits.{within}
use Rattle.std.proofs.lemmas.Bool.{eqb-true}
use Rattle.tt_parse.specs.Choices.{on_tables}
use Rattle.tt_parse.proofs.Groups.{chooses_exit, skips_none, skips_first}
use Rattle.tt_parse.proofs.statement.on_table.Goals as goal

pub returns-in_err-created-clause-reads : goal.returns-in_err-created-clause-reads
returns-in_err-created-clause-reads c = chooses_exit _ _ on_tables _ _ c.from_residual.result c.from_residual.ensures.1 (λ others. within (λ at f. stops_left (eqb-true _ _ (sym c.if-stands.ensures)) refl refl (f)) _ c.in_err-created.ensures.reads)

pub returns-then-stands-clause-reads : goal.returns-then-stands-clause-reads
returns-then-stands-clause-reads c = λ others. passes_left (eqb-true _ _ (sym c.if-stands.ensures)) refl refl c.in_ok-created.ensures.reads

pub returns-in_err-table-clause-reads : goal.returns-in_err-table-clause-reads
returns-in_err-table-clause-reads c = chooses_exit _ _ on_tables _ _ c.from_residual-in_err-table.result c.from_residual-in_err-table.ensures.1 (λ others. within (λ at f. stops_right (rw ((sym c.if-stands.ensures)) refl) refl (stops_left (eqb-true _ _ (sym c.if-stands-2.ensures)) refl refl (stops_first f))) _ c.in_err-table.ensures.reads)

pub returns-then-stands-2-clause-reads : goal.returns-then-stands-2-clause-reads
returns-then-stands-2-clause-reads c = λ others. passes_right (rw ((sym c.if-stands.ensures)) refl) refl (passes_left (eqb-true _ _ (sym c.if-stands-2.ensures)) refl refl (passes_as c.in_ok-table.ensures.reads))

pub returns-in_err-table-2-clause-reads : goal.returns-in_err-table-2-clause-reads
returns-in_err-table-2-clause-reads c = chooses_exit _ _ on_tables _ _ c.from_residual-in_err-table-2.result c.from_residual-in_err-table-2.ensures.1 (λ others. within (λ at f. stops_right (rw ((sym c.if-stands.ensures)) refl) refl (stops_right (rw ((sym c.if-stands-2.ensures)) refl) refl (stops_left (eqb-true _ _ (sym c.if-stands-3.ensures)) refl refl (stops_first f)))) _ c.in_err-table-2.ensures.reads)

pub returns-then-stands-3-clause-reads : goal.returns-then-stands-3-clause-reads
returns-then-stands-3-clause-reads c = λ others. passes_right (rw ((sym c.if-stands.ensures)) refl) refl (passes_right (rw ((sym c.if-stands-2.ensures)) refl) refl (passes_left (eqb-true _ _ (sym c.if-stands-3.ensures)) refl refl (passes_as c.in_ok-table-2.ensures.reads)))

pub returns-in_err-table-3-clause-reads : goal.returns-in_err-table-3-clause-reads
returns-in_err-table-3-clause-reads c = chooses_exit _ _ on_tables _ _ c.from_residual-in_err-table-3.result c.from_residual-in_err-table-3.ensures.1 (λ others. within (λ at f. stops_right (rw ((sym c.if-stands.ensures)) refl) refl (stops_right (rw ((sym c.if-stands-2.ensures)) refl) refl (stops_right (rw ((sym c.if-stands-3.ensures)) refl) refl (stops_left (eqb-true _ _ (sym c.if-stands-4.ensures)) refl refl (stops_first f))))) _ c.in_err-table-3.ensures.reads)

pub returns-then-stands-4-clause-reads : goal.returns-then-stands-4-clause-reads
returns-then-stands-4-clause-reads c = λ others. passes_right (rw ((sym c.if-stands.ensures)) refl) refl (passes_right (rw ((sym c.if-stands-2.ensures)) refl) refl (passes_right (rw ((sym c.if-stands-3.ensures)) refl) refl (passes_left (eqb-true _ _ (sym c.if-stands-4.ensures)) refl refl (passes_as c.in_ok-table-3.ensures.reads))))

pub returns-in_err-alter-clause-reads : goal.returns-in_err-alter-clause-reads
returns-in_err-alter-clause-reads c = chooses_exit _ _ on_tables _ _ c.from_residual-in_err-alter.result c.from_residual-in_err-alter.ensures.1 (λ others. within (λ at f. stops_right (rw ((sym c.if-stands.ensures)) refl) refl (stops_right (rw ((sym c.if-stands-2.ensures)) refl) refl (stops_right (rw ((sym c.if-stands-3.ensures)) refl) refl (stops_right (rw ((sym c.if-stands-4.ensures)) refl) refl (stops_left (eqb-true _ _ (sym c.if-stands-5.ensures)) refl refl (stops_first f)))))) _ c.in_err-alter.ensures)

pub returns-then-stands-5-clause-reads : goal.returns-then-stands-5-clause-reads
returns-then-stands-5-clause-reads c = λ others. passes_right (rw ((sym c.if-stands.ensures)) refl) refl (passes_right (rw ((sym c.if-stands-2.ensures)) refl) refl (passes_right (rw ((sym c.if-stands-3.ensures)) refl) refl (passes_right (rw ((sym c.if-stands-4.ensures)) refl) refl (passes_left (eqb-true _ _ (sym c.if-stands-5.ensures)) refl refl (passes_as c.in_ok-alter.ensures)))))

pub returns-clause-reads : goal.returns-clause-reads
returns-clause-reads c = skips_first (rw (sym c.if-stands.ensures) refl) refl (skips_first (rw (sym c.if-stands-2.ensures) refl) refl (skips_first (rw (sym c.if-stands-3.ensures) refl) refl (skips_first (rw (sym c.if-stands-4.ensures) refl) refl (skips_first (rw (sym c.if-stands-5.ensures) refl) refl skips_none))))
