use Rattle.std.proofs.Common.{refl, sym}
use Rattle.std.proofs.lemmas.Bool.{eqb-true}
use Rattle.tt_parse.specs.Choices.{Skips, on_rows, on_tables, on_transactions, others}
use Rattle.tt_terminal.proofs.Steps.{passes_right, stops_right}
use Rattle.tt_terminal.proofs.Exits.{exits, within, turns_left, turns_right}
use Rattle.tt_parse.proofs.Statements.{skips_to}
use Rattle.tt_parse.proofs.statement.statement_of.Goals as goal

pub returns-then-stands-clause-reads : goal.returns-then-stands-clause-reads
returns-then-stands-clause-reads c = turns_left _ _ _ _ _ _ _ _ (eqb-true _ _ (sym c.if-stands.ensures)) refl refl c.select_of.ensures.reads

pub returns-in_err-found-clause-reads : goal.returns-in_err-found-clause-reads
returns-in_err-found-clause-reads c = exits _ _ _ _ _ _ c.from_residual.result c.from_residual.ensures.1 (within (λ at f. stops_right (rw (sym c.if-stands.ensures) refl) refl f) _ (c.in_err-found.ensures.reads (on_tables (on_transactions (others c.args.levels)))))

pub returns-in-Some-clause-reads : goal.returns-in-Some-clause-reads
returns-in-Some-clause-reads c =
    let chosen = rw c.in-Some.is at c.in_ok-found.ensures.reads in
    passes_right (rw (sym c.if-stands.ensures) refl) refl (chosen (on_tables (on_transactions (others c.args.levels))))

pub returns-in_err-found-2-clause-reads : goal.returns-in_err-found-2-clause-reads
returns-in_err-found-2-clause-reads c =
    let rows : Skips (on_rows c.args.levels) c.args.rest = rw c.in_default.is at c.in_ok-found.ensures.reads in
    exits _ _ _ _ _ _ c.from_residual-in_err-found-2.result c.from_residual-in_err-found-2.ensures.1
    (within (λ at f. stops_right (rw (sym c.if-stands.ensures) refl) refl (rows.halts _ at f)) _ (c.in_err-found-2.ensures.reads (on_transactions (others c.args.levels))))

pub returns-in-Some-2-clause-reads : goal.returns-in-Some-2-clause-reads
returns-in-Some-2-clause-reads c =
    let rows : Skips (on_rows c.args.levels) c.args.rest = rw c.in_default.is at c.in_ok-found.ensures.reads in
    let chosen = rw c.in-Some-2.is at c.in_ok-found-2.ensures.reads in
    passes_right (rw (sym c.if-stands.ensures) refl) refl (rows.goes _ _ _ (chosen (on_transactions (others c.args.levels))))

pub returns-in_err-found-3-clause-reads : goal.returns-in_err-found-3-clause-reads
returns-in_err-found-3-clause-reads c =
    let rows : Skips (on_rows c.args.levels) c.args.rest = rw c.in_default.is at c.in_ok-found.ensures.reads in
    let tables : Skips on_tables c.args.rest = rw c.in_default-2.is at c.in_ok-found-2.ensures.reads in
    exits _ _ _ _ _ _ c.from_residual-in_err-found-3.result c.from_residual-in_err-found-3.ensures.1
    (within (λ at f. stops_right (rw (sym c.if-stands.ensures) refl) refl (rows.halts _ at (tables.halts _ at f))) _ (c.in_err-found-3.ensures.reads (others c.args.levels)))

pub returns-in-Some-3-clause-reads : goal.returns-in-Some-3-clause-reads
returns-in-Some-3-clause-reads c =
    let rows : Skips (on_rows c.args.levels) c.args.rest = rw c.in_default.is at c.in_ok-found.ensures.reads in
    let tables : Skips on_tables c.args.rest = rw c.in_default-2.is at c.in_ok-found-2.ensures.reads in
    let chosen = rw c.in-Some-3.is at c.in_ok-found-3.ensures.reads in
    passes_right (rw (sym c.if-stands.ensures) refl) refl (rows.goes _ _ _ (tables.goes _ _ _ (chosen (others c.args.levels))))

pub returns-clause-reads : goal.returns-clause-reads
returns-clause-reads c =
    let rows : Skips (on_rows c.args.levels) c.args.rest = rw c.in_default.is at c.in_ok-found.ensures.reads in
    let tables : Skips on_tables c.args.rest = rw c.in_default-2.is at c.in_ok-found-2.ensures.reads in
    let transactions : Skips on_transactions c.args.rest = rw c.in_default-3.is at c.in_ok-found-3.ensures.reads in
    turns_right _ _ _ _ _ _ _ (rw (sym c.if-stands.ensures) refl) refl
    (skips_to _ _ (on_rows c.args.levels) _ _ _ rows (skips_to _ _ on_tables _ _ _ tables (skips_to _ _ on_transactions _ _ _ transactions c.other_of.ensures.reads)))
