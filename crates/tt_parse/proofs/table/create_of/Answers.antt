use Rattle.std.proofs.Common.{◌++◌, ◌∷◌, [], map, refl, sym}
use Rattle.std.specs.Prelude.{⊤}
use Rattle.std.proofs.lemmas.Bool.{eqb-true}
use Rattle.tt_sql.specs.grammar.Grammar.{Way}
use Rattle.tt_sql.specs.marks.Expressions.{flag_marks, listed_marks, maybe_marks, table_marks}
use Rattle.tt_sql.specs.trees.Lists.{IsListed}
use Rattle.tt_sql.specs.marks.Queries.{clause_marks}
use Rattle.tt_sql.specs.determined.Queries.{IsGivenSource}
use Rattle.tt_sql.specs.marks.Tables.{definition_marks, options_marks, table_kind_marks}
use Rattle.tt_parse.specs.Created.{columns_marks, origin_marks}
use Rattle.tt_terminal.proofs.Exits.{exits, regroup, within}
use Rattle.tt_terminal.proofs.Pairs.{pair_first, pair_holds, pair_reads}
use Rattle.tt_terminal.proofs.Steps.{marks_are, passes_both, passes_left, passes_right, stops_first, stops_left, stops_right, stops_second}
use Rattle.tt_parse.proofs.table.create_of.Goals as goal

pub returns-in_err-front-clause-reads : goal.returns-in_err-front-clause-reads
returns-in_err-front-clause-reads c = exits _ _ _ _ _ _ c.from_residual.result c.from_residual.ensures.1 (within (λ at f. stops_first f) _ c.in_err-front.ensures)

pub returns-in_err-head-clause-reads : goal.returns-in_err-head-clause-reads
returns-in_err-head-clause-reads c = exits _ _ _ _ _ _ c.from_residual-in_err-head.result c.from_residual-in_err-head.ensures.1
    (within (λ at f. stops_second c.in_ok-front.ensures (stops_left (eqb-true _ _ (sym c.if-stands.ensures)) refl refl f)) _ (pair_reads _ _ _ (λ x. columns_marks x.0) _ _ c.in_err-head.ensures c.columns_of.ensures.reads))

pub returns-then-stands-clause-reads : goal.returns-then-stands-clause-reads
returns-then-stands-clause-reads c = rw (pair_first _ _ _ c.in_ok-head.ensures)
    (marks_are (regroup (flag_marks c.in_ok-front.front.0 ++ (table_kind_marks c.in_ok-front.front.1 ++ table_marks c.in_ok-front.front.2)) (listed_marks (map definition_marks c.in_ok-head.parts.0)) (options_marks c.in_ok-head.parts.1) (Way 5 ∷ []))
    (passes_both c.in_ok-front.ensures (passes_left (eqb-true _ _ (sym c.if-stands.ensures)) refl refl (pair_reads _ _ _ (λ x. columns_marks x.0) _ _ c.in_ok-head.ensures c.columns_of.ensures.reads))))

pub returns-in_err-beginning-clause-reads : goal.returns-in_err-beginning-clause-reads
returns-in_err-beginning-clause-reads c = exits _ _ _ _ _ _ c.from_residual-in_err-beginning.result c.from_residual-in_err-beginning.ensures.1
    (within (λ at f. stops_second c.in_ok-front.ensures (stops_right (rw (sym c.if-stands.ensures) refl) refl f)) _ (pair_reads _ _ _ (λ x. origin_marks x.0) _ _ c.in_err-beginning.ensures c.origin_of.ensures.reads))

pub returns-clause-reads : goal.returns-clause-reads
returns-clause-reads c = rw (pair_first _ _ _ c.in_ok-beginning.ensures)
    (marks_are (regroup (flag_marks c.in_ok-front.front.0 ++ (table_kind_marks c.in_ok-front.front.1 ++ table_marks c.in_ok-front.front.2)) (table_marks c.in_ok-beginning.source.table) (maybe_marks clause_marks c.in_ok-beginning.source.clause) (Way 6 ∷ []))
    (passes_both c.in_ok-front.ensures (passes_right (rw (sym c.if-stands.ensures) refl) refl (pair_reads _ _ _ (λ x. origin_marks x.0) _ _ c.in_ok-beginning.ensures c.origin_of.ensures.reads))))

pub returns-then-stands-clause-given : goal.returns-then-stands-clause-given
returns-then-stands-clause-given c = pair_holds _ _ _ (λ x. IsListed (λ d. ⊤) x.0.0) c.in_ok-head.ensures c.columns_of.ensures.given

pub returns-clause-given : goal.returns-clause-given
returns-clause-given c = pair_holds _ _ _ (λ x. IsGivenSource x.0) c.in_ok-beginning.ensures c.origin_of.ensures.given
