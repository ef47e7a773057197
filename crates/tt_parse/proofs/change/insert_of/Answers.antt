use Rattle.tt_terminal.proofs.Exits.{exits, within}
use Rattle.tt_terminal.proofs.Pairs.{pair_first, pair_holds, pair_reads}
use Rattle.tt_terminal.proofs.Steps.{passes_both, stops_first, stops_second}
use Rattle.std.specs.Prelude.{⊤}
use Rattle.tt_sql.specs.trees.Lists.{IsListed, WhenThere}
use Rattle.tt_sql.specs.determined.Statements.{IsGivenInsertSource}
use Rattle.tt_parse.specs.Changes.{inserts_marks}
use Rattle.tt_parse.proofs.change.insert_of.Goals as goal

pub returns-in_err-rest-clause-reads : goal.returns-in_err-rest-clause-reads
returns-in_err-rest-clause-reads c = exits _ _ _ _ _ _ c.from_residual.result c.from_residual.ensures.1 (within (λ at f. stops_first f) _ c.in_err-rest.ensures)

pub returns-in_err-rest-2-clause-reads : goal.returns-in_err-rest-2-clause-reads
returns-in_err-rest-2-clause-reads c = exits _ _ _ _ _ _ c.from_residual-in_err-rest-2.result c.from_residual-in_err-rest-2.ensures.1 (within (λ at f. stops_second c.in_ok-rest.ensures (stops_first f)) _ c.in_err-rest-2.ensures)

pub returns-in_err-name-clause-reads : goal.returns-in_err-name-clause-reads
returns-in_err-name-clause-reads c = exits _ _ _ _ _ _ c.from_residual-in_err-name.result c.from_residual-in_err-name.ensures.1 (within (λ at f. stops_second c.in_ok-rest.ensures (stops_second c.in_ok-rest-2.ensures (stops_first f))) _ c.in_err-name.ensures.reads)

pub returns-in_err-table-clause-reads : goal.returns-in_err-table-clause-reads
returns-in_err-table-clause-reads c = exits _ _ _ _ _ _ c.from_residual-in_err-table.result c.from_residual-in_err-table.ensures.1 (within (λ at f. stops_second c.in_ok-rest.ensures (stops_second c.in_ok-rest-2.ensures (stops_second c.in_ok-name.ensures.reads f))) _ (pair_reads _ _ _ (λ x. inserts_marks x.0) _ _ c.in_err-table.ensures c.inserted_of.ensures.reads))

pub returns-clause-reads : goal.returns-clause-reads
returns-clause-reads c = rw (pair_first _ _ _ c.in_ok-table.ensures) (passes_both c.in_ok-rest.ensures (passes_both c.in_ok-rest-2.ensures (passes_both c.in_ok-name.ensures.reads (pair_reads _ _ _ (λ x. inserts_marks x.0) _ _ c.in_ok-table.ensures c.inserted_of.ensures.reads))))

pub returns-clause-given : goal.returns-clause-given
returns-clause-given c = (
  pair_holds _ _ _ (λ x. WhenThere (λ names. IsListed (λ n. ⊤) names) x.0.0) c.in_ok-table.ensures c.inserted_of.ensures.columns,
  pair_holds _ _ _ (λ x. IsGivenInsertSource x.0.1) c.in_ok-table.ensures c.inserted_of.ensures.source,
)
