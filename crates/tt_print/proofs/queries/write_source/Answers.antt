use Rattle.tt_print.proofs.text.Spacing.{behind}
use Rattle.tt_print.proofs.queries.write_source.Goals as goal

pub returns : goal.returns
returns c = record { ok = behind _ _ _ _ _ c.in_ok-write_table_name.ensures.ok c.in_ok-write_clause_if.ensures.ok }
