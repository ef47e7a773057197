use Rattle.tt_print.proofs.text.Spacing.{behind}
use Rattle.tt_print.proofs.tables.write_options.Goals as goal

pub returns : goal.returns
returns c = record { ok = behind _ _ _ _ _ c.in_ok-write_cluster_if.ensures.ok c.in_ok-write_retention_if.ensures.ok }
