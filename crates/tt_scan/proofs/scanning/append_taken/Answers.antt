use Rattle.std.proofs.Common.{◌∙◌, ◌++◌, ap, sym}
use Rattle.tt_scan.specs.Held.{rows_taken}
use Rattle.tt_scan.proofs.Prunes.{all_taken}
use Rattle.tt_scan.proofs.Scans.{on_ok}
use Rattle.tt_scan.proofs.scanning.append_taken.Goals as goal

pub returns-in-None : goal.returns-in-None
returns-in-None c =
    on_ok c.append_all.result (λ is. is ∙ ap (λ rows. c.args.rows.now.items ++ rows) (sym (ap (λ f. rows_taken c.args.schema.now f c.args.partition.now.rows) c.in-None.is ∙ all_taken c.args.schema.now c.args.partition.now.rows)))
    c.append_all.ensures
