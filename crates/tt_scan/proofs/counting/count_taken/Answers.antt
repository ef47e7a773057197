use Rattle.std.proofs.Common.{◌∙◌, ap, length, sym}
use Rattle.tt_scan.specs.Held.{rows_taken}
use Rattle.tt_scan.proofs.Prunes.{all_taken}
use Rattle.tt_scan.proofs.counting.count_taken.Goals as goal

pub returns-in-None : goal.returns-in-None
returns-in-None c =
    c.count_all.ensures ∙ ap length (sym (ap (λ f. rows_taken c.args.schema.now f c.args.partition.now.rows) c.in-None.is ∙ all_taken c.args.schema.now c.args.partition.now.rows))
