use Rattle.std.proofs.Common.{◌∙◌, ◌++◌, Some, ap}
use Rattle.tt_value.specs.trees.Predicates.{takes}
use Rattle.tt_value.specs.trees.Scope.{table_scope}
use Rattle.tt_scan.specs.Chosen.{chosen}
use Rattle.tt_scan.proofs.Choices.{chosen_pass}
use Rattle.tt_scan.proofs.Scans.{on_ok}
use Rattle.tt_scan.proofs.scanning.append_selected.Goals as goal

pub returns : goal.returns
returns c =
    on_ok c.append_chosen.result
    (λ is. is
    ∙ ap (λ bits. c.args.rows.now.items ++ chosen bits c.args.partition.now.rows) c.in_ok-bits.ensures
    ∙ ap (λ rows. c.args.rows.now.items ++ rows) (chosen_pass (takes (table_scope c.args.schema.now) (Some c.args.predicate.now)) c.args.partition.now.rows))
    c.append_chosen.ensures
