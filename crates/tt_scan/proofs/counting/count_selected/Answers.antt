use Rattle.std.proofs.Common.{◌∙◌, Some, ap}
use Rattle.std.specs.List.{count_by}
use Rattle.tt_value.specs.trees.Predicates.{takes}
use Rattle.tt_value.specs.trees.Scope.{table_scope}
use Rattle.tt_scan.proofs.Counts.{count_pass}
use Rattle.tt_scan.proofs.counting.count_selected.Goals as goal

pub returns : goal.returns
returns c = c.count.ensures ∙ ap (count_by (λ bit. bit)) c.in_ok-bits.ensures ∙ count_pass (takes (table_scope c.args.schema.now) (Some c.args.predicate.now)) c.args.partition.now.rows
