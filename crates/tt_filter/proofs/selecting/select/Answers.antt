use Rattle.std.proofs.Common.{◌∙◌}
use Rattle.tt_value.specs.trees.Scope.{table_scope}
use Rattle.tt_value.specs.trees.Truths.{is_true}
use Rattle.tt_filter.specs.Parts as parts
use Rattle.tt_filter.proofs.Lists.{map_twice}
use Rattle.tt_filter.proofs.selecting.select.Goals as goal

pub returns : goal.returns
returns c = c.in_ok-trues.ensures.truths.trues ∙ map_twice is_true (parts.in_predicate (table_scope c.args.schema.now) c.args.predicate.now) c.args.partition.now.rows
