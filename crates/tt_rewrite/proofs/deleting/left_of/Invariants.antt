use Rattle.std.proofs.Common.{take}
use Rattle.tt_value.specs.trees.Predicates.{takes}
use Rattle.tt_value.specs.trees.Scope.{table_scope}
use Rattle.tt_partition.specs.Fits.{FitSchema}
use Rattle.tt_rewrite.specs.Left.{AreOthers}
use Rattle.tt_rewrite.proofs.deleting.left_of.Given as goal

abbrev pub invariant-loop-part : goal.invariant-loop-part
invariant-loop-part l =
    AreOthers (takes (table_scope l.seen.schema) l.filter) (take l.part-index l.seen.parts) l.left
    × FitSchema l.seen.schema l.left.rows
