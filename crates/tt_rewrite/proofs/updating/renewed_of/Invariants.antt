use Rattle.std.proofs.Common.{take}
use Rattle.tt_value.specs.trees.Predicates.{takes}
use Rattle.tt_value.specs.trees.Scope.{table_scope}
use Rattle.tt_partition.specs.Fits.{FitSchema}
use Rattle.tt_rewrite.specs.Renewed.{AreRenewed}
use Rattle.tt_rewrite.specs.Sets.{becomes}
use Rattle.tt_rewrite.proofs.updating.renewed_of.Given as goal

abbrev pub invariant-loop-part : goal.invariant-loop-part
invariant-loop-part l =
    AreRenewed (takes (table_scope l.seen.schema) l.filter) (becomes l.setting) l.seen.schema (take l.part-index l.seen.parts) l.renewed
    × FitSchema l.seen.schema l.renewed.left.rows
