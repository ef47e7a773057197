use Rattle.std.proofs.Common.{◌≡◌, ◌<◌, length, get_or, subst, arith}
use Rattle.tt_value.specs.trees.Predicates.{takes}
use Rattle.tt_value.specs.trees.Scope.{table_scope}
use Rattle.tt_partition.specs.Table.{Table}
use Rattle.tt_rewrite.specs.Left.{AddsOthers, unless_taken}
use Rattle.tt_rewrite.proofs.Parts.{left_next}
use Rattle.tt_rewrite.proofs.deleting.left_of.Goals as goal

pub loop-part-preserved : goal.loop-part-preserved
loop-part-preserved c =
    let taken = takes (table_scope c.args.seen.now.schema) c.args.filter.now in
    let below = subst (λ parts. c.loop-part.part-index < length parts) c.items-part-items.ensures (omega arith) in
    let is = subst (λ parts. c.part-item.result ≡ get_or parts c.loop-part.part-index c.part-item.result) c.items-part-items.ensures c.part-item.is in
    let adds = subst (λ (part : Table). AddsOthers taken (c.part-item.result.0, part) c.loop-part.left c.leave_part.new.left) c.partition.ensures c.in_ok-leave_part.ensures.left in (
      left_next taken (unless_taken taken) c.args.seen.now.parts c.loop-part.part-index c.part-item.result c.loop-part.left c.leave_part.new.left below is c.loop-part.invariant.0 adds,
      c.in_ok-leave_part.ensures.fit,
    )
