use Rattle.std.proofs.Common.{◌∙◌, ap, length, sym}
use Rattle.tt_value.specs.trees.Scope.{table_scope}
use Rattle.tt_zone.specs.Possible.{possible}
use Rattle.tt_scan.specs.Held.{is_sure}
use Rattle.tt_scan.proofs.Prunes.{each_taken, not_false, pruned}
use Rattle.tt_scan.proofs.counting.count_where.Goals as goal

pub returns-then-not-truths : goal.returns-then-not-truths
returns-then-not-truths c =
    let truths = c.possible-truths.ensures ∙ ap (λ zones. possible (table_scope c.args.schema.now) zones c.args.predicate.now) c.zones.ensures in
    let none = ap (λ set. set.has_true) (sym truths) ∙ not_false c.possible-truths.result.has_true c.if-not-truths.true in
    sym (ap length (pruned c.args.schema.now c.args.partition.now c.args.predicate.now c.requires none))

pub returns-then-is_sure : goal.returns-then-is_sure
returns-then-is_sure c =
    let truths = c.possible-truths.ensures ∙ ap (λ zones. possible (table_scope c.args.schema.now) zones c.args.predicate.now) c.zones.ensures in
    let sure = ap is_sure (sym truths) ∙ (sym c.is_sure.ensures ∙ c.if-is_sure.true) in
    c.count_all.ensures ∙ sym (ap length (each_taken c.args.schema.now c.args.partition.now c.args.predicate.now c.requires sure))
