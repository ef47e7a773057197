use Rattle.std.proofs.Common.{List, take, ap, ◌∙◌}
use Rattle.tt_value.specs.declared.value.Row.{Row}
use Rattle.tt_sql.specs.meaning.Queries.{sorted_by}
use Rattle.tt_order.specs.PlacedKeys.{by_keys}
use Rattle.tt_order.proofs.KeyOrder.{keys_total, keys_ties}
use Rattle.tt_order.proofs.Sorting.{first-kept, first-pushed}
use Rattle.tt_order.proofs.arranging.first_rows.Goals as goal

pub loop-row-preserved-in-Continue-branch-2 : goal.loop-row-preserved-in-Continue-branch-2
loop-row-preserved-in-Continue-branch-2 c =
    let keys = c.args.keys.now in
    let most = c.args.most in
    let first = λ (rows : List Row). take most (sorted_by (by_keys keys) rows) in
    ap first c.in_ok-keep_first.ensures
    ∙ (first-kept (by_keys keys) (keys_total keys) (keys_ties keys) most c.push.new.self.items
    ∙ (ap first c.in_ok-push.ensures.items
    ∙ first-pushed (by_keys keys) (keys_total keys) (keys_ties keys) most c.loop-row.kept.items c.loop-row.yielded c.in-Some.row c.loop-row.invariant))

pub loop-row-preserved : goal.loop-row-preserved
loop-row-preserved c =
    let keys = c.args.keys.now in
    let most = c.args.most in
    ap (λ (rows : List Row). take most (sorted_by (by_keys keys) rows)) c.in_ok-push.ensures.items
    ∙ first-pushed (by_keys keys) (keys_total keys) (keys_ties keys) most c.loop-row.kept.items c.loop-row.yielded c.in-Some.row c.loop-row.invariant
