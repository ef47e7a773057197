use Rattle.std.proofs.Common.{ap, ◌∙◌}
use Rattle.tt_sql.specs.meaning.Queries.{limited}
use Rattle.tt_order.specs.PlacedKeys.{by_keys}
use Rattle.tt_order.proofs.KeyOrder.{keys_total, keys_ties}
use Rattle.tt_order.proofs.Sorting.{sorted-from_sort}
use Rattle.tt_order.proofs.arranging.all_rows.Goals as goal

pub returns : goal.returns
returns c =
    let keys = c.args.keys.now in
    c.limit.ensures
    ∙ ap (limited c.args.most.now) (sorted-from_sort (by_keys keys) (keys_total keys) (keys_ties keys) c.args.rows.items c.sort.new.rows.items c.in_ok-sort.ensures.same c.in_ok-sort.ensures.sorted)
