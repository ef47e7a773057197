use Rattle.std.proofs.Common.{rules, is_lt}
use Rattle.std.proofs.lemmas.Result.{on_ok_weaker}
use Rattle.std.proofs.lemmas.List.Sorted.{ranks_by}
use Rattle.std.proofs.lemmas.Fn.{always_returns_same}
use Rattle.tt_order.specs.PlacedKeys.{by_keys}
use Rattle.tt_order.proofs.KeyOrder.{keys_total}
use Rattle.tt_order.proofs.arranging.sort.Goals as goal

pub returns-clause-sorted : goal.returns-clause-sorted
returns-clause-sorted c =
    let keys = c.args.keys.now in
    on_ok_weaker c.sort_by.result
    (λ sorted. sorted (λ a b. is_lt (by_keys keys a b)) (ranks_by (keys_total keys) (λ x. x)) (always_returns_same _ _ _ (λ a r f k. search rules)))
    c.sort_by.ensures.sorted
