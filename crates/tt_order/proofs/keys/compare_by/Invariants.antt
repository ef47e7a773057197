use Rattle.std.proofs.Common.{◌≡◌, drop}
use Rattle.tt_order.specs.PlacedKeys.{by_keys}
use Rattle.tt_order.proofs.keys.compare_by.Given as goal

abbrev pub invariant-loop-key : goal.invariant-loop-key
invariant-loop-key l = by_keys (drop l.key-index l.keys) l.a l.b ≡ by_keys l.keys l.a l.b
