use Rattle.std.proofs.Common.{◌≡◌, drop}
use Rattle.tt_plain.specs.Places.{earlier, leftmost, each_at}
use Rattle.tt_plain.specs.NullsInNotNull.{null_in_item}
use Rattle.tt_typer.proofs.nulls.nulls_in_items.Given as goal

abbrev pub invariant-loop-at : goal.invariant-loop-at
invariant-loop-at l = earlier l.found (leftmost (each_at (null_in_item l.schema l.names) l.at (drop l.at l.items))) ≡ leftmost (each_at (null_in_item l.schema l.names) 0 l.items)
