use Rattle.std.proofs.Common.{◌≡◌, drop}
use Rattle.tt_plain.specs.Places.{earlier, leftmost, each}
use Rattle.tt_plain.specs.UnknownColumns.{unknown_in_item}
use Rattle.tt_typer.specs.TableScopes.{scope_in}
use Rattle.tt_typer.proofs.unknown.unknown_in_items.Given as goal

abbrev pub invariant-loop-item : goal.invariant-loop-item
invariant-loop-item l = earlier l.found (leftmost (each (unknown_in_item (scope_in l.scope)) (drop l.item-index l.items))) ≡ leftmost (each (unknown_in_item (scope_in l.scope)) l.items)
