use Rattle.std.proofs.Common.{◌≡◌, drop}
use Rattle.tt_plain.specs.Places.{earlier, leftmost, each}
use Rattle.tt_plain.specs.TypeMismatches.{ungrouped_item}
use Rattle.tt_typer.specs.TableScopes.{scope_in}
use Rattle.tt_typer.proofs.mismatches.ungrouped_items.Given as goal

abbrev pub invariant-loop-item : goal.invariant-loop-item
invariant-loop-item l = earlier l.found (leftmost (each (ungrouped_item (scope_in l.scope) l.group) (drop l.item-index l.items))) ≡ leftmost (each (ungrouped_item (scope_in l.scope) l.group) l.items)
