use Rattle.std.proofs.Common.{◌≡◌, drop}
use Rattle.tt_plain.specs.Places.{earlier, leftmost, each_at}
use Rattle.tt_plain.specs.TypeMismatches.{misfit_item}
use Rattle.tt_typer.specs.TableScopes.{scope_in}
use Rattle.tt_typer.proofs.values.misfit_items.Given as goal

abbrev pub invariant-loop-at : goal.invariant-loop-at
invariant-loop-at l = earlier l.found (leftmost (each_at (misfit_item l.target l.names (scope_in l.read)) l.at (drop l.at l.items))) ≡ leftmost (each_at (misfit_item l.target l.names (scope_in l.read)) 0 l.items)
