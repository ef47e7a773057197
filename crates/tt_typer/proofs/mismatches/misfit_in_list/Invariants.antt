use Rattle.std.proofs.Common.{◌≡◌, drop}
use Rattle.tt_plain.specs.Places.{earlier, leftmost, each}
use Rattle.tt_plain.specs.TypeMismatches.{misfit_beside}
use Rattle.tt_typer.specs.TableScopes.{scope_in}
use Rattle.tt_typer.proofs.mismatches.misfit_in_list.Given as goal

abbrev pub invariant-loop-literal : goal.invariant-loop-literal
invariant-loop-literal l = earlier l.found (leftmost (each (misfit_beside (scope_in l.scope) l.left) (drop l.literal-index l.literals))) ≡ leftmost (each (misfit_beside (scope_in l.scope) l.left) l.literals)
