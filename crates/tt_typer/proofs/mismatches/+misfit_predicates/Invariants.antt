use Rattle.std.proofs.Common.{◌≡◌, drop}
use Rattle.tt_plain.specs.Places.{earlier, leftmost, each}
use Rattle.tt_plain.specs.TypeMismatches.{misfit_in_predicate, misfit_in_conjunction, misfit_in_unit}
use Rattle.tt_typer.specs.TableScopes.{scope_in}
use Rattle.tt_typer.proofs.mismatches.+misfit_predicates.Given as goal

abbrev pub invariant-misfit_in_predicate-loop-conjunction : goal.invariant-misfit_in_predicate-loop-conjunction
invariant-misfit_in_predicate-loop-conjunction l = earlier l.found (leftmost (each (misfit_in_conjunction (scope_in l.scope)) (drop l.conjunction-index l.conjunction-items))) ≡ leftmost (misfit_in_predicate (scope_in l.scope) l.predicate)

abbrev pub invariant-misfit_in_conjunction-loop-unit : goal.invariant-misfit_in_conjunction-loop-unit
invariant-misfit_in_conjunction-loop-unit l = earlier l.found (leftmost (each (misfit_in_unit (scope_in l.scope)) (drop l.unit-index l.unit-items))) ≡ leftmost (misfit_in_conjunction (scope_in l.scope) l.conjunction)
