use Rattle.std.proofs.Common.{◌≡◌, drop}
use Rattle.tt_plain.specs.Places.{earlier, leftmost, each}
use Rattle.tt_plain.specs.UnknownColumns.{unknown_in_predicate, unknown_in_conjunction, unknown_in_unit}
use Rattle.tt_typer.specs.TableScopes.{scope_in}
use Rattle.tt_typer.proofs.unknown.+unknown_predicates.Given as goal

abbrev pub invariant-unknown_in_predicate-loop-conjunction : goal.invariant-unknown_in_predicate-loop-conjunction
invariant-unknown_in_predicate-loop-conjunction l = earlier l.found (leftmost (each (unknown_in_conjunction (scope_in l.scope)) (drop l.conjunction-index l.conjunction-items))) ≡ leftmost (unknown_in_predicate (scope_in l.scope) l.predicate)

abbrev pub invariant-unknown_in_conjunction-loop-unit : goal.invariant-unknown_in_conjunction-loop-unit
invariant-unknown_in_conjunction-loop-unit l = earlier l.found (leftmost (each (unknown_in_unit (scope_in l.scope)) (drop l.unit-index l.unit-items))) ≡ leftmost (unknown_in_conjunction (scope_in l.scope) l.conjunction)
