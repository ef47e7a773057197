use Rattle.std.proofs.Common.{ap, sym, ◌∙◌, arith}
use Rattle.tt_value.specs.declared.predicate.Predicate.{out-Predicate}
use Rattle.tt_plain.specs.Places.{leftmost}
use Rattle.tt_plain.specs.UnknownColumns.{unknown_in_operand, unknown_in_conjunction, unknown_in_unit}
use Rattle.tt_typer.specs.TableScopes.{scope_in}
use Rattle.tt_typer.proofs.Leftmost.{each_start, each_more, leftmost_append}
use Rattle.tt_typer.proofs.Folds.{unknown_in_predicate_out, unknown_in_conjunction_out, unknown_Not, unknown_Bracket, unknown_Compare, unknown_IsNull, unknown_In, unknown_Between, unknown_StartsWith}
use Rattle.tt_typer.proofs.unknown.+unknown_predicates.Goals as goal

pub unknown_in_predicate-loop-conjunction-init : goal.unknown_in_predicate-loop-conjunction-init
unknown_in_predicate-loop-conjunction-init n c =
    rw (c.unknown_in_conjunction-found.ensures, c.as_slice-conjunction-items.ensures)
    (each_start (unknown_in_conjunction (scope_in c.args.scope.now)) _ _ (out-Predicate c.args.predicate.now).others (unknown_in_predicate_out (scope_in c.args.scope.now) c.args.predicate.now))

pub unknown_in_predicate-loop-conjunction-preserved : goal.unknown_in_predicate-loop-conjunction-preserved
unknown_in_predicate-loop-conjunction-preserved n c =
    rw (c.earlier-found.ensures, c.unknown_in_conjunction.ensures)
    (each_more (unknown_in_conjunction (scope_in c.args.scope.now)) c.loop-conjunction.found c.as_slice-conjunction-items.result.now c.loop-conjunction.conjunction-index c.conjunction-item.result _ (omega arith) c.conjunction-item.is c.loop-conjunction.invariant)

pub unknown_in_conjunction-loop-unit-init : goal.unknown_in_conjunction-loop-unit-init
unknown_in_conjunction-loop-unit-init n c =
    rw (c.unknown_in_unit-found.ensures, c.as_slice-unit-items.ensures)
    (each_start (unknown_in_unit (scope_in c.args.scope.now)) _ _ c.args.conjunction.now.others (unknown_in_conjunction_out (scope_in c.args.scope.now) c.args.conjunction.now))

pub unknown_in_conjunction-loop-unit-preserved : goal.unknown_in_conjunction-loop-unit-preserved
unknown_in_conjunction-loop-unit-preserved n c =
    rw (c.earlier-found.ensures, c.unknown_in_unit.ensures)
    (each_more (unknown_in_unit (scope_in c.args.scope.now)) c.loop-unit.found c.as_slice-unit-items.result.now c.loop-unit.unit-index c.unit-item.result _ (omega arith) c.unit-item.is c.loop-unit.invariant)

pub unknown_in_unit-returns-in-Not : goal.unknown_in_unit-returns-in-Not
unknown_in_unit-returns-in-Not n c = rw (c.in-Not.is, c.unknown_in_unit.ensures, c.get.ensures) (ap leftmost (sym (unknown_Not (scope_in c.args.scope.now) c.in-Not.unit)))

pub unknown_in_unit-returns-in-Bracket : goal.unknown_in_unit-returns-in-Bracket
unknown_in_unit-returns-in-Bracket n c = rw (c.in-Bracket.is, c.unknown_in_predicate.ensures, c.get-in-Bracket.ensures) (ap leftmost (sym (unknown_Bracket (scope_in c.args.scope.now) c.in-Bracket.predicate)))

pub unknown_in_unit-returns-in-Compare : goal.unknown_in_unit-returns-in-Compare
unknown_in_unit-returns-in-Compare n c = rw (c.in-Compare.is, c.earlier.ensures, c.unknown_in_operand.ensures, c.unknown_in_operand-in-Compare.ensures) (sym (leftmost_append (unknown_in_operand (scope_in c.args.scope.now) c.in-Compare.left) (unknown_in_operand (scope_in c.args.scope.now) c.in-Compare.right)) ∙ ap leftmost (sym (unknown_Compare (scope_in c.args.scope.now) c.in-Compare.left c.in-Compare.field-1 c.in-Compare.right)))

pub unknown_in_unit-returns-in-IsNull : goal.unknown_in_unit-returns-in-IsNull
unknown_in_unit-returns-in-IsNull n c = rw c.in-IsNull.is (c.unknown_in_operand-in-IsNull.ensures ∙ ap leftmost (sym (unknown_IsNull (scope_in c.args.scope.now) c.in-IsNull.operand c.in-IsNull.field-1)))

pub unknown_in_unit-returns-in-In : goal.unknown_in_unit-returns-in-In
unknown_in_unit-returns-in-In n c = rw c.in-In.is (c.unknown_in_operand-in-In.ensures ∙ ap leftmost (sym (unknown_In (scope_in c.args.scope.now) c.in-In.operand c.in-In.field-1 c.in-In.field-2)))

pub unknown_in_unit-returns-in-Between : goal.unknown_in_unit-returns-in-Between
unknown_in_unit-returns-in-Between n c = rw c.in-Between.is (c.unknown_in_operand-in-Between.ensures ∙ ap leftmost (sym (unknown_Between (scope_in c.args.scope.now) c.in-Between.operand c.in-Between.field-1 c.in-Between.field-2 c.in-Between.field-3)))

pub unknown_in_unit-returns-in-StartsWith : goal.unknown_in_unit-returns-in-StartsWith
unknown_in_unit-returns-in-StartsWith n c = rw c.in-StartsWith.is (c.unknown_name.ensures ∙ ap leftmost (sym (unknown_StartsWith (scope_in c.args.scope.now) c.in-StartsWith.column c.in-StartsWith.field-1)))
