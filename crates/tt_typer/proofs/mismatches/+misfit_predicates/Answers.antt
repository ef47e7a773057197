use Rattle.std.proofs.Common.{ap, sym, ◌∙◌, arith}
use Rattle.tt_value.specs.declared.predicate.Predicate.{out-Predicate}
use Rattle.tt_plain.specs.Places.{leftmost}
use Rattle.tt_plain.specs.TypeMismatches.{misfit_beside, misfit_in_conjunction, misfit_in_unit}
use Rattle.tt_typer.specs.TableScopes.{scope_in}
use Rattle.tt_typer.proofs.Leftmost.{each_start, each_more, leftmost_append}
use Rattle.tt_typer.proofs.Folds.{misfit_in_predicate_out, misfit_in_conjunction_out, misfit_Not, misfit_Bracket, misfit_Compare, misfit_IsNull, misfit_In, misfit_Between, misfit_StartsWith}
use Rattle.tt_typer.proofs.mismatches.+misfit_predicates.Goals as goal

pub misfit_in_predicate-loop-conjunction-init : goal.misfit_in_predicate-loop-conjunction-init
misfit_in_predicate-loop-conjunction-init n c =
    rw (c.misfit_in_conjunction-found.ensures, c.as_slice-conjunction-items.ensures)
    (each_start (misfit_in_conjunction (scope_in c.args.scope.now)) _ _ (out-Predicate c.args.predicate.now).others (misfit_in_predicate_out (scope_in c.args.scope.now) c.args.predicate.now))

pub misfit_in_predicate-loop-conjunction-preserved : goal.misfit_in_predicate-loop-conjunction-preserved
misfit_in_predicate-loop-conjunction-preserved n c =
    rw (c.earlier-found.ensures, c.misfit_in_conjunction.ensures)
    (each_more (misfit_in_conjunction (scope_in c.args.scope.now)) c.loop-conjunction.found c.as_slice-conjunction-items.result.now c.loop-conjunction.conjunction-index c.conjunction-item.result _ (omega arith) c.conjunction-item.is c.loop-conjunction.invariant)

pub misfit_in_conjunction-loop-unit-init : goal.misfit_in_conjunction-loop-unit-init
misfit_in_conjunction-loop-unit-init n c =
    rw (c.misfit_in_unit-found.ensures, c.as_slice-unit-items.ensures)
    (each_start (misfit_in_unit (scope_in c.args.scope.now)) _ _ c.args.conjunction.now.others (misfit_in_conjunction_out (scope_in c.args.scope.now) c.args.conjunction.now))

pub misfit_in_conjunction-loop-unit-preserved : goal.misfit_in_conjunction-loop-unit-preserved
misfit_in_conjunction-loop-unit-preserved n c =
    rw (c.earlier-found.ensures, c.misfit_in_unit.ensures)
    (each_more (misfit_in_unit (scope_in c.args.scope.now)) c.loop-unit.found c.as_slice-unit-items.result.now c.loop-unit.unit-index c.unit-item.result _ (omega arith) c.unit-item.is c.loop-unit.invariant)

pub misfit_in_unit-returns-in-Not : goal.misfit_in_unit-returns-in-Not
misfit_in_unit-returns-in-Not n c = rw (c.in-Not.is, c.misfit_in_unit.ensures, c.get.ensures) (ap leftmost (sym (misfit_Not (scope_in c.args.scope.now) c.in-Not.unit)))

pub misfit_in_unit-returns-in-Bracket : goal.misfit_in_unit-returns-in-Bracket
misfit_in_unit-returns-in-Bracket n c = rw (c.in-Bracket.is, c.misfit_in_predicate.ensures, c.get-in-Bracket.ensures) (ap leftmost (sym (misfit_Bracket (scope_in c.args.scope.now) c.in-Bracket.predicate)))

pub misfit_in_unit-returns-in-Compare : goal.misfit_in_unit-returns-in-Compare
misfit_in_unit-returns-in-Compare n c = rw c.in-Compare.is (c.misfit_comparison.ensures ∙ ap leftmost (sym (misfit_Compare (scope_in c.args.scope.now) c.in-Compare.left c.in-Compare.field-1 c.in-Compare.right)))

pub misfit_in_unit-returns-in-IsNull : goal.misfit_in_unit-returns-in-IsNull
misfit_in_unit-returns-in-IsNull n c = rw c.in-IsNull.is (ap leftmost (sym (misfit_IsNull (scope_in c.args.scope.now) c.in-IsNull.field-0 c.in-IsNull.field-1)))

pub misfit_in_unit-returns-in-In : goal.misfit_in_unit-returns-in-In
misfit_in_unit-returns-in-In n c = rw (c.in-In.is, c.misfit_in_list.ensures, c.as_slice.ensures) (ap leftmost (sym (misfit_In (scope_in c.args.scope.now) c.in-In.operand c.in-In.field-1 c.in-In.literals)))

pub misfit_in_unit-returns-in-Between : goal.misfit_in_unit-returns-in-Between
misfit_in_unit-returns-in-Between n c = rw (c.in-Between.is, c.earlier.ensures, c.misfit_beside.ensures, c.misfit_beside-in-Between.ensures) (sym (leftmost_append (misfit_beside (scope_in c.args.scope.now) c.in-Between.operand c.in-Between.least) (misfit_beside (scope_in c.args.scope.now) c.in-Between.operand c.in-Between.greatest)) ∙ ap leftmost (sym (misfit_Between (scope_in c.args.scope.now) c.in-Between.operand c.in-Between.field-1 c.in-Between.least c.in-Between.greatest)))

pub misfit_in_unit-returns-in-StartsWith : goal.misfit_in_unit-returns-in-StartsWith
misfit_in_unit-returns-in-StartsWith n c = rw (c.in-StartsWith.is, c.unless.ensures, c.fits.ensures, c.column_kind.ensures, c.column_begin.ensures) (ap leftmost (sym (misfit_StartsWith (scope_in c.args.scope.now) c.in-StartsWith.column c.in-StartsWith.field-1)))
