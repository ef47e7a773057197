use Rattle.std.proofs.Common.{ap, sym, ◌∙◌, arith}
use Rattle.tt_value.specs.trees.Truths.{and_truth, or_truth}
use Rattle.tt_model_meaning.specs.Scopes.{scope_in}
use Rattle.tt_model_meaning.specs.Values.{conjunction_truth, unit_truth_of}
use Rattle.tt_model_meaning.proofs.TruthSteps.{predicate_out, conjunction_out, not_out, bracket_out, compare_out, is_null_out, in_out, between_out, starts_with_out}
use Rattle.tt_model_meaning.proofs.Walks.{fold_next}
use Rattle.tt_model_meaning.proofs.predicates.+truths.Goals as goal

pub truth_of-loop-conjunction-init : goal.truth_of-loop-conjunction-init
truth_of-loop-conjunction-init n c =
    rw (c.truth_of_conjunction-truth.ensures, c.as_slice-conjunction-items.ensures) (sym (predicate_out (scope_in c.args.scope.now) c.args.row.now c.args.predicate.now))

pub truth_of-loop-conjunction-preserved : goal.truth_of-loop-conjunction-preserved
truth_of-loop-conjunction-preserved n c =
    fold_next (λ so_far x. or_truth so_far (conjunction_truth (scope_in c.args.scope.now) c.args.row.now x)) c.loop-conjunction.truth _ _ c.as_slice-conjunction-items.result.now c.loop-conjunction.conjunction-index c.conjunction-item.result (omega arith) c.conjunction-item.is
    (c.either-truth.ensures ∙ ap (or_truth c.loop-conjunction.truth) c.truth_of_conjunction.ensures) c.loop-conjunction.invariant

pub truth_of_conjunction-loop-unit-init : goal.truth_of_conjunction-loop-unit-init
truth_of_conjunction-loop-unit-init n c =
    rw (c.truth_of_unit-truth.ensures, c.as_slice-unit-items.ensures) (sym (conjunction_out (scope_in c.args.scope.now) c.args.row.now c.args.conjunction.now))

pub truth_of_conjunction-loop-unit-preserved : goal.truth_of_conjunction-loop-unit-preserved
truth_of_conjunction-loop-unit-preserved n c =
    fold_next (λ so_far x. and_truth so_far (unit_truth_of (scope_in c.args.scope.now) c.args.row.now x)) c.loop-unit.truth _ _ c.as_slice-unit-items.result.now c.loop-unit.unit-index c.unit-item.result (omega arith) c.unit-item.is
    (c.both-truth.ensures ∙ ap (and_truth c.loop-unit.truth) c.truth_of_unit.ensures) c.loop-unit.invariant

pub truth_of_unit-returns-in-Not : goal.truth_of_unit-returns-in-Not
truth_of_unit-returns-in-Not n c =
    rw (c.in-Not.is, c.not.ensures, c.truth_of_unit.ensures, c.get.ensures) (sym (not_out (scope_in c.args.scope.now) c.args.row.now c.in-Not.unit))

pub truth_of_unit-returns-in-Bracket : goal.truth_of_unit-returns-in-Bracket
truth_of_unit-returns-in-Bracket n c =
    rw (c.in-Bracket.is, c.truth_of.ensures, c.get-in-Bracket.ensures) (sym (bracket_out (scope_in c.args.scope.now) c.args.row.now c.in-Bracket.predicate))

pub truth_of_unit-returns-in-Compare : goal.truth_of_unit-returns-in-Compare
truth_of_unit-returns-in-Compare n c =
    rw (c.in-Compare.is, c.comparison_truth.ensures) (sym (compare_out (scope_in c.args.scope.now) c.args.row.now c.in-Compare.left c.in-Compare.comparison c.in-Compare.right))

pub truth_of_unit-returns-in-IsNull : goal.truth_of_unit-returns-in-IsNull
truth_of_unit-returns-in-IsNull n c =
    rw (c.in-IsNull.is, c.not_if.ensures, c.truth_of_bool.ensures, c.is_null.ensures, c.operand_value-value.ensures) (sym (is_null_out (scope_in c.args.scope.now) c.args.row.now c.in-IsNull.operand c.in-IsNull.negated))

pub truth_of_unit-returns-in-In : goal.truth_of_unit-returns-in-In
truth_of_unit-returns-in-In n c =
    rw (c.in-In.is, c.not_if-in-In.ensures, c.in_truth.ensures, c.as_slice.ensures) (sym (in_out (scope_in c.args.scope.now) c.args.row.now c.in-In.operand c.in-In.negated c.in-In.literals))

pub truth_of_unit-returns-in-Between : goal.truth_of_unit-returns-in-Between
truth_of_unit-returns-in-Between n c =
    rw (c.in-Between.is, c.not_if-in-Between.ensures, c.between_truth.ensures) (sym (between_out (scope_in c.args.scope.now) c.args.row.now c.in-Between.operand c.in-Between.negated c.in-Between.least c.in-Between.greatest))

pub truth_of_unit-returns-in-StartsWith : goal.truth_of_unit-returns-in-StartsWith
truth_of_unit-returns-in-StartsWith n c =
    rw (c.in-StartsWith.is, c.begins.ensures, c.column_value.ensures) (sym (starts_with_out (scope_in c.args.scope.now) c.args.row.now c.in-StartsWith.column c.in-StartsWith.front))
