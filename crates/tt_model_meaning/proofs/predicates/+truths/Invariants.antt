use Rattle.std.proofs.Common.{◌≡◌, drop}
use Rattle.std.specs.Prelude.{fold}
use Rattle.tt_value.specs.trees.Predicates.{truth_of}
use Rattle.tt_value.specs.trees.Truths.{and_truth, or_truth}
use Rattle.tt_model_meaning.specs.Scopes.{scope_in}
use Rattle.tt_model_meaning.specs.Values.{conjunction_truth, unit_truth_of}
use Rattle.tt_model_meaning.proofs.predicates.+truths.Given as goal

abbrev pub invariant-truth_of-loop-conjunction : goal.invariant-truth_of-loop-conjunction
invariant-truth_of-loop-conjunction l = fold (λ so_far c. or_truth so_far (conjunction_truth (scope_in l.scope) l.row c)) l.truth (drop l.conjunction-index l.conjunction-items) ≡ truth_of (scope_in l.scope) l.row l.predicate

abbrev pub invariant-truth_of_conjunction-loop-unit : goal.invariant-truth_of_conjunction-loop-unit
invariant-truth_of_conjunction-loop-unit l = fold (λ so_far u. and_truth so_far (unit_truth_of (scope_in l.scope) l.row u)) l.truth (drop l.unit-index l.unit-items) ≡ conjunction_truth (scope_in l.scope) l.row l.conjunction
