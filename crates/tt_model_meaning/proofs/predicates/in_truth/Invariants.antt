use Rattle.std.proofs.Common.{◌≡◌, drop}
use Rattle.std.specs.Prelude.{fold}
use Rattle.tt_value.specs.declared.predicate.Comparison.TheVariants.{Equal}
use Rattle.tt_value.specs.declared.predicate.Operand.TheVariants as operand
use Rattle.tt_value.specs.declared.name.Literal.{Literal}
use Rattle.tt_value.specs.trees.Predicates.{comparison_truth, in_truth}
use Rattle.tt_value.specs.trees.Truths.{or_truth}
use Rattle.tt_model_meaning.specs.Scopes.{scope_in}
use Rattle.tt_model_meaning.proofs.predicates.in_truth.Given as goal

abbrev pub invariant-loop-literal : goal.invariant-loop-literal
invariant-loop-literal l = fold (λ so_far (x : Literal). or_truth so_far (comparison_truth (scope_in l.scope) l.row l.operand Equal (operand.Literal x))) l.truth (drop l.literal-index l.literals) ≡ in_truth (scope_in l.scope) l.row l.operand l.literals
