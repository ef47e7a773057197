use Rattle.std.proofs.Common.{ap, sym, ◌∙◌, arith}
use Rattle.tt_value.specs.declared.predicate.Comparison.TheVariants.{Equal}
use Rattle.tt_value.specs.declared.predicate.Operand.TheVariants as operand
use Rattle.tt_value.specs.declared.predicate.Truth.TheVariants.{False}
use Rattle.tt_value.specs.declared.name.Literal.{Literal}
use Rattle.tt_value.specs.trees.Predicates.{comparison_truth}
use Rattle.tt_value.specs.trees.Truths.{or_truth}
use Rattle.tt_typer.proofs.ValueFolds.{fold_map}
use Rattle.tt_model_meaning.specs.Scopes.{scope_in}
use Rattle.tt_model_meaning.proofs.Walks.{fold_next}
use Rattle.tt_model_meaning.proofs.predicates.in_truth.Goals as goal

pub loop-literal-init : goal.loop-literal-init
loop-literal-init c = sym (fold_map or_truth (λ (x : Literal). comparison_truth (scope_in c.args.scope.now) c.args.row.now c.args.operand.now Equal (operand.Literal x)) False c.args.literals.now)

pub loop-literal-preserved : goal.loop-literal-preserved
loop-literal-preserved c =
    fold_next (λ so_far (x : Literal). or_truth so_far (comparison_truth (scope_in c.args.scope.now) c.args.row.now c.args.operand.now Equal (operand.Literal x))) c.loop-literal.truth _ _ c.args.literals.now c.loop-literal.literal-index c.literal-item.result (omega arith) c.literal-item.is
    (c.either-truth.ensures ∙ ap (or_truth c.loop-literal.truth) c.literal_truth-same.ensures) c.loop-literal.invariant
