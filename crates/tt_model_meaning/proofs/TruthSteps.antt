-- What a predicate says of a row, one level at a time.
use Rattle.std.proofs.Common.{◌≡◌, Bool, List, None}
use Rattle.std.specs.Prelude.{fold}
use Rattle.tt_value.specs.declared.name.Literal.{Literal}
use Rattle.tt_value.specs.declared.name.Quoted.{Quoted}
use Rattle.tt_value.specs.declared.name.ColumnName.{ColumnName}
use Rattle.tt_value.specs.declared.value.Row.{Row}
use Rattle.tt_value.specs.declared.predicate.Comparison.{Comparison}
use Rattle.tt_value.specs.declared.predicate.Conjunction.{Conjunction}
use Rattle.tt_value.specs.declared.predicate.Operand.{Operand}
use Rattle.tt_value.specs.declared.predicate.Predicate.{Predicate, out-Predicate}
use Rattle.tt_value.specs.declared.predicate.Truth.{Truth}
use Rattle.tt_value.specs.declared.predicate.Unit.{Unit}
use Rattle.tt_value.specs.declared.predicate.Unit.TheVariants as unit
use Rattle.tt_value.specs.trees.Predicates.{begins, between_truth, comparison_truth, in_truth, is_null, operand_value, truth_of, unit_truth}
use Rattle.tt_value.specs.trees.Scope.{Scope, column_value}
use Rattle.tt_value.specs.trees.Truths.{and_truth, not_if, not_truth, or_truth, truth_of_bool}
use Rattle.tt_typer.proofs.TruthFolds.{of_predicate_out, of_conjunction_out, of_not, of_bracket, of_compare, of_is_null, of_in, of_between, of_starts_with}
use Rattle.tt_model_meaning.specs.Values.{conjunction_truth, unit_truth_of}

pub predicate_out : (scope : Scope) (row : Row) (p : Predicate) → truth_of scope row p ≡ fold (λ so_far c. or_truth so_far (conjunction_truth scope row c)) (conjunction_truth scope row (out-Predicate p).first) (out-Predicate p).others
unfolding truth_of conjunction_truth
predicate_out scope row p = of_predicate_out Truth (unit_truth scope row) and_truth or_truth p

pub conjunction_out : (scope : Scope) (row : Row) (c : Conjunction) → conjunction_truth scope row c ≡ fold (λ so_far u. and_truth so_far (unit_truth_of scope row u)) (unit_truth_of scope row c.first) c.others
unfolding conjunction_truth unit_truth_of
conjunction_out scope row c = of_conjunction_out Truth (unit_truth scope row) and_truth or_truth c

pub not_out : (scope : Scope) (row : Row) (u : Unit) → unit_truth_of scope row (unit.Not u) ≡ not_truth (unit_truth_of scope row u)
unfolding unit_truth_of
not_out scope row u = of_not Truth (unit_truth scope row) and_truth or_truth u

pub bracket_out : (scope : Scope) (row : Row) (p : Predicate) → unit_truth_of scope row (unit.Bracket p) ≡ truth_of scope row p
unfolding unit_truth_of truth_of
bracket_out scope row p = of_bracket Truth (unit_truth scope row) and_truth or_truth p

pub compare_out : (scope : Scope) (row : Row) (a : Operand) (c : Comparison) (b : Operand) → unit_truth_of scope row (unit.Compare a c b) ≡ comparison_truth scope row a c b
unfolding unit_truth_of
compare_out scope row a c b = of_compare Truth (unit_truth scope row) and_truth or_truth a c b

pub is_null_out : (scope : Scope) (row : Row) (a : Operand) (negated : Bool) → unit_truth_of scope row (unit.IsNull a negated) ≡ not_if negated (truth_of_bool (is_null (operand_value scope row None a)))
unfolding unit_truth_of
is_null_out scope row a negated = of_is_null Truth (unit_truth scope row) and_truth or_truth a negated

pub in_out : (scope : Scope) (row : Row) (a : Operand) (negated : Bool) (literals : List Literal) → unit_truth_of scope row (unit.In a negated literals) ≡ not_if negated (in_truth scope row a literals)
unfolding unit_truth_of
in_out scope row a negated literals = of_in Truth (unit_truth scope row) and_truth or_truth a negated literals

pub between_out : (scope : Scope) (row : Row) (a : Operand) (negated : Bool) (least greatest : Literal) → unit_truth_of scope row (unit.Between a negated least greatest) ≡ not_if negated (between_truth scope row a least greatest)
unfolding unit_truth_of
between_out scope row a negated least greatest = of_between Truth (unit_truth scope row) and_truth or_truth a negated least greatest

pub starts_with_out : (scope : Scope) (row : Row) (c : ColumnName) (front : Quoted) → unit_truth_of scope row (unit.StartsWith c front) ≡ begins (column_value scope row c) front.text
unfolding unit_truth_of
starts_with_out scope row c front = of_starts_with Truth (unit_truth scope row) and_truth or_truth c front
