-- The value of a column alone, and of a sum of a column and a written value.
use Rattle.std.proofs.Common.{◌≡◌, rules, Bool, List, Option, Some, None, ap, sym, ◌∙◌}
use Rattle.tt_value.specs.declared.value.Value.{Value}
use Rattle.tt_value.specs.declared.value.Row.{Row}
use Rattle.tt_value.specs.declared.name.Literal.{Literal}
use Rattle.tt_value.specs.declared.name.ColumnName.{ColumnName}
use Rattle.tt_value.specs.declared.expression.Sign.{Sign}
use Rattle.tt_value.specs.declared.expression.Sign.TheVariants.{Plus}
use Rattle.tt_value.specs.declared.expression.Factor.TheVariants as factor
use Rattle.tt_value.specs.declared.expression.Factor.TheVariants.{rolls-Column, rolls-Literal}
use Rattle.tt_value.specs.declared.expression.Factor.TheFolds.{fold-Factor, fold-roll-Expr, fold-roll-Term, fold-roll-Factor, fold-roll-Addend}
use Rattle.tt_value.specs.trees.Scope.{Scope, column_value}
use Rattle.tt_value.specs.trees.Expressions.{value_of, then_both, add_signed, factor_value, addend_value, sum_value, product_value}
use Rattle.tt_value.specs.declared.predicate.Truth.{Truth}
use Rattle.tt_value.specs.declared.predicate.Unit.{Unit as Test}
use Rattle.tt_value.specs.declared.predicate.Unit.TheFolds.{fold-Unit, fold-roll-Unit, fold-roll-Conjunction, fold-roll-Predicate}
use Rattle.tt_value.specs.declared.predicate.Comparison.{Comparison}
use Rattle.tt_value.specs.declared.predicate.Operand.{Operand}
use Rattle.tt_value.specs.declared.predicate.Operand.TheVariants as operand
use Rattle.tt_value.specs.trees.Truths.{or_truth, and_truth, not_truth, not_if, truth_of_bool}
use Rattle.tt_value.specs.trees.Predicates.{unit_truth, all_truth, any_truth, truth_of, comparison_truth, in_truth, between_truth, operand_value, is_null as null_test}
use Rattle.tt_sql.specs.meaning.Examples.{alone, sum, compare, is_null, is_in, is_between, negation, one, both, whole, either}

module _ (scope : Scope) (row : Row) where
  abbrev V : Type 0
  V = Option Value

  column_is : (c : ColumnName) → fold-Factor V (Sign × V) V V (factor_value scope row) (addend_value scope row) (sum_value scope row) (product_value scope row) (factor.Column c) ≡ Some (column_value scope row c)
  column_is c = ap (fold-Factor V (Sign × V) V V (factor_value scope row) (addend_value scope row) (sum_value scope row) (product_value scope row)) (sym (rolls-Column c)) ∙ fold-roll-Factor V (Sign × V) V V (factor_value scope row) (addend_value scope row) (sum_value scope row) (product_value scope row) _

  literal_is : (l : Literal) → fold-Factor V (Sign × V) V V (factor_value scope row) (addend_value scope row) (sum_value scope row) (product_value scope row) (factor.Literal l) ≡ Some l.value
  literal_is l = ap (fold-Factor V (Sign × V) V V (factor_value scope row) (addend_value scope row) (sum_value scope row) (product_value scope row)) (sym (rolls-Literal l)) ∙ fold-roll-Factor V (Sign × V) V V (factor_value scope row) (addend_value scope row) (sum_value scope row) (product_value scope row) _

  pub value_of_column : (c : ColumnName) → value_of scope row (alone (factor.Column c)) ≡ Some (column_value scope row c)
  unfolding value_of
  value_of_column c = search (rules, column_is, fold-roll-Expr V (Sign × V) V V (factor_value scope row) (addend_value scope row) (sum_value scope row) (product_value scope row), fold-roll-Term V (Sign × V) V V (factor_value scope row) (addend_value scope row) (sum_value scope row) (product_value scope row))

  pub value_of_sum : (c : ColumnName) (l : Literal) → value_of scope row (sum (factor.Column c) (factor.Literal l)) ≡ then_both (add_signed Plus) (Some (column_value scope row c)) (Some l.value)
  unfolding value_of
  value_of_sum c l = search (rules, column_is, literal_is, fold-roll-Expr V (Sign × V) V V (factor_value scope row) (addend_value scope row) (sum_value scope row) (product_value scope row), fold-roll-Term V (Sign × V) V V (factor_value scope row) (addend_value scope row) (sum_value scope row) (product_value scope row), fold-roll-Addend V (Sign × V) V V (factor_value scope row) (addend_value scope row) (sum_value scope row) (product_value scope row))

-- ---- predicates: the truth of a unit, of two units with AND, and of two conjunctions with OR between them

module _ (scope : Scope) (row : Row) where
  abbrev unit_is : Test → Truth
  unit_is = fold-Unit Truth Truth Truth (unit_truth scope row) (all_truth scope row) (any_truth scope row)

  pub truth_of_either : (a b c : Test) → truth_of scope row (either (one a) (both b c)) ≡ or_truth (unit_is a) (and_truth (unit_is b) (unit_is c))
  unfolding truth_of
  truth_of_either a b c = search (rules, fold-roll-Predicate Truth Truth Truth (unit_truth scope row) (all_truth scope row) (any_truth scope row), fold-roll-Conjunction Truth Truth Truth (unit_truth scope row) (all_truth scope row) (any_truth scope row))

  pub truth_of_whole : (a : Test) → truth_of scope row (whole (one a)) ≡ unit_is a
  unfolding truth_of
  truth_of_whole a = search (rules, fold-roll-Predicate Truth Truth Truth (unit_truth scope row) (all_truth scope row) (any_truth scope row), fold-roll-Conjunction Truth Truth Truth (unit_truth scope row) (all_truth scope row) (any_truth scope row))

  pub unit_compare : (a : Operand) (c : Comparison) (l : Literal) → unit_is (compare a c l) ≡ comparison_truth scope row a c (operand.Literal l)
  unit_compare a c l = fold-roll-Unit Truth Truth Truth (unit_truth scope row) (all_truth scope row) (any_truth scope row) _

  pub unit_in : (a : Operand) (negated : Bool) (ls : List Literal) → unit_is (is_in a negated ls) ≡ not_if negated (in_truth scope row a ls)
  unit_in a negated ls = fold-roll-Unit Truth Truth Truth (unit_truth scope row) (all_truth scope row) (any_truth scope row) _

  pub unit_null : (a : Operand) (negated : Bool) → unit_is (is_null a negated) ≡ not_if negated (truth_of_bool (null_test (operand_value scope row None a)))
  unit_null a negated = fold-roll-Unit Truth Truth Truth (unit_truth scope row) (all_truth scope row) (any_truth scope row) _

  pub unit_between : (a : Operand) (negated : Bool) (l g : Literal) → unit_is (is_between a negated l g) ≡ not_if negated (between_truth scope row a l g)
  unit_between a negated l g = fold-roll-Unit Truth Truth Truth (unit_truth scope row) (all_truth scope row) (any_truth scope row) _

  pub unit_not : (u : Test) → unit_is (negation u) ≡ not_truth (unit_is u)
  unit_not u = fold-roll-Unit Truth Truth Truth (unit_truth scope row) (all_truth scope row) (any_truth scope row) _
