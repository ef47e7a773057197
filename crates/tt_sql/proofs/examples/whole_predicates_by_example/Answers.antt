use Rattle.std.proofs.Common.{pos, true, false, [], ◌∷◌, refl, ◌∙◌, ap}
use Rattle.tt_value.specs.declared.value.Row.{Row}
use Rattle.tt_value.specs.declared.value.Value.TheVariants.{Null, Int}
use Rattle.tt_value.specs.declared.predicate.Comparison.TheVariants.{Equal}
use Rattle.tt_value.specs.declared.predicate.Operand.TheVariants as operand
use Rattle.tt_value.specs.values.Order.{value_cmp}
use Rattle.tt_value.specs.trees.Truths.{not_truth}
use Rattle.tt_sql.specs.meaning.Examples.{scope, row_of, x, s, int, literal, compare, is_null, is_in, is_between, negation}
use Rattle.tt_sql.proofs.meaning.Examples.{truth_of_either, truth_of_whole, unit_compare, unit_in, unit_null, unit_between, unit_not}
use Rattle.tt_sql.proofs.examples.whole_predicates_by_example.Goals as goal

abbrev one : Row
one = row_of (Int (pos 1)) Null Null

abbrev two : Row
two = row_of (Int (pos 2)) Null Null

pub returns-clause-and_before_or : goal.returns-clause-and_before_or
unfolding value_cmp
returns-clause-and_before_or c =
    truth_of_either scope two (compare (operand.Column x) Equal (int 1)) (compare (operand.Column x) Equal (int 2)) (is_null (operand.Column s) true)
    ∙ rw (unit_compare scope two (operand.Column x) Equal (int 1), unit_compare scope two (operand.Column x) Equal (int 2), unit_null scope two (operand.Column s) true) refl

pub returns-clause-first_of_or : goal.returns-clause-first_of_or
unfolding value_cmp
returns-clause-first_of_or c =
    truth_of_either scope one (compare (operand.Column x) Equal (int 1)) (compare (operand.Column x) Equal (int 2)) (is_null (operand.Column s) true)
    ∙ rw (unit_compare scope one (operand.Column x) Equal (int 1)) refl

pub returns-clause-not_in_with_null : goal.returns-clause-not_in_with_null
unfolding value_cmp
returns-clause-not_in_with_null c =
    truth_of_whole scope one (negation (is_in (operand.Column x) false (int 2 ∷ literal Null ∷ [])))
    ∙ unit_not scope one (is_in (operand.Column x) false (int 2 ∷ literal Null ∷ []))
    ∙ ap not_truth (unit_in scope one (operand.Column x) false (int 2 ∷ literal Null ∷ []))

pub returns-clause-in_and_negated : goal.returns-clause-in_and_negated
unfolding value_cmp
returns-clause-in_and_negated c =
    truth_of_whole scope one (is_in (operand.Column x) true (int 1 ∷ literal Null ∷ []))
    ∙ unit_in scope one (operand.Column x) true (int 1 ∷ literal Null ∷ [])

pub returns-clause-not_between : goal.returns-clause-not_between
unfolding value_cmp
returns-clause-not_between c =
    truth_of_whole scope one (is_between (operand.Column x) true (literal Null) (int 0))
    ∙ unit_between scope one (operand.Column x) true (literal Null) (int 0)
