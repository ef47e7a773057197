use Rattle.std.proofs.Common.{◌≤◌, arith, length, subst, sym, take}
use Rattle.tt_value.specs.declared.predicate.Predicate.{out-Predicate}
use Rattle.tt_value.specs.trees.Scope.{table_scope}
use Rattle.tt_filter.specs.Parts as parts
use Rattle.tt_filter.specs.RowTruths.{OnRows}
use Rattle.tt_filter.proofs.Lists.{if_ok}
use Rattle.tt_filter.proofs.Walking.{any_so_far, all_so_far, any_next, all_next, any_whole, all_whole, not_unit, bracket_unit, compare_unit, null_unit, in_list_unit, between_unit, begins_unit}
use Rattle.tt_filter.proofs.selecting.+truths.Goals as goal

pub in_predicate-loop-conjunction-preserved : goal.in_predicate-loop-conjunction-preserved
in_predicate-loop-conjunction-preserved t c = (
  any_next (table_scope c.args.schema.now) c.args.partition.now.rows c.or.new.self (out-Predicate c.args.predicate.now).first c.as_slice-conjunction-items.result.now c.loop-conjunction.conjunction-index c.conjunction-item.result (omega arith) c.conjunction-item.is
      (c.or.ensures (any_so_far (table_scope c.args.schema.now) (out-Predicate c.args.predicate.now).first (take c.loop-conjunction.conjunction-index c.as_slice-conjunction-items.result.now)) (parts.in_conjunction (table_scope c.args.schema.now) c.conjunction-item.result) c.args.partition.now.rows c.loop-conjunction.invariant.0 c.in_ok-other.ensures.truths),
  c.in_ok-other.ensures.columns,
)

pub in_predicate-returns-clause-truths : goal.in_predicate-returns-clause-truths
in_predicate-returns-clause-truths t c =
    any_whole (table_scope c.args.schema.now) c.args.partition.now.rows c.loop-conjunction.found c.args.predicate.now c.loop-conjunction.conjunction-index (subst (λ cs. length cs ≤ c.loop-conjunction.conjunction-index) c.as_slice-conjunction-items.ensures c.loop-conjunction-test.false)
    (subst (λ cs. OnRows (any_so_far (table_scope c.args.schema.now) (out-Predicate c.args.predicate.now).first (take c.loop-conjunction.conjunction-index cs)) c.args.partition.now.rows c.loop-conjunction.found) c.as_slice-conjunction-items.ensures c.loop-conjunction.invariant.0)

pub in_conjunction-loop-unit-preserved : goal.in_conjunction-loop-unit-preserved
in_conjunction-loop-unit-preserved t c = (
  all_next (table_scope c.args.schema.now) c.args.partition.now.rows c.and.new.self c.args.conjunction.now.first c.as_slice-unit-items.result.now c.loop-unit.unit-index c.unit-item.result (omega arith) c.unit-item.is
      (c.and.ensures (all_so_far (table_scope c.args.schema.now) c.args.conjunction.now.first (take c.loop-unit.unit-index c.as_slice-unit-items.result.now)) (parts.in_unit (table_scope c.args.schema.now) c.unit-item.result) c.args.partition.now.rows c.loop-unit.invariant.0 c.in_ok-other.ensures.truths),
  c.in_ok-other.ensures.columns,
)

pub in_conjunction-returns-clause-truths : goal.in_conjunction-returns-clause-truths
in_conjunction-returns-clause-truths t c =
    all_whole (table_scope c.args.schema.now) c.args.partition.now.rows c.loop-unit.found c.args.conjunction.now c.loop-unit.unit-index (subst (λ us. length us ≤ c.loop-unit.unit-index) c.as_slice-unit-items.ensures c.loop-unit-test.false)
    (subst (λ us. OnRows (all_so_far (table_scope c.args.schema.now) c.args.conjunction.now.first (take c.loop-unit.unit-index us)) c.args.partition.now.rows c.loop-unit.found) c.as_slice-unit-items.ensures c.loop-unit.invariant.0)

pub in_unit-returns-in_ok-in_unit-in-Not-clause-truths : goal.in_unit-returns-in_ok-in_unit-in-Not-clause-truths
in_unit-returns-in_ok-in_unit-in-Not-clause-truths t c =
    subst (λ u. OnRows (parts.in_unit (table_scope c.args.schema.now) u) c.args.partition.now.rows c.negated.result) (sym c.in-Not.is)
    (not_unit (table_scope c.args.schema.now) c.args.partition.now.rows c.negated.result c.in-Not.unit (c.negated.ensures (parts.in_unit (table_scope c.args.schema.now) c.in-Not.unit) c.args.partition.now.rows (subst (λ u. OnRows (parts.in_unit (table_scope c.args.schema.now) u) c.args.partition.now.rows c.in_ok-in_unit-in-Not.field-0) c.get.ensures c.in_ok-in_unit-in-Not.ensures.truths)))

pub in_unit-returns-in-Bracket-clause-truths : goal.in_unit-returns-in-Bracket-clause-truths
in_unit-returns-in-Bracket-clause-truths t c =
    if_ok (OnRows (parts.in_predicate (table_scope c.args.schema.now) c.get-in-Bracket.result.now) c.args.partition.now.rows) (OnRows (parts.in_unit (table_scope c.args.schema.now) c.args.unit.now) c.args.partition.now.rows) c.in_predicate.result
    (λ found has. subst (λ u. OnRows (parts.in_unit (table_scope c.args.schema.now) u) c.args.partition.now.rows found) (sym c.in-Bracket.is) (bracket_unit (table_scope c.args.schema.now) c.args.partition.now.rows found c.in-Bracket.predicate (subst (λ p. OnRows (parts.in_predicate (table_scope c.args.schema.now) p) c.args.partition.now.rows found) c.get-in-Bracket.ensures has)))
    c.in_predicate.ensures.truths

pub in_unit-returns-in-Compare-clause-truths : goal.in_unit-returns-in-Compare-clause-truths
in_unit-returns-in-Compare-clause-truths t c =
    if_ok (OnRows (parts.comparing (table_scope c.args.schema.now) c.in-Compare.left c.in-Compare.sign c.in-Compare.right) c.args.partition.now.rows) (OnRows (parts.in_unit (table_scope c.args.schema.now) c.args.unit.now) c.args.partition.now.rows) c.in_comparison.result
    (λ found has. subst (λ u. OnRows (parts.in_unit (table_scope c.args.schema.now) u) c.args.partition.now.rows found) (sym c.in-Compare.is) (compare_unit (table_scope c.args.schema.now) c.args.partition.now.rows found c.in-Compare.left c.in-Compare.sign c.in-Compare.right has))
    c.in_comparison.ensures.truths

pub in_unit-returns-in_ok-in_null-in-IsNull-clause-truths : goal.in_unit-returns-in_ok-in_null-in-IsNull-clause-truths
in_unit-returns-in_ok-in_null-in-IsNull-clause-truths t c =
    subst (λ u. OnRows (parts.in_unit (table_scope c.args.schema.now) u) c.args.partition.now.rows c.negated_if.result) (sym c.in-IsNull.is)
    (null_unit (table_scope c.args.schema.now) c.args.partition.now.rows c.negated_if.result c.in-IsNull.operand c.in-IsNull.negated (c.negated_if.ensures (parts.being_null (table_scope c.args.schema.now) c.in-IsNull.operand) c.args.partition.now.rows c.in_ok-in_null-in-IsNull.ensures.truths))

pub in_unit-returns-in_ok-found-in-In-clause-truths : goal.in_unit-returns-in_ok-found-in-In-clause-truths
in_unit-returns-in_ok-found-in-In-clause-truths t c =
    subst (λ u. OnRows (parts.in_unit (table_scope c.args.schema.now) u) c.args.partition.now.rows c.negated_if-in-In.result) (sym c.in-In.is)
    (in_list_unit (table_scope c.args.schema.now) c.args.partition.now.rows c.negated_if-in-In.result c.in-In.operand c.in-In.negated c.in-In.literals (c.negated_if-in-In.ensures (parts.listing (table_scope c.args.schema.now) c.in-In.operand c.in-In.literals) c.args.partition.now.rows (subst (λ ls. OnRows (parts.listing (table_scope c.args.schema.now) c.in-In.operand ls) c.args.partition.now.rows c.in_ok-found-in-In.found) c.as_slice.ensures c.in_ok-found-in-In.ensures.truths)))

pub in_unit-returns-in_ok-found-in-Between-clause-truths : goal.in_unit-returns-in_ok-found-in-Between-clause-truths
in_unit-returns-in_ok-found-in-Between-clause-truths t c =
    subst (λ u. OnRows (parts.in_unit (table_scope c.args.schema.now) u) c.args.partition.now.rows c.negated_if-in-Between.result) (sym c.in-Between.is)
    (between_unit (table_scope c.args.schema.now) c.args.partition.now.rows c.negated_if-in-Between.result c.in-Between.operand c.in-Between.negated c.in-Between.least c.in-Between.greatest (c.negated_if-in-Between.ensures (parts.bounding (table_scope c.args.schema.now) c.in-Between.operand c.in-Between.least c.in-Between.greatest) c.args.partition.now.rows c.in_ok-found-in-Between.ensures.truths))

pub in_unit-returns-in-StartsWith-clause-truths : goal.in_unit-returns-in-StartsWith-clause-truths
in_unit-returns-in-StartsWith-clause-truths t c =
    if_ok (OnRows (parts.beginning (table_scope c.args.schema.now) c.in-StartsWith.column c.in-StartsWith.front.text) c.args.partition.now.rows) (OnRows (parts.in_unit (table_scope c.args.schema.now) c.args.unit.now) c.args.partition.now.rows) c.in_front.result
    (λ found has. subst (λ u. OnRows (parts.in_unit (table_scope c.args.schema.now) u) c.args.partition.now.rows found) (sym c.in-StartsWith.is) (begins_unit (table_scope c.args.schema.now) c.args.partition.now.rows found c.in-StartsWith.column c.in-StartsWith.front has))
    c.in_front.ensures.truths
