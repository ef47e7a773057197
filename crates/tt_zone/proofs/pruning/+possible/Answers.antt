use Rattle.std.proofs.Common.{ap, sym, ◌∙◌}
use Rattle.tt_value.specs.trees.Scope.{table_scope}
use Rattle.tt_zone.specs.Possible.{zone_span, begins_in}
use Rattle.tt_zone.proofs.Walking.{possible_out, conjunction_out, possible_Not, possible_Bracket, possible_Compare, possible_IsNull, possible_In, possible_Between, possible_StartsWith}
use Rattle.tt_zone.proofs.pruning.+possible.Goals as goal

pub in_conjunction-loop-unit-init : goal.in_conjunction-loop-unit-init
in_conjunction-loop-unit-init t c = rw (c.in_unit-found.ensures, c.as_slice-unit-items.ensures) (sym (conjunction_out (table_scope c.args.schema.now) c.args.zones.now c.args.conjunction.now))

pub in_predicate-loop-conjunction-init : goal.in_predicate-loop-conjunction-init
in_predicate-loop-conjunction-init t c = rw (c.in_conjunction-found.ensures, c.as_slice-conjunction-items.ensures) (sym (possible_out (table_scope c.args.schema.now) c.args.zones.now c.args.predicate.now))

pub in_unit-returns-in-Not : goal.in_unit-returns-in-Not
in_unit-returns-in-Not t c = rw (c.in-Not.is, c.negated.ensures, c.in_unit.ensures, c.get.ensures) (sym (possible_Not (table_scope c.args.schema.now) c.args.zones.now c.in-Not.unit))

pub in_unit-returns-in-Bracket : goal.in_unit-returns-in-Bracket
in_unit-returns-in-Bracket t c = rw (c.in-Bracket.is, c.in_predicate.ensures, c.get-in-Bracket.ensures) (sym (possible_Bracket (table_scope c.args.schema.now) c.args.zones.now c.in-Bracket.predicate))

pub in_unit-returns-in-Compare : goal.in_unit-returns-in-Compare
in_unit-returns-in-Compare t c = rw c.in-Compare.is (c.in_comparison.ensures ∙ sym (possible_Compare (table_scope c.args.schema.now) c.args.zones.now c.in-Compare.left c.in-Compare.sign c.in-Compare.right))

pub in_unit-returns-in-IsNull : goal.in_unit-returns-in-IsNull
in_unit-returns-in-IsNull t c = rw (c.in-IsNull.is, c.negated_if.ensures, c.in_null.ensures) (sym (possible_IsNull (table_scope c.args.schema.now) c.args.zones.now c.in-IsNull.operand c.in-IsNull.negated))

pub in_unit-returns-in-In : goal.in_unit-returns-in-In
in_unit-returns-in-In t c = rw (c.in-In.is, c.negated_if-in-In.ensures, c.in_list.ensures, c.as_slice.ensures) (sym (possible_In (table_scope c.args.schema.now) c.args.zones.now c.in-In.operand c.in-In.negated c.in-In.literals))

pub in_unit-returns-in-Between : goal.in_unit-returns-in-Between
in_unit-returns-in-Between t c = rw (c.in-Between.is, c.negated_if-in-Between.ensures, c.in_bounds.ensures) (sym (possible_Between (table_scope c.args.schema.now) c.args.zones.now c.in-Between.operand c.in-Between.negated c.in-Between.least c.in-Between.greatest))

pub in_unit-returns-in-StartsWith : goal.in_unit-returns-in-StartsWith
in_unit-returns-in-StartsWith t c =
    rw c.in-StartsWith.is (
    c.begins.ensures
    ∙ ap (begins_in c.in-StartsWith.front.text) (c.span_of_column.ensures ∙ ap zone_span c.zone_of.ensures)
    ∙ sym (possible_StartsWith (table_scope c.args.schema.now) c.args.zones.now c.in-StartsWith.column c.in-StartsWith.front)
    )
