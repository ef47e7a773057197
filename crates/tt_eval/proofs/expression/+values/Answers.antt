use Rattle.std.proofs.Common.{ap, sym, ◌∙◌}
use Rattle.std.specs.Prelude.{option_and_then}
use Rattle.tt_value.specs.trees.Expressions.{negated}
use Rattle.tt_scope.specs.Places.{scope_in}
use Rattle.tt_eval.specs.Parts.{factor_value_of}
use Rattle.tt_eval.proofs.Values.{expr_value, term_value, literal_value, name_value, bracket_value, negated_value}
use Rattle.tt_eval.proofs.expression.+values.Goals as goal

pub evaluate-loop-addend-init : goal.evaluate-loop-addend-init
evaluate-loop-addend-init t c =
    rw (c.in_ok-sum.ensures, c.as_slice-addend-items.ensures) (sym (expr_value (scope_in c.args.tables.now) c.args.row.now c.args.expr.now))

pub term_value-loop-factor-init : goal.term_value-loop-factor-init
term_value-loop-factor-init t c =
    rw (c.in_ok-so_far.ensures, c.as_slice-factor-items.ensures) (sym (term_value (scope_in c.args.tables.now) c.args.row.now c.args.term.now))

pub factor_value-returns-in_ok-copy_of-in-Literal : goal.factor_value-returns-in_ok-copy_of-in-Literal
factor_value-returns-in_ok-copy_of-in-Literal t c = rw (c.in-Literal.is, c.in_ok-copy_of-in-Literal.ensures) (sym (literal_value (scope_in c.args.tables.now) c.args.row.now c.in-Literal.literal))

pub factor_value-returns-in_ok-column_value-in-Column : goal.factor_value-returns-in_ok-column_value-in-Column
factor_value-returns-in_ok-column_value-in-Column t c = rw (c.in-Column.is, c.in_ok-column_value-in-Column.ensures) (sym (name_value (scope_in c.args.tables.now) c.args.row.now c.in-Column.column))

pub factor_value-returns-in-Bracket : goal.factor_value-returns-in-Bracket
factor_value-returns-in-Bracket t c = rw (c.in-Bracket.is, bracket_value (scope_in c.args.tables.now) c.args.row.now c.in-Bracket.field-0 c.in-Bracket.expr, ← c.get.ensures) c.evaluate.ensures

pub factor_value-returns-in_ok-factor_value-in-Negated : goal.factor_value-returns-in_ok-factor_value-in-Negated
factor_value-returns-in_ok-factor_value-in-Negated t c =
    let scope = scope_in c.args.tables.now in
    c.negated.ensures
    ∙ (ap (option_and_then negated) (c.in_ok-factor_value-in-Negated.ensures ∙ ap (factor_value_of scope c.args.row.now) c.get-in-Negated.ensures)
    ∙ sym (ap (factor_value_of scope c.args.row.now) c.in-Negated.is ∙ negated_value scope c.args.row.now c.in-Negated.field-0 c.in-Negated.factor))
