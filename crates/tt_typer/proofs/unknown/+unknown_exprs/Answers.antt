use Rattle.std.proofs.Common.{ap, sym, ◌∙◌, arith}
use Rattle.tt_value.specs.declared.expression.Addend.{Addend}
use Rattle.tt_value.specs.declared.expression.Expr.{out-Expr}
use Rattle.tt_plain.specs.Places.{leftmost}
use Rattle.tt_plain.specs.UnknownColumns.{unknown_in_term, unknown_in_factor}
use Rattle.tt_typer.specs.TableScopes.{scope_in}
use Rattle.tt_typer.proofs.Leftmost.{each_start, each_more}
use Rattle.tt_typer.proofs.Folds.{unknown_in_expr_out, unknown_in_term_out, unknown_literal, unknown_column, unknown_bracket, unknown_negated}
use Rattle.tt_typer.proofs.unknown.+unknown_exprs.Goals as goal

pub unknown_in_expr-loop-addend-init : goal.unknown_in_expr-loop-addend-init
unknown_in_expr-loop-addend-init n c =
    rw (c.unknown_in_term-found.ensures, c.as_slice-addend-items.ensures)
    (each_start (λ (a : Addend). unknown_in_term (scope_in c.args.scope.now) a.term) _ _ (out-Expr c.args.expr.now).others (unknown_in_expr_out (scope_in c.args.scope.now) c.args.expr.now))

pub unknown_in_expr-loop-addend-preserved : goal.unknown_in_expr-loop-addend-preserved
unknown_in_expr-loop-addend-preserved n c =
    rw (c.earlier-found.ensures, c.unknown_in_term.ensures)
    (each_more (λ (a : Addend). unknown_in_term (scope_in c.args.scope.now) a.term) c.loop-addend.found c.as_slice-addend-items.result.now c.loop-addend.addend-index c.addend-item.result _ (omega arith) c.addend-item.is c.loop-addend.invariant)

pub unknown_in_factor-returns-in-Literal : goal.unknown_in_factor-returns-in-Literal
unknown_in_factor-returns-in-Literal n c = rw c.in-Literal.is (ap leftmost (sym (unknown_literal (scope_in c.args.scope.now) c.in-Literal.field-0)))

pub unknown_in_factor-returns-in-Column : goal.unknown_in_factor-returns-in-Column
unknown_in_factor-returns-in-Column n c = rw c.in-Column.is (c.unknown_name.ensures ∙ ap leftmost (sym (unknown_column (scope_in c.args.scope.now) c.in-Column.column)))

pub unknown_in_factor-returns-in-Bracket : goal.unknown_in_factor-returns-in-Bracket
unknown_in_factor-returns-in-Bracket n c = rw (c.in-Bracket.is, c.unknown_in_expr.ensures, c.get.ensures) (ap leftmost (sym (unknown_bracket (scope_in c.args.scope.now) c.in-Bracket.field-0 c.in-Bracket.expr)))

pub unknown_in_factor-returns-in-Negated : goal.unknown_in_factor-returns-in-Negated
unknown_in_factor-returns-in-Negated n c = rw (c.in-Negated.is, c.unknown_in_factor.ensures, c.get-in-Negated.ensures) (ap leftmost (sym (unknown_negated (scope_in c.args.scope.now) c.in-Negated.field-0 c.in-Negated.factor)))

pub unknown_in_term-loop-factor-init : goal.unknown_in_term-loop-factor-init
unknown_in_term-loop-factor-init n c =
    rw (c.unknown_in_factor-found.ensures, c.as_slice-factor-items.ensures)
    (each_start (unknown_in_factor (scope_in c.args.scope.now)) _ _ c.args.term.now.others (unknown_in_term_out (scope_in c.args.scope.now) c.args.term.now))

pub unknown_in_term-loop-factor-preserved : goal.unknown_in_term-loop-factor-preserved
unknown_in_term-loop-factor-preserved n c =
    rw (c.earlier-found.ensures, c.unknown_in_factor.ensures)
    (each_more (unknown_in_factor (scope_in c.args.scope.now)) c.loop-factor.found c.as_slice-factor-items.result.now c.loop-factor.factor-index c.factor-item.result _ (omega arith) c.factor-item.is c.loop-factor.invariant)
