use Rattle.std.proofs.Common.{ap, sym, ◌∙◌, refl, arith}
use Rattle.tt_value.specs.declared.expression.Addend.{Addend}
use Rattle.tt_value.specs.declared.expression.Expr.{out-Expr}
use Rattle.tt_plain.specs.Places.{each}
use Rattle.tt_plain.specs.Expressions.{calculated, part_of, part_of_term, part_of_factor}
use Rattle.tt_typer.specs.TableScopes.{scope_in}
use Rattle.tt_typer.specs.FoundParts.{as_found}
use Rattle.tt_typer.proofs.Leftmost.{each_start, each_more, each_end}
use Rattle.tt_typer.proofs.PartLaws.{calculated_as_found, expr_of_one, expr_of_many, term_of_one, term_of_many, several_found, false_true}
use Rattle.tt_typer.proofs.Folds.{part_literal, part_column, part_bracket, part_negated}
use Rattle.tt_typer.proofs.parts.+parts.Goals as goal

pub part_of-returns-then-is_empty : goal.part_of-returns-then-is_empty
part_of-returns-then-is_empty n c = c.part_of_term-first.ensures ∙ ap as_found (sym (expr_of_one (scope_in c.args.scope.now) c.args.expr.now (c.is_empty.ensures.0 c.if-is_empty.true)))

pub part_of-loop-addend-init : goal.part_of-loop-addend-init
part_of-loop-addend-init n c =
    rw (c.calculated-misfit.ensures, c.part_of_term-first.ensures, calculated_as_found (part_of_term (scope_in c.args.scope.now) (out-Expr c.args.expr.now).first), c.as_slice-addend-items.ensures)
    (each_start (λ (a : Addend). calculated (part_of_term (scope_in c.args.scope.now) a.term)) (calculated (part_of_term (scope_in c.args.scope.now) (out-Expr c.args.expr.now).first)) _ (out-Expr c.args.expr.now).others refl)

pub part_of-loop-addend-preserved : goal.part_of-loop-addend-preserved
part_of-loop-addend-preserved n c =
    let item = c.addend-item.result in
    rw (c.earlier-misfit.ensures, c.calculated.ensures, c.part_of_term.ensures, calculated_as_found (part_of_term (scope_in c.args.scope.now) item.term))
    (each_more (λ (a : Addend). calculated (part_of_term (scope_in c.args.scope.now) a.term)) c.loop-addend.misfit c.as_slice-addend-items.result.now c.loop-addend.addend-index c.addend-item.result _ (omega arith) c.addend-item.is c.loop-addend.invariant)

pub part_of-returns : goal.part_of-returns
part_of-returns n c =
    several_found (part_of (scope_in c.args.scope.now) c.args.expr.now) (part_of_term (scope_in c.args.scope.now) (out-Expr c.args.expr.now).first) (each (λ (a : Addend). calculated (part_of_term (scope_in c.args.scope.now) a.term)) (out-Expr c.args.expr.now).others) c.part_of_term-first.result c.loop-addend.misfit
    (expr_of_many (scope_in c.args.scope.now) c.args.expr.now (λ none. false_true (sym c.if-is_empty.false ∙ c.is_empty.ensures.1 none)))
    c.part_of_term-first.ensures
    (each_end (λ (a : Addend). calculated (part_of_term (scope_in c.args.scope.now) a.term)) c.loop-addend.misfit c.as_slice-addend-items.result.now c.loop-addend.addend-index _ (omega arith) c.loop-addend.invariant)

pub part_of_term-returns-then-is_empty : goal.part_of_term-returns-then-is_empty
part_of_term-returns-then-is_empty n c = c.part_of_factor-first.ensures ∙ ap as_found (sym (term_of_one (scope_in c.args.scope.now) c.args.term.now (c.is_empty.ensures.0 c.if-is_empty.true)))

pub part_of_term-loop-factor-init : goal.part_of_term-loop-factor-init
part_of_term-loop-factor-init n c =
    rw (c.calculated-misfit.ensures, c.part_of_factor-first.ensures, calculated_as_found (part_of_factor (scope_in c.args.scope.now) c.args.term.now.first), c.as_slice-factor-items.ensures)
    (each_start (λ f. calculated (part_of_factor (scope_in c.args.scope.now) f)) (calculated (part_of_factor (scope_in c.args.scope.now) c.args.term.now.first)) _ c.args.term.now.others refl)

pub part_of_term-loop-factor-preserved : goal.part_of_term-loop-factor-preserved
part_of_term-loop-factor-preserved n c =
    let item = c.factor-item.result in
    rw (c.earlier-misfit.ensures, c.calculated.ensures, c.part_of_factor.ensures, calculated_as_found (part_of_factor (scope_in c.args.scope.now) item))
    (each_more (λ f. calculated (part_of_factor (scope_in c.args.scope.now) f)) c.loop-factor.misfit c.as_slice-factor-items.result.now c.loop-factor.factor-index c.factor-item.result _ (omega arith) c.factor-item.is c.loop-factor.invariant)

pub part_of_term-returns : goal.part_of_term-returns
part_of_term-returns n c =
    several_found (part_of_term (scope_in c.args.scope.now) c.args.term.now) (part_of_factor (scope_in c.args.scope.now) c.args.term.now.first) (each (λ f. calculated (part_of_factor (scope_in c.args.scope.now) f)) c.args.term.now.others) c.part_of_factor-first.result c.loop-factor.misfit
    (term_of_many (scope_in c.args.scope.now) c.args.term.now (λ none. false_true (sym c.if-is_empty.false ∙ c.is_empty.ensures.1 none)))
    c.part_of_factor-first.ensures
    (each_end (λ f. calculated (part_of_factor (scope_in c.args.scope.now) f)) c.loop-factor.misfit c.as_slice-factor-items.result.now c.loop-factor.factor-index _ (omega arith) c.loop-factor.invariant)

pub part_of_factor-returns-in-Literal : goal.part_of_factor-returns-in-Literal
part_of_factor-returns-in-Literal n c = rw (c.in-Literal.is, c.kind_of.ensures, part_literal (scope_in c.args.scope.now) c.in-Literal.literal) refl

pub part_of_factor-returns-in-Column : goal.part_of_factor-returns-in-Column
part_of_factor-returns-in-Column n c = rw (c.in-Column.is, c.column_begin.ensures, c.column_kind.ensures, part_column (scope_in c.args.scope.now) c.in-Column.column) refl

pub part_of_factor-returns-in-Bracket : goal.part_of_factor-returns-in-Bracket
part_of_factor-returns-in-Bracket n c = rw (c.in-Bracket.is, c.part_of-inside.ensures, c.get.ensures, part_bracket (scope_in c.args.scope.now) c.in-Bracket.place c.in-Bracket.expr) refl

pub part_of_factor-returns-in-Negated : goal.part_of_factor-returns-in-Negated
part_of_factor-returns-in-Negated n c = rw (c.in-Negated.is, c.calculated.ensures, c.part_of_factor.ensures, c.get-in-Negated.ensures, calculated_as_found (part_of_factor (scope_in c.args.scope.now) c.in-Negated.factor), part_negated (scope_in c.args.scope.now) c.in-Negated.place c.in-Negated.factor) refl
