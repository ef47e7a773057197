use Rattle.std.proofs.Common.{◌∷◌}
use Rattle.std.specs.Prelude.{codes}
use Rattle.tt_print.specs.text.Expressions.{addend_words, factor_words}
use Rattle.tt_print.proofs.text.Spacing.{listed_written}
use Rattle.tt_print.proofs.text.Expressions.{expr_words-out, term_words-out}
use Rattle.tt_print.proofs.expressions.+expressions.Goals as goal

pub write_expr-returns : goal.write_expr-returns
write_expr-returns t c = record { ok = listed_written addend_words _ _ _ _ _ _ _ _ (expr_words-out c.args.expr.now) c.in_ok-write_term.ensures.ok c.as_slice-addend-items.ensures c.loop-addend-test.false c.loop-addend.invariant }

pub write_term-returns : goal.write_term-returns
write_term-returns t c = record { ok = listed_written (λ factor. codes "*" ∷ factor_words factor) _ _ _ _ _ _ _ _ (term_words-out c.args.term.now) c.in_ok-write_factor.ensures.ok c.as_slice-factor-items.ensures c.loop-factor-test.false c.loop-factor.invariant }
