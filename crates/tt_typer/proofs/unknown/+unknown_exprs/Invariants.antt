use Rattle.std.proofs.Common.{◌≡◌, drop}
use Rattle.tt_plain.specs.Places.{earlier, leftmost, each}
use Rattle.tt_plain.specs.UnknownColumns.{unknown_in_expr, unknown_in_term, unknown_in_factor}
use Rattle.tt_typer.specs.TableScopes.{scope_in}
use Rattle.tt_typer.proofs.unknown.+unknown_exprs.Given as goal

abbrev pub invariant-unknown_in_expr-loop-addend : goal.invariant-unknown_in_expr-loop-addend
invariant-unknown_in_expr-loop-addend l = earlier l.found (leftmost (each (λ a. unknown_in_term (scope_in l.scope) a.term) (drop l.addend-index l.addend-items))) ≡ leftmost (unknown_in_expr (scope_in l.scope) l.expr)

abbrev pub invariant-unknown_in_term-loop-factor : goal.invariant-unknown_in_term-loop-factor
invariant-unknown_in_term-loop-factor l = earlier l.found (leftmost (each (unknown_in_factor (scope_in l.scope)) (drop l.factor-index l.factor-items))) ≡ leftmost (unknown_in_term (scope_in l.scope) l.term)
