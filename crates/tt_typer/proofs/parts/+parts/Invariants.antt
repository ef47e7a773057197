use Rattle.std.proofs.Common.{◌≡◌, ◌++◌, drop}
use Rattle.tt_value.specs.declared.expression.Addend.{Addend}
use Rattle.tt_value.specs.declared.expression.Expr.{out-Expr}
use Rattle.tt_plain.specs.Places.{earlier, leftmost, each}
use Rattle.tt_plain.specs.Expressions.{calculated, part_of_term, part_of_factor}
use Rattle.tt_typer.specs.TableScopes.{scope_in}
use Rattle.tt_typer.proofs.parts.+parts.Given as goal

abbrev pub invariant-part_of-loop-addend : goal.invariant-part_of-loop-addend
invariant-part_of-loop-addend l = earlier l.misfit (leftmost (each (λ (a : Addend). calculated (part_of_term (scope_in l.scope) a.term)) (drop l.addend-index l.addend-items))) ≡ leftmost (calculated (part_of_term (scope_in l.scope) (out-Expr l.expr).first) ++ each (λ (a : Addend). calculated (part_of_term (scope_in l.scope) a.term)) (out-Expr l.expr).others)

abbrev pub invariant-part_of_term-loop-factor : goal.invariant-part_of_term-loop-factor
invariant-part_of_term-loop-factor l = earlier l.misfit (leftmost (each (λ f. calculated (part_of_factor (scope_in l.scope) f)) (drop l.factor-index l.factor-items))) ≡ leftmost (calculated (part_of_factor (scope_in l.scope) l.term.first) ++ each (λ f. calculated (part_of_factor (scope_in l.scope) f)) l.term.others)
