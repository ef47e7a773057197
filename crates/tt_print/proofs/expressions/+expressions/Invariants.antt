use Rattle.std.proofs.Common.{◌≡◌, ◌++◌, ◌∷◌, [], take}
use Rattle.std.specs.List.{flat_map}
use Rattle.tt_print.specs.text.Words.{spaced}
use Rattle.tt_print.specs.text.Expressions.{addend_words, factor_words}
use Rattle.tt_print.proofs.expressions.+expressions.Given as goal

abbrev pub invariant-write_expr-loop-addend : goal.invariant-write_expr-loop-addend
invariant-write_expr-loop-addend l = l.out.items ≡ l.initial.out.items ++ flat_map (λ addend. spaced (addend_words addend)) (take l.addend-index l.addend-items)

abbrev pub invariant-write_term-loop-factor : goal.invariant-write_term-loop-factor
invariant-write_term-loop-factor l = l.out.items ≡ l.initial.out.items ++ flat_map (λ factor. spaced ((42 ∷ []) ∷ factor_words factor)) (take l.factor-index l.factor-items)
