use Rattle.std.proofs.Common.{◌≡◌, drop}
use Rattle.std.specs.Prelude.{fold}
use Rattle.tt_value.specs.trees.Expressions.{value_of}
use Rattle.tt_scope.specs.Places.{scope_in}
use Rattle.tt_eval.specs.Parts.{term_value_of}
use Rattle.tt_eval.proofs.Values.{with_addend, with_factor}
use Rattle.tt_eval.proofs.expression.+values.Given as goal

-- what is left, added to the sum so far, is the whole
abbrev pub invariant-evaluate-loop-addend : goal.invariant-evaluate-loop-addend
invariant-evaluate-loop-addend l = fold (with_addend (scope_in l.tables) l.row) l.sum (drop l.addend-index l.addend-items) ≡ value_of (scope_in l.tables) l.row l.expr

abbrev pub invariant-term_value-loop-factor : goal.invariant-term_value-loop-factor
invariant-term_value-loop-factor l = fold (with_factor (scope_in l.tables) l.row) l.so_far (drop l.factor-index l.factor-items) ≡ term_value_of (scope_in l.tables) l.row l.term
