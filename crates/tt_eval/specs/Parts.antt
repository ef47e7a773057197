-- The values of the parts of an expression.
use Rattle.std.specs.Prelude.{Option}
use Rattle.tt_value.specs.declared.value.Value.{Value}
use Rattle.tt_value.specs.declared.value.Row.{Row}
use Rattle.tt_value.specs.declared.expression.Sign.{Sign}
use Rattle.tt_value.specs.declared.expression.Term.{Term}
use Rattle.tt_value.specs.declared.expression.Factor.{Factor}
use Rattle.tt_value.specs.declared.expression.Factor.TheFolds.{fold-Term, fold-Factor}
use Rattle.tt_value.specs.trees.Scope.{Scope}
use Rattle.tt_value.specs.trees.Expressions.{factor_value, addend_value, sum_value, product_value}

unfoldable pub term_value_of : Scope → Row → Term → Option Value
term_value_of scope row = fold-Term (Option Value) (Sign × Option Value) (Option Value) (Option Value) (factor_value scope row) (addend_value scope row) (sum_value scope row) (product_value scope row)

unfoldable pub factor_value_of : Scope → Row → Factor → Option Value
factor_value_of scope row = fold-Factor (Option Value) (Sign × Option Value) (Option Value) (Option Value) (factor_value scope row) (addend_value scope row) (sum_value scope row) (product_value scope row)
