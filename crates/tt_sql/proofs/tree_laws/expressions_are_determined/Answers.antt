-- An expression is read back from its marks.
use Rattle.tt_sql.proofs.machine.ExpressionTrees.{one_expr, one_term, one_factor}
use Rattle.tt_sql.proofs.tree_laws.expressions_are_determined.Goals as goal

pub returns : goal.returns
returns c = record { expression = one_expr; term = one_term; factor = one_factor }
