use Rattle.std.proofs.Common.{◌≡◌, Some, None, subst}
use Rattle.std.specs.Prelude.{IfOk}
use Rattle.tt_value.specs.declared.value.Value.{Value}
use Rattle.tt_sql.specs.meaning.Changes.{for_column}
use Rattle.tt_change.proofs.TupleCells.{cell_at}
use Rattle.tt_change.proofs.tuples.value_at.Goals as goal

pub returns-in-Some : goal.returns-in-Some
returns-in-Some c =
    subst (λ (v : Value). IfOk c.fitted.result (λ value. value ≡ for_column c.args.column.now v)) (cell_at c.args.literals.now c.args.place (Some c.in-Some.literal.now) c.in-Some.ensures) c.fitted.ensures

pub returns-in-None : goal.returns-in-None
returns-in-None c =
    subst (λ (v : Value). IfOk c.fitted-in-None.result (λ value. value ≡ for_column c.args.column.now v)) (cell_at c.args.literals.now c.args.place None c.in-None.ensures) c.fitted-in-None.ensures
