use Rattle.std.proofs.Common.{◌≡◌, Some, None, subst}
use Rattle.std.specs.Prelude.{IfOk}
use Rattle.tt_value.specs.declared.value.Value.{Value}
use Rattle.tt_sql.specs.meaning.Changes.{for_column}
use Rattle.tt_change.proofs.TupleCells.{named_cell}
use Rattle.tt_change.proofs.tuples.named_value.Goals as goal

pub returns-in-Some : goal.returns-in-Some
returns-in-Some c =
    subst (λ (v : Value). IfOk c.value_at.result (λ value. value ≡ for_column c.args.column.now v)) (named_cell c.args.names.now c.args.literals.now c.args.column.now (Some c.in-Some.place) c.in-Some.ensures) c.value_at.ensures

pub returns-in-None : goal.returns-in-None
returns-in-None c =
    subst (λ (v : Value). IfOk c.fitted.result (λ value. value ≡ for_column c.args.column.now v)) (named_cell c.args.names.now c.args.literals.now c.args.column.now None c.in-None.ensures) c.fitted.ensures
