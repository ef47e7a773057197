use Rattle.std.proofs.Common.{◌∙◌, List, ap}
use Rattle.tt_value.specs.declared.value.Column.{Column}
use Rattle.tt_value.specs.declared.value.Row.{Row}
use Rattle.tt_value.specs.declared.value.Value.{Value}
use Rattle.tt_change.specs.Cells.{tuple_cells}
use Rattle.tt_change.proofs.TupleCells.{tuple_is}
use Rattle.tt_change.proofs.tuples.tuple_row.Goals as goal

pub returns : goal.returns
returns c =
    ap (λ (values : List Value). let row : Row = record { values = values } in row)
    (c.from_vec.ensures ∙ c.in_ok-values.ensures
    ∙ ap (λ (columns : List Column). tuple_cells columns c.args.names.now c.as_slice.result.now) c.items.ensures
    ∙ ap (tuple_cells c.args.schema.now.columns c.args.names.now) c.as_slice.ensures)
    ∙ tuple_is c.args.schema.now c.args.names.now c.args.tuple.now
