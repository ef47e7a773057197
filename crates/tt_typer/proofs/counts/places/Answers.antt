use Rattle.std.proofs.Common.{List, Some, refl, arith}
use Rattle.tt_sql.specs.declared.table.ColumnDefinition.{ColumnDefinition}
use Rattle.tt_plain.specs.Places.{leftmost}
use Rattle.tt_plain.specs.WrongCounts.{places_of, defined_names}
use Rattle.tt_typer.proofs.Leftmost.{found_more}
use Rattle.tt_typer.proofs.counts.places.Goals as goal

pub loop-column-preserved : goal.loop-column-preserved
loop-column-preserved c =
    rw (c.earlier-found.ensures)
    (found_more (λ (xs : List ColumnDefinition). leftmost (places_of (defined_names xs))) (λ (x : ColumnDefinition). Some x.name.place) (λ x xs. refl) c.loop-column.found c.args.columns.now c.loop-column.column-index c.column-item.result _ (omega arith) c.column-item.is c.loop-column.invariant)
