use Rattle.std.proofs.Common.{arith, map}
use Rattle.tt_value.specs.declared.value.Column.{Column}
use Rattle.tt_plain.specs.WrongCounts.{mentions, later_ones}
use Rattle.tt_typer.proofs.Leftmost.{each_more}
use Rattle.tt_typer.proofs.counts.named_again.Goals as goal

pub loop-column-preserved : goal.loop-column-preserved
loop-column-preserved g c =
    rw (c.earlier-found.ensures, c.mentioned_again.ensures)
    (each_more (λ (column : Column). later_ones (mentions column.name (map g.N.Named.name_of c.args.names.now))) c.loop-column.found c.items-column-items.result.now c.loop-column.column-index c.column-item.result _ (omega arith) c.column-item.is c.loop-column.invariant)
