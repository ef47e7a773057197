-- The rows of an answer, in its order: those of a bag, or those of a list.
use Rattle.std.specs.Prelude.{List}
use Rattle.std.specs.Arc.{arc_value}
use Rattle.tt_value.specs.declared.value.Row.{Row}
use Rattle.tt_history.specs.declared.reply.Kept.{Kept}
use Rattle.tt_history.specs.declared.reply.Kept.TheVariants as kept

abbrev pub rows_of : Kept → List Row
rows_of (kept.Bag bag) = arc_value bag
rows_of (kept.List rows) = arc_value rows
