use Rattle.std.proofs.Common.{◌≡◌, map, take}
use Rattle.tt_zone.specs.Zones.{column_at}
use Rattle.tt_partition.specs.Image.{text_in}
use Rattle.tt_partition.proofs.writing.texts_of.Given as goal

abbrev pub invariant-loop-row : goal.invariant-loop-row
invariant-loop-row l = l.texts.items ≡ map text_in (column_at l.place (take l.row-index l.rows))
