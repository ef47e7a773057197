use Rattle.std.proofs.Common.{◌≡◌, ◌-◌}
use Rattle.std.specs.Ordering.{int_cmp}
use Rattle.tt_value.specs.columns.Reading.{values_at}
use Rattle.tt_value.proofs.columns.Loops.{with_front}
use Rattle.tt_intcol.specs.IntReading.{value_at}
use Rattle.tt_intcol.proofs.reading.read_values.Given as goal

abbrev pub invariant-loop-turn : goal.invariant-loop-turn
invariant-loop-turn l = with_front l.values.items (values_at (value_at l.kind) int_cmp l.end (l.count - l._turn) l.rest) ≡ values_at (value_at l.kind) int_cmp l.end l.count l.bytes
