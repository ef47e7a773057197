use Rattle.std.proofs.Common.{◌≡◌, ◌-◌, None}
use Rattle.std.specs.Ordering.{int_cmp}
use Rattle.tt_value.specs.columns.Reading.{entries_at}
use Rattle.tt_value.proofs.columns.Loops.{with_front}
use Rattle.tt_intcol.specs.IntReading.{value_at}
use Rattle.tt_intcol.proofs.reading.read_entries.Given as goal

abbrev pub invariant-loop-turn : goal.invariant-loop-turn
invariant-loop-turn l = with_front l.values.items (entries_at (value_at l.kind) int_cmp l.end (l.count - l._turn) l.before l.rest) ≡ entries_at (value_at l.kind) int_cmp l.end l.count None l.bytes
