use Rattle.std.proofs.Common.{◌≡◌, ◌-◌, None}
use Rattle.std.specs.Ordering.{int_cmp}
use Rattle.tt_value.specs.columns.Reading.{runs_at}
use Rattle.tt_value.proofs.columns.Loops.{with_front}
use Rattle.tt_intcol.specs.IntReading.{value_at}
use Rattle.tt_intcol.proofs.reading.read_runs.Given as goal

abbrev pub invariant-loop-turn : goal.invariant-loop-turn
invariant-loop-turn l = with_front l.values.items (runs_at (value_at l.kind) int_cmp l.end (l.count - l.turn) l.left l.before l.rest) ≡ runs_at (value_at l.kind) int_cmp l.end l.count l.most None l.bytes
