use Rattle.std.proofs.Common.{◌≡◌, ◌-◌, None}
use Rattle.tt_value.specs.columns.Reading.{runs_at}
use Rattle.tt_value.proofs.columns.Loops.{with_front}
use Rattle.tt_textcol.specs.TextBody.{text_cmp}
use Rattle.tt_textcol.specs.TextReading.{text_at}
use Rattle.tt_textcol.proofs.reading.read_runs.Given as goal

abbrev pub invariant-loop-turn : goal.invariant-loop-turn
invariant-loop-turn l = with_front l.values.items (runs_at text_at text_cmp l.end (l.count - l.turn) l.left l.before l.rest) ≡ runs_at text_at text_cmp l.end l.count l.most None l.bytes
