use Rattle.std.proofs.Common.{◌≡◌, ◌-◌, None}
use Rattle.tt_value.specs.columns.Reading.{entries_at}
use Rattle.tt_value.proofs.columns.Loops.{with_front}
use Rattle.tt_textcol.specs.TextBody.{text_cmp}
use Rattle.tt_textcol.specs.TextReading.{text_at}
use Rattle.tt_textcol.proofs.reading.read_entries.Given as goal

abbrev pub invariant-loop-turn : goal.invariant-loop-turn
invariant-loop-turn l = with_front l.values.items (entries_at text_at text_cmp l.end (l.count - l._turn) l.before l.rest) ≡ entries_at text_at text_cmp l.end l.count None l.bytes
