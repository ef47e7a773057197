use Rattle.std.proofs.Common.{◌≡◌, ◌++◌, replicate}
use Rattle.tt_textcol.proofs.reading.push_run.Given as goal

abbrev pub invariant-loop-turn : goal.invariant-loop-turn
invariant-loop-turn l = l.values.items ≡ l.fn.values.items ++ replicate l._turn l.value
