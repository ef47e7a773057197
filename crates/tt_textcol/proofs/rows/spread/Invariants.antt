use Rattle.std.proofs.Common.{◌≡◌, ◌++◌, drop}
use Rattle.tt_value.specs.columns.Reading.{spread}
use Rattle.tt_textcol.proofs.rows.spread.Given as goal

abbrev pub invariant-loop-flag : goal.invariant-loop-flag
invariant-loop-flag l = l.rows.items ++ spread (drop l.flag-index l.flags) (drop l.at l.values) ≡ spread l.flags l.values
