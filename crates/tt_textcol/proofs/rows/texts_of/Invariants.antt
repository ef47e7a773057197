use Rattle.std.proofs.Common.{◌≡◌, take}
use Rattle.tt_textcol.proofs.rows.texts_of.Given as goal

abbrev pub invariant-loop-row : goal.invariant-loop-row
invariant-loop-row l = l.texts.items ≡ take l.row-index l.rows
