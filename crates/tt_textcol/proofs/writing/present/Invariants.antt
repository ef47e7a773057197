use Rattle.std.proofs.Common.{◌≡◌, ◌++◌, drop}
use Rattle.tt_value.specs.columns.Body.{present}
use Rattle.tt_textcol.proofs.writing.present.Given as goal

abbrev pub invariant-loop-row : goal.invariant-loop-row
invariant-loop-row l = l.texts.items ++ present (drop l.row-index l.rows) ≡ present l.rows
