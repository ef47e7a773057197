use Rattle.std.proofs.Common.{◌≡◌, take}
use Rattle.tt_textcol.proofs.choice.again.Given as goal

abbrev pub invariant-loop-value : goal.invariant-loop-value
invariant-loop-value l = l.texts.items ≡ take l.value-index l.values
