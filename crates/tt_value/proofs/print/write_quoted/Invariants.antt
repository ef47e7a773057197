use Rattle.std.proofs.Common.{◌≡◌, ◌++◌, take}
use Rattle.tt_value.specs.values.RowText.{quotes_doubled}
use Rattle.tt_value.proofs.print.write_quoted.Given as goal

abbrev pub invariant-loop-byte : goal.invariant-loop-byte
invariant-loop-byte l = l.out.items ≡ l.initial.out.items ++ quotes_doubled (take l.byte-index l.bytes)
