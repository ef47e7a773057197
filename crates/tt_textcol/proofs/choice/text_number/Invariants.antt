use Rattle.std.proofs.Common.{◌≡◌, drop}
use Rattle.std.specs.List.{fold}
use Rattle.tt_textcol.specs.TextNumber.{with_byte, text_number}
use Rattle.tt_textcol.proofs.choice.text_number.Given as goal

abbrev pub invariant-loop-byte : goal.invariant-loop-byte
invariant-loop-byte l = fold with_byte l.number (drop l.byte-index l.bytes) ≡ text_number l.bytes
