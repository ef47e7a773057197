use Rattle.std.proofs.Common.{◌≡◌, ◌+◌, ◌*◌, ◌^◌, ◌<◌, drop}
use Rattle.tt_value.specs.columns.Packing.{joined}
use Rattle.tt_value.proofs.packing.short_word.Given as goal

abbrev pub invariant-loop-byte : goal.invariant-loop-byte
invariant-loop-byte l = record {
  places : l.bits ≡ 8 * l.byte-index;
  fits : l.word < 2 ^ l.bits;
  same : l.word + 2 ^ l.bits * joined 8 (drop l.byte-index l.bytes) ≡ joined 8 l.bytes;
}
