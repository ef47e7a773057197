use Rattle.std.proofs.Common.{◌≡◌, ◌+◌, ◌-◌, ◌*◌, ◌/◌, ◌^◌, ◌<◌, ◌++◌}
use Rattle.tt_value.specs.columns.Packing.{joined, digits}
use Rattle.tt_value.proofs.packing.unpack.Given as goal

-- the bits that wait and the bytes behind them are the digits that are left
abbrev pub invariant-loop-turn : goal.invariant-loop-turn
invariant-loop-turn l = record {
  few : l.bits < 64;
  fits : l.pending < 2 ^ l.bits;
  so_far : l.numbers.items ++ digits l.width (l.count - l._turn) (l.pending + 2 ^ l.bits * joined 8 l.rest) ≡ digits l.width l.count (joined 8 l.bytes);
  left : l.pending + 2 ^ l.bits * joined 8 l.rest ≡ joined 8 l.bytes / 2 ^ (l._turn * l.width);
}
