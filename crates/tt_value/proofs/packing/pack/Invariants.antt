use Rattle.std.proofs.Common.{◌≡◌, ◌^◌, ◌<◌, ◌++◌, drop}
use Rattle.tt_value.specs.columns.Packing.{packed}
use Rattle.tt_value.proofs.columns.Packing.{to_come}
use Rattle.tt_value.proofs.packing.pack.Given as goal

abbrev pub invariant-loop-number : goal.invariant-loop-number
invariant-loop-number l = record {
  few : l.bits < 8;
  fits : l.pending < 2 ^ l.bits;
  row : l.out.items ++ to_come l.width l.bits l.pending (drop l.number-index l.numbers) ≡ l.fn.out.items ++ packed l.width l.numbers;
}
