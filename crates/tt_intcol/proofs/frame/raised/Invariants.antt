use Rattle.std.proofs.Common.{◌≡◌, take, map, pos, ◌+ℤ◌, true}
use Rattle.std.specs.List.{list_all}
use Rattle.tt_intcol.specs.IntReading.{is_within}
use Rattle.tt_intcol.proofs.frame.raised.Given as goal

abbrev pub invariant-loop-number : goal.invariant-loop-number
invariant-loop-number l = record {
  within : list_all (is_within l.kind l.low) (take l.number-index l.numbers) ≡ true;
  values : l.values.items ≡ map (λ n. l.low +ℤ pos n) (take l.number-index l.numbers);
}
