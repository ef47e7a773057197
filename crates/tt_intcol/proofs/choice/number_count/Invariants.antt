use Rattle.std.proofs.Common.{◌≡◌, ◌≤◌, length, take}
use Rattle.std.specs.Ordering.{int_cmp}
use Rattle.std.proofs.lemmas.Cmp.{int_cmp_total}
use Rattle.std.proofs.lemmas.Map.Lookups.{exact_signed}
use Rattle.tt_value.proofs.columns.Counting.{AreCounted}
use Rattle.tt_intcol.specs.IntNumber.{number_in}
use Rattle.tt_intcol.proofs.choice.number_count.Given as goal

abbrev pub invariant-loop-value : goal.invariant-loop-value
invariant-loop-value l = record {
  len : length l.seen.items ≡ l.places;
  few : l.count ≤ l.value-index;
  counted : AreCounted int_cmp int_cmp_total exact_signed (number_in l.places) l.seen.items (take l.value-index l.values) l.count;
}
