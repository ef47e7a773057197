use Rattle.std.proofs.Common.{◌≡◌, ◌≤◌, ◌*◌, length, take}
use Rattle.tt_textcol.specs.TextNumber.{number_in}
use Rattle.tt_textcol.proofs.Counting.{AreCounted}
use Rattle.tt_textcol.proofs.choice.numbered.Given as goal

abbrev pub invariant-loop-value : goal.invariant-loop-value
invariant-loop-value l = record {
  len : length l.seen.items ≡ l.size;
  few : l.entries.count ≤ l.value-index;
  short : l.entries.bytes ≤ 65537 * l.value-index;
  counted : AreCounted (number_in l.size) l.seen.items (take l.value-index l.values) l.entries.count l.entries.bytes;
}
