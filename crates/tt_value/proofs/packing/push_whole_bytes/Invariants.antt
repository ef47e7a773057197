use Rattle.std.proofs.Common.{◌+◌, ◌≡◌, ℕ, ◌*◌, ◌^◌, ◌<◌, ◌++◌}
use Rattle.tt_value.specs.columns.Packing.{digits, bytes_for}
use Rattle.tt_value.proofs.packing.push_whole_bytes.Given as goal

-- the bytes written and the bits that wait are one row, whatever follows
abbrev pub invariant-loop-left : goal.invariant-loop-left
invariant-loop-left l = record {
  few : l.left < 72;
  fits : l.waiting < 2 ^ l.left;
  row : (more count : ℕ) → l.out.items ++ digits 8 (bytes_for (l.left + count)) (l.waiting + 2 ^ l.left * more)
      ≡ l.fn.out.items ++ digits 8 (bytes_for (l.bits + count)) (l.pending + 2 ^ l.bits * more);
}

abbrev pub decreases-loop-left : goal.decreases-loop-left
decreases-loop-left l = l.left
