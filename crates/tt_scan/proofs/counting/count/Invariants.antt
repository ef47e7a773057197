use Rattle.std.proofs.Common.{◌≡◌, length}
use Rattle.tt_scan.specs.Held.{rows_taken}
use Rattle.tt_scan.proofs.Scans.{so_far}
use Rattle.tt_scan.proofs.counting.count.Given as goal

abbrev pub invariant-loop-part : goal.invariant-loop-part
invariant-loop-part l = l.count ≡ length (rows_taken l.seen.schema l.filter (so_far l.part-items l.part-index))
