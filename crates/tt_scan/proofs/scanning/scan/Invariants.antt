use Rattle.std.proofs.Common.{◌≡◌}
use Rattle.std.specs.Prelude.{All}
use Rattle.tt_value.specs.values.RowText.{IsPrintable}
use Rattle.tt_scan.specs.Held.{rows_taken}
use Rattle.tt_scan.proofs.Scans.{so_far}
use Rattle.tt_scan.proofs.scanning.scan.Given as goal

abbrev pub invariant-loop-part : goal.invariant-loop-part
invariant-loop-part l = (l.rows.items ≡ rows_taken l.seen.schema l.filter (so_far l.part-items l.part-index)) × All IsPrintable l.rows.items
