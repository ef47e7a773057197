use Rattle.std.proofs.Common.{◌≡◌, ◌≤◌, take}
use Rattle.std.specs.List.{count_by}
use Rattle.tt_scan.specs.Held.{may_hold}
use Rattle.tt_scan.proofs.planning.count_assigned.Given as goal

abbrev pub invariant-loop-part : goal.invariant-loop-part
invariant-loop-part l = (l.count ≡ count_by (may_hold l.seen.schema l.filter) (take l.part-index l.part-items)) × (l.count ≤ l.part-index)
