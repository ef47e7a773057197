use Rattle.std.proofs.Common.{◌≡◌, ◌+◌, ◌++◌, drop, length}
use Rattle.tt_rewrite.specs.Left.{unset}
use Rattle.tt_rewrite.proofs.leaving.append_unset.Given as goal

-- what stays of the rows that are left comes behind
abbrev pub invariant-loop-row : goal.invariant-loop-row
invariant-loop-row l =
    (l.at + length l.row-iterator.rest.items ≡ length l.fn.found.items)
    × (l.rows ++ unset (drop l.at l.bits) l.row-iterator.rest.items ≡ l.fn.rows ++ unset l.bits l.fn.found.items)
