use Rattle.std.proofs.Common.{◌≡◌, ◌*◌, ◌≤◌, sum_by, take}
use Rattle.tt_owner.specs.Rows.{counted}
use Rattle.tt_owner.proofs.rows.total.Given as goal

-- each part counts at most what 64 bits hold
abbrev pub invariant-loop-part : goal.invariant-loop-part
invariant-loop-part l = record {
  sum : l.total ≡ sum_by (counted l.class) (take l.part-index l.run);
  bound : l.total ≤ l.part-index * 18446744073709551615;
}
