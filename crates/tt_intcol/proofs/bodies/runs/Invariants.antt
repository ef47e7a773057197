use Rattle.std.proofs.Common.{◌≡◌, ◌++◌, ◌+◌, ◌≤◌, drop}
use Rattle.std.specs.Ordering.{int_cmp}
use Rattle.tt_value.specs.columns.Body.{runs_after, runs_of}
use Rattle.tt_intcol.proofs.bodies.runs.Given as goal

abbrev pub invariant-loop-next : goal.invariant-loop-next
invariant-loop-next l = record {
  few : l.count ≤ l.next-index + 1;
  so_far : l.runs.items ++ runs_after int_cmp l.value l.count (drop l.next-index l.others) ≡ runs_of int_cmp l.values;
}
