use Rattle.std.proofs.Common.{◌≡◌, ◌+◌, ◌≤◌, drop, length}
use Rattle.std.specs.Ordering.{int_cmp}
use Rattle.tt_value.specs.columns.Body.{runs_of}
use Rattle.tt_value.proofs.columns.Runs.{breaks}
use Rattle.tt_intcol.proofs.choice.run_count.Given as goal

abbrev pub invariant-loop-next : goal.invariant-loop-next
invariant-loop-next l = record {
  few : l.count ≤ l.next-index + 1;
  so_far : l.count + breaks int_cmp l.value (drop l.next-index l.others) ≡ length (runs_of int_cmp l.values);
}
