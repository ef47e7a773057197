use Rattle.std.proofs.Common.{◌≡◌, ◌++◌, take}
use Rattle.std.specs.List.{flat_map}
use Rattle.std.specs.Ordering.{int_cmp}
use Rattle.tt_value.specs.columns.Body.{run_bytes}
use Rattle.tt_intcol.specs.IntBody.{value_bytes}
use Rattle.tt_intcol.proofs.bodies.push_runs.Given as goal

abbrev pub invariant-loop-run : goal.invariant-loop-run
invariant-loop-run l = l.out.items ≡ l.fn.out.items ++ flat_map (run_bytes (value_bytes l.kind) int_cmp) (take l.run-index l.runs)
