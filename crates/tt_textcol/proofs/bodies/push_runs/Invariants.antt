use Rattle.std.proofs.Common.{◌≡◌, ◌++◌, take}
use Rattle.std.specs.List.{flat_map}
use Rattle.tt_value.specs.columns.Body.{run_bytes}
use Rattle.tt_textcol.specs.TextBody.{text_bytes, text_cmp}
use Rattle.tt_textcol.proofs.bodies.push_runs.Given as goal

abbrev pub invariant-loop-run : goal.invariant-loop-run
invariant-loop-run l = l.out.items ≡ l.fn.out.items ++ flat_map (run_bytes text_bytes text_cmp) (take l.run-index l.runs)
