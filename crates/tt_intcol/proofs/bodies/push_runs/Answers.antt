use Rattle.std.proofs.Common.{◌++◌, pos, get_or, ap, ◌∙◌, append_assoc, rules}
use Rattle.std.specs.Int.{w64}
use Rattle.std.specs.Int.RustNames.{FitsSigned}
use Rattle.std.proofs.lemmas.Int.{to_z-of_z}
use Rattle.std.specs.Ordering.{int_cmp}
use Rattle.tt_value.specs.columns.Body.{run_bytes, word}
use Rattle.tt_value.proofs.columns.Indexes.{pushed_more}
use Rattle.tt_intcol.specs.IntBody.{value_bytes}
use Rattle.tt_intcol.proofs.bodies.push_runs.Goals as goal

pub loop-run-preserved : goal.loop-run-preserved
loop-run-preserved c =
    let run = get_or c.args.runs.now c.loop-run.run-index (pos 0, 0) in
    let fits : FitsSigned w64 (get_or c.args.runs.now c.loop-run.run-index (pos 0, 0)).0 = search rules in
    let same = to_z-of_z w64 (get_or c.args.runs.now c.loop-run.run-index (pos 0, 0)).0 fits in
    let value = rw same at c.in_ok-push_value.ensures in
    pushed_more (run_bytes (value_bytes c.args.kind) int_cmp) c.args.out.now.items c.args.runs.now c.loop-run.run-index (pos 0, 0) c.loop-run.out.items _ c.loop-run-test.true c.loop-run.invariant
    (c.in_ok-extend_from_slice.ensures.items ∙ ap (λ t. t ++ c.to_le_bytes.result) value ∙ ap (λ t. (c.loop-run.out.items ++ value_bytes c.args.kind run.0) ++ t) c.to_le_bytes.ensures ∙ append_assoc c.loop-run.out.items (value_bytes c.args.kind run.0) (word run.1))
