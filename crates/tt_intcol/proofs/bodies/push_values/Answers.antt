use Rattle.std.proofs.Common.{pos, get_or, rules}
use Rattle.std.specs.Int.{w64}
use Rattle.std.specs.Int.RustNames.{FitsSigned}
use Rattle.std.proofs.lemmas.Int.{to_z-of_z}
use Rattle.tt_value.proofs.columns.Indexes.{pushed_more}
use Rattle.tt_intcol.specs.IntBody.{value_bytes}
use Rattle.tt_intcol.proofs.bodies.push_values.Goals as goal

pub loop-value-preserved : goal.loop-value-preserved
loop-value-preserved c =
    let fits : FitsSigned w64 (get_or c.args.values.now c.loop-value.value-index (pos 0)) = search rules in
    let same = to_z-of_z w64 (get_or c.args.values.now c.loop-value.value-index (pos 0)) fits in
    pushed_more (value_bytes c.args.kind) c.args.out.now.items c.args.values.now c.loop-value.value-index (pos 0) c.loop-value.out.items _ c.loop-value-test.true c.loop-value.invariant (rw same at c.in_ok-push_value.ensures)
