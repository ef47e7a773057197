use Rattle.std.proofs.Common.{length, ap, arith}
use Rattle.tt_value.proofs.columns.Runs.{runs_le}
use Rattle.tt_textcol.specs.TextBody.{text_cmp}
use Rattle.tt_textcol.proofs.bodies.run_body.Goals as goal

pub overflow_cast-len : goal.overflow_cast-len
overflow_cast-len c =
    let le = runs_le text_cmp c.args.values.now in
    let e = ap length c.in_ok-runs.ensures in
    omega (arith, le, e)
