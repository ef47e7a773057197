use Rattle.std.proofs.Common.{ap, arith, length}
use Rattle.tt_textcol.proofs.Lengths.{run_start}
use Rattle.tt_textcol.proofs.choice.run_length.Goals as goal

pub loop-next-init : goal.loop-next-init
loop-next-init c =
    let h = c.in-Some.ensures.cases in
    let short = c.bytes.ensures.short in
    let len = ap length c.bytes.ensures.value in
    let start = run_start c.in-Some.first.now c.in-Some.others.now c.args.values.now h.0 in
    record { few = omega (arith, short, len); so_far = omega (arith, len, start) }
