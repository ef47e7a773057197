use Rattle.std.proofs.Common.{ap, arith, length}
use Rattle.tt_textcol.proofs.Lengths.{spelled_more}
use Rattle.tt_textcol.proofs.choice.plain_length.Goals as goal

pub loop-value-preserved : goal.loop-value-preserved
loop-value-preserved c =
    let short = c.bytes.ensures.short in
    let len = ap length c.bytes.ensures.value in
    let more = spelled_more c.args.values.now c.loop-value.value-index c.value-item.result c.loop-value-test.true in
    let at = ap length c.value-item.is in
    let few = c.loop-value.invariant.few in
    let so_far = c.loop-value.invariant.so_far in
    record { few = omega (arith, short, len, few); so_far = omega (arith, len, more, so_far, at) }
