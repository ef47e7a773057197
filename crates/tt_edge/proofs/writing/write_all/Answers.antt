-- A write more appends what comes after what was written so far.
use Rattle.std.proofs.Common.{◌≡◌, ◌-◌, length, take, drop, ap, ◌∙◌, arith, length-drop}
use Rattle.std.proofs.lemmas.List.{take_rest}
use Rattle.tt_edge.proofs.Bytes.{Appends_more}
use Rattle.tt_edge.proofs.writing.write_all.Goals as goal

pub loop-turn-preserved : goal.loop-turn-preserved
loop-turn-preserved g c =
    let write = c.in-Ok.ensures in
    let before = c.loop-turn.invariant in
    let bytes = c.args.bytes.now in
    let at = c.loop-turn.written in
    let size : length (take (length bytes - at) (drop at bytes)) ≡ length bytes - at = ap length (take_rest bytes at) ∙ length-drop at bytes in
    record {
      within = omega (arith, size, write.bound);
      turns = omega (arith, size, write.some, c.if-written-bytes.false);
      appended = Appends_more _ _ _ bytes at _ before.appended write.bytes;
      counted = omega (arith, write.counted, before.counted);
      later = omega (arith, write.later, before.later);
    }
