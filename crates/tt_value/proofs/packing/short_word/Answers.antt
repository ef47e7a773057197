use Rattle.std.proofs.Common.{◌^◌, ◌<◌, get_or, length, arith}
use Rattle.std.proofs.lemmas.Nat.{shl_whole}
use Rattle.tt_value.proofs.columns.Packing.{joins_below, byte_within, byte_taken}
use Rattle.tt_value.proofs.packing.short_word.Goals as goal

pub overflow_add-word : goal.overflow_add-word
overflow_add-word c =
    let lt : get_or c.args.bytes.now c.loop-byte.byte-index 0 < 2 ^ 8 = omega arith in
    let e = shl_whole (get_or c.args.bytes.now c.loop-byte.byte-index 0) 8 c.loop-byte.bits 64 lt (omega (arith, c.loop-byte.invariant.places, c.loop-byte-test.true, c.requires)) in
    let below = byte_within c.loop-byte.bits c.loop-byte.byte-index (length c.args.bytes.now) c.loop-byte.word (get_or c.args.bytes.now c.loop-byte.byte-index 0) c.loop-byte.invariant.places c.loop-byte-test.true c.requires c.loop-byte.invariant.fits lt in
    rw (c.from.ensures, e) (omega arith)

pub loop-byte-preserved : goal.loop-byte-preserved
loop-byte-preserved c =
    let lt : get_or c.args.bytes.now c.loop-byte.byte-index 0 < 2 ^ 8 = omega arith in
    let e = shl_whole (get_or c.args.bytes.now c.loop-byte.byte-index 0) 8 c.loop-byte.bits 64 lt (omega (arith, c.loop-byte.invariant.places, c.loop-byte-test.true, c.requires)) in
    record {
      places = omega (arith, c.loop-byte.invariant.places);
      fits = rw (c.from.ensures, e) (joins_below c.loop-byte.bits 8 c.loop-byte.word _ c.loop-byte.invariant.fits lt);
      same = rw (c.from.ensures, e) (byte_taken c.loop-byte.bits c.loop-byte.byte-index c.loop-byte.word c.args.bytes.now _ c.loop-byte-test.true c.loop-byte.invariant.same);
    }
