use Rattle.std.proofs.Common.{◌≡◌, ◌+◌, ◌*◌, ◌<◌, ◌^◌, ◌%◌, ◌++◌, ℕ, get_or, arith, refl, ap}
use Rattle.std.proofs.lemmas.Nat.{shl_whole}
use Rattle.tt_value.proofs.columns.Packing.{joins_below, row_turn, row_ended, row_ended_more, pack_start}
use Rattle.tt_value.proofs.packing.pack.Goals as goal

pub loop-number-init : goal.loop-number-init
loop-number-init c = record { few = omega arith; fits = omega arith; row = ap (λ t. c.args.out.items ++ t) (pack_start c.args.width c.args.numbers.now) }

pub push_whole_bytes-requires-clause-fits : goal.push_whole_bytes-requires-clause-fits
push_whole_bytes-requires-clause-fits c =
    let x : ℕ = get_or c.args.numbers.now c.loop-number.number-index 0 in
    let lt : x < 2 ^ c.args.width = c.requires.fit c.loop-number.number-index 0 c.loop-number-test.true in
    let e : x * 2 ^ c.loop-number.bits % 2 ^ 128 ≡ x * 2 ^ c.loop-number.bits = shl_whole x c.args.width c.loop-number.bits 128 lt (omega arith) in
    rw e (joins_below c.loop-number.bits c.args.width c.loop-number.pending x c.loop-number.invariant.fits lt)

pub loop-number-preserved : goal.loop-number-preserved
loop-number-preserved c =
    let x : ℕ = get_or c.args.numbers.now c.loop-number.number-index 0 in
    let lt : x < 2 ^ c.args.width = c.requires.fit c.loop-number.number-index 0 c.loop-number-test.true in
    let e : x * 2 ^ c.loop-number.bits % 2 ^ 128 ≡ x * 2 ^ c.loop-number.bits = shl_whole x c.args.width c.loop-number.bits 128 lt (omega arith) in
    record {
      few = c.in_ok-pending.ensures.few;
      fits = c.in_ok-pending.ensures.fits;
      row = row_turn c.args.width c.loop-number.bits c.loop-number.pending x c.loop-number.number-index c.args.numbers.now c.loop-number.out.items _ _ _ _ _ c.loop-number-test.true refl (ap (λ y. c.loop-number.pending + y) e) c.in_ok-pending.ensures.row c.loop-number.invariant.row;
    }

pub returns-then-bits-eq0 : goal.returns-then-bits-eq0
returns-then-bits-eq0 c = row_ended c.args.width c.loop-number.bits c.loop-number.pending c.loop-number.number-index c.args.numbers.now _ _ c.loop-number-test.false c.loop-number.invariant.few c.loop-number.invariant.fits c.loop-number.invariant.row (omega arith)

pub returns : goal.returns
returns c = row_ended_more c.args.width c.loop-number.bits c.loop-number.pending c.loop-number.number-index c.args.numbers.now _ _ _ c.loop-number-test.false c.loop-number.invariant.few c.loop-number.invariant.fits c.loop-number.invariant.row (omega arith) c.in_ok-push.ensures.items
