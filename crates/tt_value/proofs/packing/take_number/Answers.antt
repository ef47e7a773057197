use Rattle.std.proofs.Common.{arith, sym, ◌∙◌}
use Rattle.tt_value.specs.columns.Packing.{joined}
use Rattle.tt_value.proofs.columns.Packing.{digit_out, digit_left, left_below, word_value, word_left, word_left_below}
use Rattle.tt_value.proofs.packing.take_number.Goals as goal

pub returns-then-width-bits-clause-value : goal.returns-then-width-bits-clause-value
returns-then-width-bits-clause-value c = c.low_bits-number.ensures ∙ sym (digit_out c.args.width c.args.bits c.args.pending (joined 8 c.args.bytes.now) c.if-width-bits.true)

pub returns-then-width-bits-clause-fits : goal.returns-then-width-bits-clause-fits
returns-then-width-bits-clause-fits c = left_below c.args.width c.args.bits c.args.pending c.if-width-bits.true c.requires.fits

pub returns-then-width-bits-clause-left : goal.returns-then-width-bits-clause-left
returns-then-width-bits-clause-left c = sym (digit_left c.args.width c.args.bits c.args.pending (joined 8 c.args.bytes.now) c.if-width-bits.true)

pub returns-clause-value : goal.returns-clause-value
returns-clause-value c = c.low_bits-number-2.ensures ∙ word_value c.args.width c.args.bits c.args.pending c.next_word-word.result.0 (joined 8 c.next_word-word.result.1.now) (joined 8 c.args.bytes.now) c.requires.narrow c.next_word-word.ensures

pub returns-clause-fits : goal.returns-clause-fits
returns-clause-fits c = word_left_below c.args.width c.args.bits c.args.pending c.next_word-word.result.0 (omega (arith, c.if-width-bits.false)) (omega arith) c.requires.fits

pub returns-clause-left : goal.returns-clause-left
returns-clause-left c = word_left c.args.width c.args.bits c.args.pending c.next_word-word.result.0 (joined 8 c.next_word-word.result.1.now) (joined 8 c.args.bytes.now) (omega (arith, c.if-width-bits.false)) c.requires.narrow c.requires.fits c.next_word-word.ensures
