use Rattle.std.proofs.Common.{ap, sym, ◌∙◌, cond, nat_eq}
use Rattle.tt_bits.specs.Words.{is_set}
use Rattle.tt_bits.proofs.Places.{is_set-put_true}
use Rattle.tt_bits.proofs.words.put_bit.Goals as goal

pub returns-then-bit : goal.returns-then-bit
returns-then-bit c = λ other.
    is_set-put_true c.args.words.now c.args.place other c.requires.within
    ∙ ap (λ b. cond (nat_eq other c.args.place) b (is_set c.args.words.now other)) (sym c.if-bit.true)
