use Rattle.std.proofs.Common.{◌<◌, ◌*◌, ap, sym, ◌∙◌, arith, replicate}
use Rattle.tt_bits.specs.Words.{is_set}
use Rattle.tt_bits.proofs.Places.{is_set-replicate_ones, is_set-replicate_zero}
use Rattle.tt_bits.proofs.words.filled_words.Goals as goal
use Rattle.tt_bits.proofs.words.filled_words.Goals.{then-bit, else-bit}

pub returns-clause-bits : goal.returns-clause-bits
returns-clause-bits c = λ place h.
    let k = c.div_ceil.result in
    let within : place < 64 * k = omega (arith, c.div_ceil.ensures) in
    elim c.if-bit.branch [
      | then-bit w ↦
          ap (λ ws. is_set ws place) (c.in_ok-words.ensures.items_if_clones_equal (λ y e. e) ∙ ap (replicate k) w.word-is)
          ∙ is_set-replicate_ones k place within ∙ sym w.if-bit.true
      | else-bit w ↦
          ap (λ ws. is_set ws place) (c.in_ok-words.ensures.items_if_clones_equal (λ y e. e) ∙ ap (replicate k) w.word-is)
          ∙ is_set-replicate_zero k place ∙ sym w.if-bit.false
    ]
