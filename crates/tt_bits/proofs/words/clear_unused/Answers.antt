use Rattle.std.proofs.Common.{◌<◌, ◌-◌, ◌%◌, length, get_or, set, refl, ap, ◌∙◌, arith}
use Rattle.tt_bits.specs.Words.{is_set}
use Rattle.tt_bits.proofs.Places.{masked_is, is_set-masked_below, is_set-masked_above}
use Rattle.tt_bits.proofs.words.clear_unused.Goals as goal

pub returns-then-used-ne0-clause-kept : goal.returns-then-used-ne0-clause-kept
returns-then-used-ne0-clause-kept c = λ place h.
    let ws = c.args.words.now in
    let last = length ws - 1 in
    let low : c.args.length % 64 < 64 = omega arith in
    ap (λ v. is_set (set ws last v) place) (masked_is (get_or ws last 0) (c.args.length % 64) low)
    ∙ is_set-masked_below c.args.length ws last c.requires c.if-used-ne0.true refl place h

pub returns-then-used-ne0-clause-cleared : goal.returns-then-used-ne0-clause-cleared
returns-then-used-ne0-clause-cleared c = λ place h.
    let ws = c.args.words.now in
    let last = length ws - 1 in
    let low : c.args.length % 64 < 64 = omega arith in
    ap (λ v. is_set (set ws last v) place) (masked_is (get_or ws last 0) (c.args.length % 64) low)
    ∙ is_set-masked_above c.args.length ws last c.requires c.if-used-ne0.true refl place h
