use Rattle.std.proofs.Common.{◌∙◌}
use Rattle.tt_bits.proofs.Counting.{count_fits, count_of_words}
use Rattle.tt_bits.proofs.words.count_set.Goals as goal

pub sum_of_ones-requires : goal.sum_of_ones-requires
sum_of_ones-requires c =
    count_fits c.args.length c.args.words.now c.requires (λ k h. let fit = c.type_inv.words k in fit.fits) c.ranges.length.fits

pub returns : goal.returns
returns c =
    c.sum_of_ones.ensures ∙ count_of_words c.args.length c.args.words.now c.requires (λ k h. let fit = c.type_inv.words k in fit.fits)
