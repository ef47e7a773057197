use Rattle.std.specs.Ordering.{eq_by_cmp}
use Rattle.std.specs.List.Sorted.{IsPermutation}
use Rattle.std.proofs.lemmas.List.Filters.{dedup_is}
use Rattle.tt_value.proofs.columns.Distinct.{distinct_from_sorted}
use Rattle.tt_textcol.specs.TextBody.{text_cmp}
use Rattle.tt_textcol.proofs.TextLaws.{text_total, text_ties}
use Rattle.tt_textcol.proofs.choice.distinct_values.Goals as goal

pub returns : goal.returns
returns c =
    let perm : IsPermutation c.args.values.now c.sort_unstable.new.self.items = rw c.in_ok-sorted.ensures at c.sort_unstable.ensures.permutation in
    distinct_from_sorted text_cmp text_total text_ties c.args.values.now c.sort_unstable.new.self.items c.dedup.new.self.items perm c.sort_unstable.ensures.sorted (dedup_is (eq_by_cmp text_cmp) c.sort_unstable.new.self.items c.dedup.new.self.items c.dedup.ensures.filtered)
