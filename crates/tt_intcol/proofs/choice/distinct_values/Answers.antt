use Rattle.std.specs.Ordering.{int_cmp, eq_by_cmp}
use Rattle.std.specs.List.Sorted.{IsPermutation}
use Rattle.std.proofs.lemmas.Cmp.{int_cmp_total}
use Rattle.std.proofs.lemmas.Map.Lookups.{exact_signed}
use Rattle.std.proofs.lemmas.List.Filters.{dedup_is}
use Rattle.tt_value.proofs.columns.Distinct.{distinct_from_sorted}
use Rattle.tt_intcol.proofs.choice.distinct_values.Goals as goal

pub returns : goal.returns
returns c =
    let perm : IsPermutation c.args.values.now c.sort_unstable.new.self.items = rw c.in_ok-sorted.ensures.items at c.sort_unstable.ensures.permutation in
    distinct_from_sorted int_cmp int_cmp_total exact_signed c.args.values.now c.sort_unstable.new.self.items c.dedup.new.self.items perm c.sort_unstable.ensures.sorted (dedup_is (eq_by_cmp int_cmp) c.sort_unstable.new.self.items c.dedup.new.self.items c.dedup.ensures.filtered)
