use Rattle.std.proofs.Common.{rules, ◌≡◌, ◌+◌, ◌<◌, ◌≤◌, ℕ, ℤ, Bool, true, false, List, length, get_or, set, take, pos, arith, refl, ◌∙◌, sym, subst}
use Rattle.std.specs.Int.{w64}
use Rattle.std.specs.Int.RustNames.{FitsSigned}
use Rattle.std.specs.Ordering.{int_cmp}
use Rattle.std.proofs.lemmas.Cmp.{int_cmp_total}
use Rattle.std.proofs.lemmas.Int.{to_z-of_z}
use Rattle.std.proofs.lemmas.List.{length-set}
use Rattle.std.proofs.lemmas.Map.Lookups.{exact_signed}
use Rattle.tt_value.specs.columns.Body.{distinct}
use Rattle.tt_value.proofs.columns.Counting.{AreCounted, none_counted, counted_more, counted_in_front, counted_le}
use Rattle.tt_intcol.specs.IntNumber.{number_in}
use Rattle.tt_intcol.proofs.choice.number_count.Goals as goal

abbrev Counted : ℕ → List Bool → List ℤ → ℕ → Type 0
Counted size seen values count = AreCounted int_cmp int_cmp_total exact_signed (number_in size) seen values count

-- a value with a number that has not come
new_number : (size n i count count' : ℕ) (values : List ℤ) (seen seen' : List Bool) → i < length values → n ≡ number_in size (get_or values i (pos 0)) → n < length seen → get_or seen n false ≡ false
    → seen' ≡ set seen n true → count' ≡ count + 1 → Counted size seen (take i values) count → Counted size seen' (take (i + 1) values) count'
new_number size n i count count' values seen seen' lt n_is within new seen_is count_is c =
    let more : Counted size (set seen (number_in size (get_or values i (pos 0))) true) (take (i + 1) values) (count + 1)
    = counted_more int_cmp int_cmp_total exact_signed (number_in size) seen values i (pos 0) count lt (subst (λ m. m < length seen) n_is within) (subst (λ m. get_or seen m false ≡ false) n_is new) c in
    let marked : Counted size (set seen n true) (take (i + 1) values) (count + 1) = subst (λ m. Counted size (set seen m true) (take (i + 1) values) (count + 1)) (sym n_is) more in
    subst (λ m. Counted size seen' (take (i + 1) values) m) (sym count_is) (subst (λ (t : List Bool). Counted size t (take (i + 1) values) (count + 1)) (sym seen_is) marked)

-- what has been counted in front is at most the distinct values of all
front_le : (size i count : ℕ) (values : List ℤ) (seen : List Bool) → Counted size seen (take i values) count → count ≤ length (distinct int_cmp values)
front_le size i count values seen c =
    counted_le int_cmp int_cmp_total exact_signed (number_in size) seen values count (counted_in_front int_cmp int_cmp_total exact_signed (number_in size) seen values i count c)

pub loop-value-init : goal.loop-value-init
loop-value-init c = record {
  len = search rules;
  few = omega arith;
  counted = none_counted int_cmp int_cmp_total exact_signed (number_in c.saturating_add-places.result) c.in_ok-seen.seen.items;
}

pub returns-then-dictionary_length-most : goal.returns-then-dictionary_length-most
returns-then-dictionary_length-most c =
    let fits : FitsSigned w64 (get_or c.args.values.now c.loop-value.value-index (pos 0)) = search rules in
    let same = to_z-of_z w64 (get_or c.args.values.now c.loop-value.value-index (pos 0)) fits in
    let number = rw same at c.number_of-number.ensures.value in
    let below = c.number_of-number.ensures.below in
    let test = c.if-index.false in
    let read = c.index.ensures in
    let new : get_or c.loop-value.seen.items c.number_of-number.result false ≡ false = cc in
    let counted : Counted c.saturating_add-places.result (set c.loop-value.seen.items c.number_of-number.result true) (take (c.loop-value.value-index + 1) c.args.values.now) (c.loop-value.count + 1)
    = new_number c.saturating_add-places.result c.number_of-number.result c.loop-value.value-index c.loop-value.count _ c.args.values.now c.loop-value.seen.items _
    c.loop-value-test.true number (omega (arith, below, c.loop-value.invariant.len)) new refl refl c.loop-value.invariant.counted in
    front_le c.saturating_add-places.result (c.loop-value.value-index + 1) (c.loop-value.count + 1) c.args.values.now _ counted

pub loop-value-preserved : goal.loop-value-preserved
loop-value-preserved c =
    let fits : FitsSigned w64 (get_or c.args.values.now c.loop-value.value-index (pos 0)) = search rules in
    let same = to_z-of_z w64 (get_or c.args.values.now c.loop-value.value-index (pos 0)) fits in
    let number = rw same at c.number_of-number.ensures.value in
    let below = c.number_of-number.ensures.below in
    let test = c.if-index.false in
    let read = c.index.ensures in
    let new : get_or c.loop-value.seen.items c.number_of-number.result false ≡ false = cc in
    let counted : Counted c.saturating_add-places.result (set c.loop-value.seen.items c.number_of-number.result true) (take (c.loop-value.value-index + 1) c.args.values.now) (c.loop-value.count + 1)
    = new_number c.saturating_add-places.result c.number_of-number.result c.loop-value.value-index c.loop-value.count _ c.args.values.now c.loop-value.seen.items _
    c.loop-value-test.true number (omega (arith, below, c.loop-value.invariant.len)) new refl refl c.loop-value.invariant.counted in
    record {
      len = length-set c.loop-value.seen.items c.number_of-number.result true ∙ c.loop-value.invariant.len;
      few = omega (arith, c.loop-value.invariant.few);
      counted = counted;
    }

pub returns : goal.returns
returns c = front_le c.saturating_add-places.result c.loop-value.value-index c.loop-value.count c.args.values.now c.loop-value.seen.items c.loop-value.invariant.counted
