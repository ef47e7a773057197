use Rattle.std.proofs.Common.{◌≡◌, ◌+◌, ◌<◌, ℕ, zero, suc, Bool, true, false, List, [], ◌∷◌, length, get_or, set, take, arith, ap, ◌∙◌, sym, subst, refl}
use Rattle.std.proofs.lemmas.List.{length-set}
use Rattle.tt_textcol.specs.TextNumber.{number_in}
use Rattle.tt_textcol.proofs.Counting.{AreCounted, counted_before, counted_more, counted_in_front}
use Rattle.tt_textcol.proofs.choice.numbered.Goals as goal

abbrev Counted : ℕ → List Bool → List (List ℕ) → ℕ → ℕ → Type 0
Counted size seen values count bytes = AreCounted (number_in size) seen values count bytes

-- a place of the table that was read
marked_at : (seen : List Bool) (n : ℕ) (b : Bool) → b ≡ true → n < length seen → get_or seen n b ≡ b → get_or seen n false ≡ true
marked_at [] n b marked within h = absurd (omega arith)
marked_at (s ∷ seen) zero b marked within h = h ∙ marked
marked_at (s ∷ seen) (suc n) b marked within h = marked_at seen n b marked (omega arith) h

-- a text with a number that has not come
new_number : (size n i count count' bytes bytes' : ℕ) (values : List (List ℕ)) (d v : List ℕ) (seen seen' : List Bool) → i < length values → v ≡ get_or values i d → n ≡ number_in size v → n < length seen → get_or seen n false ≡ false
    → seen' ≡ set seen n true → count' ≡ count + 1 → bytes' ≡ bytes + (length v + 2) → Counted size seen (take i values) count bytes → Counted size seen' (take (i + 1) values) count' bytes'
new_number size n i count count' bytes bytes' values d v seen seen' lt v_is n_is within new seen_is count_is bytes_is c =
    let number_is : n ≡ number_in size (get_or values i d) = n_is ∙ ap (number_in size) v_is in
    let long : bytes' ≡ bytes + (length (get_or values i d) + 2) = bytes_is ∙ ap (λ u. bytes + (length u + 2)) v_is in
    let more : Counted size (set seen (number_in size (get_or values i d)) true) (take (i + 1) values) (count + 1) (bytes + (length (get_or values i d) + 2))
    = counted_more (number_in size) seen values i d count bytes lt (subst (λ m. m < length seen) number_is within) (subst (λ m. get_or seen m false ≡ false) number_is new) c in
    let marked : Counted size (set seen n true) (take (i + 1) values) (count + 1) (bytes + (length (get_or values i d) + 2))
    = subst (λ m. Counted size (set seen m true) (take (i + 1) values) (count + 1) (bytes + (length (get_or values i d) + 2))) (sym number_is) more in
    let counted : Counted size (set seen n true) (take (i + 1) values) count' (bytes + (length (get_or values i d) + 2))
    = subst (λ m. Counted size (set seen n true) (take (i + 1) values) m (bytes + (length (get_or values i d) + 2))) (sym count_is) marked in
    let summed : Counted size (set seen n true) (take (i + 1) values) count' bytes' = subst (λ m. Counted size (set seen n true) (take (i + 1) values) count' m) (sym long) counted in
    subst (λ (t : List Bool). Counted size t (take (i + 1) values) count' bytes') (sym seen_is) summed

-- a text with a number that has come
old_number : (size n i count count' bytes bytes' : ℕ) (values : List (List ℕ)) (d v : List ℕ) (seen seen' : List Bool) → i < length values → v ≡ get_or values i d → n ≡ number_in size v → get_or seen n false ≡ true
    → seen' ≡ seen → count' ≡ count → bytes' ≡ bytes → Counted size seen (take i values) count bytes → Counted size seen' (take (i + 1) values) count' bytes'
old_number size n i count count' bytes bytes' values d v seen seen' lt v_is n_is old seen_is count_is bytes_is c =
    let number_is : n ≡ number_in size (get_or values i d) = n_is ∙ ap (number_in size) v_is in
    let before : Counted size seen (take (i + 1) values) count bytes = counted_before (number_in size) seen values i d count bytes lt (subst (λ m. get_or seen m false ≡ true) number_is old) c in
    let counted : Counted size seen (take (i + 1) values) count' bytes = subst (λ m. Counted size seen (take (i + 1) values) m bytes) (sym count_is) before in
    let summed : Counted size seen (take (i + 1) values) count' bytes' = subst (λ m. Counted size seen (take (i + 1) values) count' m) (sym bytes_is) counted in
    subst (λ (t : List Bool). Counted size t (take (i + 1) values) count' bytes') (sym seen_is) summed

pub loop-value-preserved-then-index : goal.loop-value-preserved-then-index
loop-value-preserved-then-index c =
    let number = c.number_of-number.ensures.value in
    let below = c.number_of-number.ensures.below in
    let test = c.if-index.true in
    let read = c.index.ensures in
    let old : get_or c.loop-value.seen.items c.number_of-number.result false ≡ true = marked_at c.loop-value.seen.items c.number_of-number.result c.index.result.now test (omega (arith, below, c.loop-value.invariant.len)) (sym read) in
    record {
      len = c.loop-value.invariant.len;
      few = omega (arith, c.loop-value.invariant.few);
      short = omega (arith, c.loop-value.invariant.short);
      counted = old_number c.saturating_add-size.result c.number_of-number.result c.loop-value.value-index c.loop-value.entries.count _ c.loop-value.entries.bytes _ c.args.values.now c.value-item.result c.value-item.result c.loop-value.seen.items _
          c.loop-value-test.true c.value-item.is number old refl refl refl c.loop-value.invariant.counted;
    }

pub returns-then-dictionary_length-most-clause-count : goal.returns-then-dictionary_length-most-clause-count
returns-then-dictionary_length-most-clause-count c =
    let number = c.number_of-number.ensures.value in
    let below = c.number_of-number.ensures.below in
    let test = c.if-index.false in
    let read = c.index.ensures in
    let new : get_or c.loop-value.seen.items c.number_of-number.result false ≡ false = cc in
    let counted : Counted c.saturating_add-size.result (set c.loop-value.seen.items c.number_of-number.result true) (take (c.loop-value.value-index + 1) c.args.values.now) c.one_more-entries.result.count c.one_more-entries.result.bytes
    = new_number c.saturating_add-size.result c.number_of-number.result c.loop-value.value-index c.loop-value.entries.count _ c.loop-value.entries.bytes _ c.args.values.now c.value-item.result c.value-item.result c.loop-value.seen.items _
    c.loop-value-test.true c.value-item.is number (omega (arith, below, c.loop-value.invariant.len)) new refl c.one_more-entries.ensures.count c.one_more-entries.ensures.bytes c.loop-value.invariant.counted in
    let all = counted_in_front (number_in c.saturating_add-size.result) _ c.args.values.now (c.loop-value.value-index + 1) c.one_more-entries.result.count c.one_more-entries.result.bytes (omega (arith, c.loop-value-test.true)) counted in
    all.0

pub returns-then-dictionary_length-most-clause-bytes : goal.returns-then-dictionary_length-most-clause-bytes
returns-then-dictionary_length-most-clause-bytes c =
    let number = c.number_of-number.ensures.value in
    let below = c.number_of-number.ensures.below in
    let test = c.if-index.false in
    let read = c.index.ensures in
    let new : get_or c.loop-value.seen.items c.number_of-number.result false ≡ false = cc in
    let counted : Counted c.saturating_add-size.result (set c.loop-value.seen.items c.number_of-number.result true) (take (c.loop-value.value-index + 1) c.args.values.now) c.one_more-entries.result.count c.one_more-entries.result.bytes
    = new_number c.saturating_add-size.result c.number_of-number.result c.loop-value.value-index c.loop-value.entries.count _ c.loop-value.entries.bytes _ c.args.values.now c.value-item.result c.value-item.result c.loop-value.seen.items _
    c.loop-value-test.true c.value-item.is number (omega (arith, below, c.loop-value.invariant.len)) new refl c.one_more-entries.ensures.count c.one_more-entries.ensures.bytes c.loop-value.invariant.counted in
    let all = counted_in_front (number_in c.saturating_add-size.result) _ c.args.values.now (c.loop-value.value-index + 1) c.one_more-entries.result.count c.one_more-entries.result.bytes (omega (arith, c.loop-value-test.true)) counted in
    all.1

pub loop-value-preserved : goal.loop-value-preserved
loop-value-preserved c =
    let number = c.number_of-number.ensures.value in
    let below = c.number_of-number.ensures.below in
    let test = c.if-index.false in
    let read = c.index.ensures in
    let new : get_or c.loop-value.seen.items c.number_of-number.result false ≡ false = cc in
    let counted : Counted c.saturating_add-size.result (set c.loop-value.seen.items c.number_of-number.result true) (take (c.loop-value.value-index + 1) c.args.values.now) c.one_more-entries.result.count c.one_more-entries.result.bytes
    = new_number c.saturating_add-size.result c.number_of-number.result c.loop-value.value-index c.loop-value.entries.count _ c.loop-value.entries.bytes _ c.args.values.now c.value-item.result c.value-item.result c.loop-value.seen.items _
    c.loop-value-test.true c.value-item.is number (omega (arith, below, c.loop-value.invariant.len)) new refl c.one_more-entries.ensures.count c.one_more-entries.ensures.bytes c.loop-value.invariant.counted in
    let more = c.one_more-entries.ensures in
    record {
      len = length-set c.loop-value.seen.items c.number_of-number.result true ∙ c.loop-value.invariant.len;
      few = omega (arith, more.count, c.loop-value.invariant.few);
      short = omega (arith, more.bytes, more.short, c.loop-value.invariant.short);
      counted = counted;
    }
