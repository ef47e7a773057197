-- The order of values, as tests.
use Rattle.std.proofs.Common.{◌≡◌, true, false, refl, sym, ap, ◌∙◌, inl, inr, Ordering}
use Rattle.std.specs.declared.cmp.Ordering.TheVariants.{Less, Equal, Greater}
use Rattle.std.specs.Cmp.{upto, tied_itself}
use Rattle.std.specs.Ordering.{is_eq, is_lt, is_le, is_gt, is_ge, ordering_reverse}
use Rattle.std.proofs.lemmas.Bool.{cases_Bool, false≢true}
use Rattle.tt_value.specs.declared.value.Value.{Value}
use Rattle.tt_value.specs.values.Order.{value_cmp}
use Rattle.tt_value.specs.values.TotalOrder.{value_total}
use Rattle.tt_value.proofs.values.Ties.{value_same}
use Rattle.tt_zone.specs.Possible.{is_below, is_at_most, is_same}

not_greater : (o : Ordering) → is_le o ≡ true → is_gt o ≡ false
not_greater Less e = refl
not_greater Equal e = refl
not_greater Greater e = absurd (cc)

at_most_from : (o : Ordering) → is_gt o ≡ false → is_le o ≡ true
at_most_from Less e = refl
at_most_from Equal e = refl
at_most_from Greater e = absurd (cc)

pub le_trans : (a b c : Value) → is_at_most a b ≡ true → is_at_most b c ≡ true → is_at_most a c ≡ true
le_trans a b c p q = at_most_from (value_cmp a c) (upto value_total a b c (not_greater (value_cmp a b) p) (not_greater (value_cmp b c) q))

pub le_itself : (a : Value) → is_at_most a a ≡ true
le_itself a = ap is_le (tied_itself value_total a)

reversed_lt : (o : Ordering) → is_le (ordering_reverse o) ≡ false → is_lt o ≡ true
reversed_lt Less e = refl
reversed_lt Equal e = absurd (cc)
reversed_lt Greater e = absurd (cc)

reversed_le : (o : Ordering) → is_lt (ordering_reverse o) ≡ false → is_le o ≡ true
reversed_le Less e = refl
reversed_le Equal e = refl
reversed_le Greater e = absurd (cc)

reversed_not : (o : Ordering) → is_lt (ordering_reverse o) ≡ true → is_le o ≡ false
reversed_not Less e = absurd (cc)
reversed_not Equal e = absurd (cc)
reversed_not Greater e = refl

reversed_gt : (o : Ordering) → is_gt (ordering_reverse o) ≡ is_lt o
reversed_gt Less = refl
reversed_gt Equal = refl
reversed_gt Greater = refl

reversed_ge : (o : Ordering) → is_ge (ordering_reverse o) ≡ is_le o
reversed_ge Less = refl
reversed_ge Equal = refl
reversed_ge Greater = refl

-- what is not at most another is above it
pub above : (a b : Value) → is_at_most a b ≡ false → is_below b a ≡ true
above a b e = reversed_lt (value_cmp b a) (ap is_le (sym (value_total.antisymm a b)) ∙ e)

pub not_below : (a b : Value) → is_below a b ≡ false → is_at_most b a ≡ true
not_below a b e = reversed_le (value_cmp b a) (ap is_lt (sym (value_total.antisymm a b)) ∙ e)

pub below_not : (a b : Value) → is_below a b ≡ true → is_at_most b a ≡ false
below_not a b e = reversed_not (value_cmp b a) (ap is_lt (sym (value_total.antisymm a b)) ∙ e)

pub greater_is : (a b : Value) → is_gt (value_cmp a b) ≡ is_lt (value_cmp b a)
greater_is a b = ap is_gt (value_total.antisymm a b) ∙ reversed_gt (value_cmp b a)

pub at_least_is : (a b : Value) → is_ge (value_cmp a b) ≡ is_le (value_cmp b a)
at_least_is a b = ap is_ge (value_total.antisymm a b) ∙ reversed_ge (value_cmp b a)

pub le_from_gt : (a b : Value) → is_gt (value_cmp a b) ≡ false → is_at_most a b ≡ true
le_from_gt a b e = at_most_from (value_cmp a b) e

gt_le : (o : Ordering) → is_gt (ordering_reverse o) ≡ true → is_le o ≡ true
gt_le Less e = refl
gt_le Equal e = absurd (cc)
gt_le Greater e = absurd (cc)

pub le_from_gt_back : (a b : Value) → is_gt (value_cmp a b) ≡ true → is_at_most b a ≡ true
le_from_gt_back a b e = gt_le (value_cmp b a) (ap is_gt (sym (value_total.antisymm a b)) ∙ e)

lt_le : (o : Ordering) → is_lt o ≡ true → is_le o ≡ true
lt_le Less e = refl
lt_le Equal e = absurd (cc)
lt_le Greater e = absurd (cc)

pub le_from_lt : (a b : Value) → is_below a b ≡ true → is_at_most a b ≡ true
le_from_lt a b e = lt_le (value_cmp a b) e

-- at most, and at most back, is equal
equal_both : (o : Ordering) → is_le o ≡ true → is_le (ordering_reverse o) ≡ true → o ≡ Equal
equal_both Less e f = absurd (cc)
equal_both Equal e f = refl
equal_both Greater e f = absurd (cc)

pub le_both : (a b : Value) → is_at_most a b ≡ true → is_at_most b a ≡ true → a ≡ b
le_both a b e f = value_same a b (equal_both (value_cmp a b) e (ap is_le (sym (value_total.antisymm b a)) ∙ f))

equal_from : (o : Ordering) → is_eq o ≡ true → o ≡ Equal
equal_from Less e = absurd (cc)
equal_from Equal e = refl
equal_from Greater e = absurd (cc)

pub same_is : (a b : Value) → is_same a b ≡ true → a ≡ b
same_is a b e = value_same a b (equal_from (value_cmp a b) e)

pub same_itself : (a b : Value) → a ≡ b → is_same a b ≡ true
same_itself a b e = ap (λ v. is_same a v) (sym e) ∙ ap is_eq (tied_itself value_total a)

-- between a value and one below it stands nothing that is at most the first
pub lt_within : (a v w d : Value) → is_at_most a v ≡ true → is_below v w ≡ true → is_at_most w d ≡ true → is_below a d ≡ true
lt_within a v w d p q r = elim (cases_Bool (is_below a d)) [
  | inl e ↦ e
  | inr e ↦ (let back : is_at_most w v ≡ true = le_trans w d v r (le_trans d a v (not_below a d e) p) in absurd (false≢true (sym (below_not v w q) ∙ back)))
]
