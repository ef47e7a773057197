-- The sum, the least and the greatest of some values do not depend on their order.
use Rattle.std.specs.Ordering.{is_gt, is_lt, ordering_reverse}
use Rattle.std.specs.Prelude.{Bool, List, None, Option, Some, [], false, fold, pos, refl, true, ℤ, ◌+ℤ◌, ◌∷◌, ◌≡◌}
use Rattle.std.specs.declared.cmp.Ordering.TheVariants.{Equal, Greater, Less}
use Rattle.std.specs.declared.cmp.Ordering.{Ordering}
use Rattle.std.proofs.Common.{ap, arith, cond, sym, ◌∙◌}
use Rattle.std.proofs.Math.IntN.{+ℤ_assoc, +ℤ_comm, +ℤ_idl}
use Rattle.std.proofs.lemmas.Bool.{false≢true}
use Rattle.std.proofs.lemmas.Cmp.{upto}
use Rattle.std.proofs.lemmas.Option.{same_Some}
use Rattle.tt_query_laws.proofs.Rearranged.{Rearranges, rearranged_fold, rearranged_length}
use Rattle.tt_sql.specs.meaning.Queries.{best_of, greater, int_of, lesser, sum_of}
use Rattle.tt_value.proofs.values.Ties.{value_same}
use Rattle.tt_value.specs.declared.value.Value.{Value}
use Rattle.tt_value.specs.trees.Expressions.{in_range}
use Rattle.tt_value.specs.values.Order.{value_cmp}
use Rattle.tt_value.specs.values.TotalOrder.{value_total}

-- ---- sums

abbrev plus : ℤ → Value → ℤ
plus so_far v = so_far +ℤ int_of v

plus_free : (b : ℤ) (x y : Value) → plus (plus b x) y ≡ plus (plus b y) x
plus_free b x y = +ℤ_assoc b (int_of x) (int_of y) ∙ ap (λ n. b +ℤ n) (+ℤ_comm (int_of x) (int_of y)) ∙ sym (+ℤ_assoc b (int_of y) (int_of x))

from_nothing : (v : Value) (vs : List Value) → fold plus (int_of v) vs ≡ fold plus (pos 0) (v ∷ vs)
from_nothing v vs = ap (λ n. fold plus n vs) (sym (+ℤ_idl (int_of v)))

none_or_some : {A B : Type 0} (x : A) (xs : List A) → Rearranges [] (x ∷ xs) → B
none_or_some x xs r = absurd (omega (arith, rearranged_length [] (x ∷ xs) r))

some_or_none : {A B : Type 0} (x : A) (xs : List A) → Rearranges (x ∷ xs) [] → B
some_or_none x xs r = absurd (omega (arith, rearranged_length (x ∷ xs) [] r))

pub sum_same : (vs ws : List Value) → Rearranges vs ws → sum_of vs ≡ sum_of ws
sum_same [] [] r = refl
sum_same [] (w ∷ ws) r = none_or_some w ws r
sum_same (v ∷ vs) [] r = some_or_none v vs r
sum_same (v ∷ vs) (w ∷ ws) r = ap in_range (from_nothing v vs ∙ rearranged_fold plus plus_free (pos 0) (v ∷ vs) (w ∷ ws) r ∙ sym (from_nothing w ws))

-- ---- the one that is preferred of all

-- that two ways to prefer one of two give the same, and that the third decides as the chain of them
module _ (is_better : Value → Value → Bool)
    (one : (a b : Value) → is_better a b ≡ true → is_better b a ≡ false)
    (none : (a b : Value) → is_better a b ≡ false → is_better b a ≡ false → a ≡ b)
    (chain : (a b c : Value) → is_better a b ≡ false → is_better b c ≡ false → is_better a c ≡ false) where
  abbrev pick : Value → Value → Value
  pick a b = cond (is_better b a) b a

  takes : (a b : Value) → is_better b a ≡ true → pick a b ≡ b
  takes a b e = rw e refl

  leaves : (a b : Value) → is_better b a ≡ false → pick a b ≡ a
  leaves a b e = rw e refl

  comm_by : (a b : Value) (p q : Bool) → is_better a b ≡ p → is_better b a ≡ q → pick a b ≡ pick b a
  comm_by a b true true e f = absurd (false≢true (sym (one a b e) ∙ f))
  comm_by a b true false e f = leaves a b f ∙ sym (takes b a e)
  comm_by a b false true e f = takes a b f ∙ sym (leaves b a e)
  comm_by a b false false e f = ap (λ x. pick x b) (none a b e f) ∙ ap (λ x. pick b x) (sym (none a b e f))

  pick_comm : (a b : Value) → pick a b ≡ pick b a
  pick_comm a b = comm_by a b (is_better a b) (is_better b a) refl refl

  -- if c is better than b and b better than a, then c is better than a
  better_by : (a b c : Value) → is_better c b ≡ true → is_better b a ≡ true → (p : Bool) → is_better c a ≡ p → is_better c a ≡ true
  better_by a b c e f true g = g
  better_by a b c e f false g = absurd (false≢true (sym (chain c a b g (one b a f)) ∙ e))

  assoc_by : (a b c : Value) (p q : Bool) → is_better b a ≡ p → is_better c b ≡ q → pick (pick a b) c ≡ pick a (pick b c)
  assoc_by a b c true true e f =
      ap (λ x. pick x c) (takes a b e) ∙ takes b c f
      ∙ sym (ap (pick a) (takes b c f) ∙ takes a c (better_by a b c f e (is_better c a) refl))
  assoc_by a b c true false e f = ap (λ x. pick x c) (takes a b e) ∙ leaves b c f ∙ sym (ap (pick a) (leaves b c f) ∙ takes a b e)
  assoc_by a b c false true e f = ap (λ x. pick x c) (leaves a b e) ∙ sym (ap (pick a) (takes b c f))
  assoc_by a b c false false e f =
      ap (λ x. pick x c) (leaves a b e) ∙ leaves a c (chain c b a f e)
      ∙ sym (ap (pick a) (leaves b c f) ∙ leaves a b e)

  pick_assoc : (a b c : Value) → pick (pick a b) c ≡ pick a (pick b c)
  pick_assoc a b c = assoc_by a b c (is_better b a) (is_better c b) refl refl

  abbrev pick_next : Option Value → Value → Option Value
  pick_next None v = Some v
  pick_next (Some a) v = Some (pick a v)

  next_free : (a : Option Value) (x y : Value) → pick_next (pick_next a x) y ≡ pick_next (pick_next a y) x
  next_free None x y = ap Some (pick_comm x y)
  next_free (Some a) x y = ap Some (pick_assoc a x y ∙ ap (pick a) (pick_comm x y) ∙ sym (pick_assoc a y x))

  next_is : (a : Value) (vs : List Value) → fold pick_next (Some a) vs ≡ Some (fold pick a vs)
  next_is a [] = refl
  next_is a (v ∷ vs) = next_is (pick a v) vs

  pub best_same : (vs ws : List Value) → Rearranges vs ws → best_of pick vs ≡ best_of pick ws
  best_same [] [] r = refl
  best_same [] (w ∷ ws) r = none_or_some w ws r
  best_same (v ∷ vs) [] r = some_or_none v vs r
  best_same (v ∷ vs) (w ∷ ws) r =
      let e = sym (next_is v vs) ∙ rearranged_fold pick_next next_free None (v ∷ vs) (w ∷ ws) r ∙ next_is w ws in
      same_Some (fold pick v vs) (fold pick w ws) e

-- ---- the least and the greatest

turned_lt : (r s : Ordering) → r ≡ ordering_reverse s → is_lt r ≡ is_gt s
turned_lt Less Less e = cc
turned_lt Less Equal e = cc
turned_lt Less Greater e = refl
turned_lt Equal Less e = cc
turned_lt Equal Equal e = refl
turned_lt Equal Greater e = cc
turned_lt Greater Less e = refl
turned_lt Greater Equal e = cc
turned_lt Greater Greater e = cc

gt_one_by : (r s : Ordering) → r ≡ ordering_reverse s → is_gt r ≡ true → is_gt s ≡ false
gt_one_by Less s e p = cc
gt_one_by Equal s e p = cc
gt_one_by Greater Less e p = refl
gt_one_by Greater Equal e p = cc
gt_one_by Greater Greater e p = cc

gt_tie_by : (r s : Ordering) → r ≡ ordering_reverse s → is_gt r ≡ false → is_gt s ≡ false → r ≡ Equal
gt_tie_by Less Less e p q = cc
gt_tie_by Less Equal e p q = cc
gt_tie_by Less Greater e p q = cc
gt_tie_by Equal s e p q = refl
gt_tie_by Greater s e p q = cc

gt_one : (a b : Value) → is_gt (value_cmp a b) ≡ true → is_gt (value_cmp b a) ≡ false
gt_one a b e = gt_one_by (value_cmp a b) (value_cmp b a) (value_total.antisymm a b) e

gt_none : (a b : Value) → is_gt (value_cmp a b) ≡ false → is_gt (value_cmp b a) ≡ false → a ≡ b
gt_none a b e f = value_same a b (gt_tie_by (value_cmp a b) (value_cmp b a) (value_total.antisymm a b) e f)

gt_chain : (a b c : Value) → is_gt (value_cmp a b) ≡ false → is_gt (value_cmp b c) ≡ false → is_gt (value_cmp a c) ≡ false
gt_chain a b c e f = upto value_total a b c e f

pub greatest_same : (vs ws : List Value) → Rearranges vs ws → best_of greater vs ≡ best_of greater ws
greatest_same vs ws r = best_same (λ a b. is_gt (value_cmp a b)) gt_one gt_none gt_chain vs ws r

lt_is : (a b : Value) → is_lt (value_cmp a b) ≡ is_gt (value_cmp b a)
lt_is a b = turned_lt (value_cmp a b) (value_cmp b a) (value_total.antisymm a b)

pub least_same : (vs ws : List Value) → Rearranges vs ws → best_of lesser vs ≡ best_of lesser ws
least_same vs ws r =
    best_same (λ a b. is_lt (value_cmp a b))
    (λ a b e. lt_is b a ∙ gt_one b a (sym (lt_is a b) ∙ e))
    (λ a b e f. gt_none a b (sym (lt_is b a) ∙ f) (sym (lt_is a b) ∙ e))
    (λ a b c e f. lt_is a c ∙ gt_chain c b a (sym (lt_is b c) ∙ f) (sym (lt_is a b) ∙ e))
    vs ws r
