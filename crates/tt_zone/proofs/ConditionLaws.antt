-- The truth of a condition on values is one of those that the values' spans leave possible.
use Rattle.std.proofs.Common.{◌≡◌, Bool, true, false, not, Option, Some, None, refl, sym, ap, ◌∙◌, inl, inr, Ordering}
use Rattle.std.specs.Prelude.{◌&&◌, ◌||◌, if◌then◌else◌, option_and_then, is_some}
use Rattle.std.specs.Option.{option_map}
use Rattle.std.specs.Ordering.{is_eq, is_lt, is_le, is_gt, is_ge}
use Rattle.std.proofs.lemmas.Bool.{cases_Bool, false≢true, and_parts}
use Rattle.tt_value.specs.declared.value.Value.{Value}
use Rattle.tt_value.specs.declared.predicate.Comparison.{Comparison}
use Rattle.tt_value.specs.declared.predicate.Comparison.TheVariants.{Equal, NotEqual, Less, LessOrEqual, Greater, GreaterOrEqual}
use Rattle.tt_value.specs.declared.predicate.Truth.{Truth}
use Rattle.tt_value.specs.declared.predicate.Truth.TheVariants.{Unknown}
use Rattle.tt_value.specs.values.Order.{value_cmp}
use Rattle.tt_value.specs.trees.Truths.{truth_of_bool, not_truth}
use Rattle.tt_value.specs.trees.Predicates.{is_null, compared}
use Rattle.tt_zone.specs.TruthSets.{has, not_set}
use Rattle.tt_zone.specs.Possible.{Range, Span, value_span, is_at_most, is_same, equal_in, less_in, at_most_in, truths_in, ranges_in, compared_in, null_in}
use Rattle.tt_zone.proofs.Orders.{le_trans, le_itself, not_below, above, le_both, same_is, same_itself, lt_within, greater_is, at_least_is}
use Rattle.tt_zone.proofs.SetLaws.{not_has}

-- a value lies in a range, if there is one
abbrev pub InRange : Option Range → Value → Type 0
InRange None v = ⊥
InRange (Some r) v = (is_at_most r.0 v ≡ true) × (is_at_most v r.1 ≡ true)

-- a value is one of those of a span
pub record InSpan (s : Span) (v : Value) : Type 0 where
  pub null : is_null v ≡ true → s.has_null ≡ true
  pub value : is_null v ≡ false → InRange s.range v

pub value_in : (v : Value) → InSpan (value_span v) v
value_in v = elim (cases_Bool (is_null v)) [
  | inl e ↦ record { null = λ _. e; value = λ f. absurd (false≢true (sym f ∙ e)) }
  | inr e ↦ record { null = λ f. absurd (false≢true (sym e ∙ f)); value = λ _. rw e (le_itself v, le_itself v) }
]

-- ---- tests over ranges

-- what a test over ranges has to say of each two values in them
pub record Leaves (test : Range → Range → Bool × Bool) (rel : Ordering → Bool) : Type 0 where
  pub holds : (r q : Range) (v w : Value) → InRange (Some r) v → InRange (Some q) w → rel (value_cmp v w) ≡ true → (test r q).0 ≡ true
  pub fails : (r q : Range) (v w : Value) → InRange (Some r) v → InRange (Some q) w → rel (value_cmp v w) ≡ false → (test r q).1 ≡ true

abbrev pub related : (Ordering → Bool) → Value → Value → Truth
related rel v w = if is_null v || is_null w then Unknown else truth_of_bool (rel (value_cmp v w))

unknown_has : (o : Option (Bool × Bool)) (u : Bool) → u ≡ true → has (truths_in o u) Unknown ≡ true
unknown_has None u e = e
unknown_has (Some may) u e = e

or_left : (a b : Bool) → a ≡ true → a || b ≡ true
or_left a b e = rw e refl

or_right : (a b : Bool) → b ≡ true → a || b ≡ true
or_right true b e = refl
or_right false b e = e

module _ (test : Range → Range → Bool × Bool) (rel : Ordering → Bool) (leaves : Leaves test rel) where
  values_leave : (p q : Option Range) (u : Bool) (v w : Value) → InRange p v → InRange q w → has (truths_in (option_and_then (λ a. option_map (test a) q) p) u) (truth_of_bool (rel (value_cmp v w))) ≡ true
  values_leave None q u v w inp inq = absurd inp
  values_leave (Some r) None u v w inp inq = absurd inq
  values_leave (Some r) (Some t) u v w inp inq = elim (cases_Bool (rel (value_cmp v w))) [
    | inl e ↦ rw e (leaves.holds r t v w inp inq e)
    | inr e ↦ rw e (leaves.fails r t v w inp inq e)
  ]

  pub ranges_leave : (s t : Span) (v w : Value) → InSpan s v → InSpan t w → has (ranges_in test s t) (related rel v w) ≡ true
  ranges_leave s t v w ins int = elim (cases_Bool (is_null v)) [
    | inl e ↦ rw e (unknown_has (option_and_then (λ a. option_map (test a) t.range) s.range) (s.has_null || t.has_null) (or_left s.has_null t.has_null (ins.null e)))
    | inr e ↦ elim (cases_Bool (is_null w)) [
      | inl f ↦ rw (e, f) (unknown_has (option_and_then (λ a. option_map (test a) t.range) s.range) (s.has_null || t.has_null) (or_right s.has_null t.has_null (int.null f)))
      | inr f ↦ rw (e, f) (values_leave s.range t.range (s.has_null || t.has_null) v w (ins.value e) (int.value f))
    ]
  ]

both_true : (a b : Bool) → a ≡ true → b ≡ true → a && b ≡ true
both_true a b e f = rw (e, f) refl

-- ranges that are one value alone
all_same : (r q : Range) (v w : Value) → InRange (Some r) v → InRange (Some q) w → is_same r.0 r.1 && (is_same r.1 q.0 && is_same q.0 q.1) ≡ true → v ≡ w
all_same r q v w inr' inq e =
    let parts = and_parts (is_same r.0 r.1) (is_same r.1 q.0 && is_same q.0 q.1) e in
    let others = and_parts (is_same r.1 q.0) (is_same q.0 q.1) parts.1 in
    let a : r.0 ≡ r.1 = same_is r.0 r.1 parts.0 in
    let b : r.1 ≡ q.0 = same_is r.1 q.0 others.0 in
    let c : q.0 ≡ q.1 = same_is q.0 q.1 others.1 in
    let vle : is_at_most v r.0 ≡ true = ap (is_at_most v) a ∙ inr'.1 in
    let wle : is_at_most w q.0 ≡ true = ap (is_at_most w) c ∙ inq.1 in
    sym (le_both r.0 v inr'.0 vle) ∙ a ∙ b ∙ le_both q.0 w inq.0 wle

not_from : (a : Bool) → (a ≡ true → ⊥) → not a ≡ true
not_from true f = absurd (f refl)
not_from false f = refl

pub equal_leaves : Leaves equal_in is_eq
equal_leaves = record {
  holds = λ r q v w inr' inq e.
      (let same : v ≡ w = same_is v w e in
      both_true (is_at_most r.0 q.1) (is_at_most q.0 r.1) (le_trans r.0 w q.1 (ap (is_at_most r.0) (sym same) ∙ inr'.0) inq.1) (le_trans q.0 v r.1 (ap (is_at_most q.0) same ∙ inq.0) inr'.1));
  fails = λ r q v w inr' inq e.
      not_from (is_same r.0 r.1 && (is_same r.1 q.0 && is_same q.0 q.1)) (λ all. false≢true (sym e ∙ same_itself v w (all_same r q v w inr' inq all)));
}

pub less_leaves : Leaves less_in is_lt
less_leaves = record {
  holds = λ r q v w inr' inq e. lt_within r.0 v w q.1 inr'.0 e inq.1;
  fails = λ r q v w inr' inq e. le_trans q.0 w r.1 inq.0 (le_trans w v r.1 (not_below v w e) inr'.1);
}

pub at_most_leaves : Leaves at_most_in is_le
at_most_leaves = record {
  holds = λ r q v w inr' inq e. le_trans r.0 v q.1 inr'.0 (le_trans v w q.1 e inq.1);
  fails = λ r q v w inr' inq e. lt_within q.0 w v r.1 inq.0 (above v w e) inr'.1;
}

-- ---- comparisons

not_related : (n : Bool) (b : Bool) → (if n then Unknown else truth_of_bool (not b)) ≡ not_truth (if n then Unknown else truth_of_bool b)
not_related true b = refl
not_related false true = refl
not_related false false = refl

or_swap : (a b : Bool) → a || b ≡ b || a
or_swap true true = refl
or_swap true false = refl
or_swap false true = refl
or_swap false false = refl

turned : (rel back : Ordering → Bool) (v w : Value) → rel (value_cmp v w) ≡ back (value_cmp w v) → related rel v w ≡ related back w v
turned rel back v w e = ap (λ n. if n then Unknown else truth_of_bool (rel (value_cmp v w))) (or_swap (is_null v) (is_null w)) ∙ ap (λ b. if is_null w || is_null v then Unknown else truth_of_bool b) e

pub compared_has : (c : Comparison) (s t : Span) (v w : Value) → InSpan s v → InSpan t w → has (compared_in c s t) (compared c v w) ≡ true
compared_has Equal s t v w ins int = ranges_leave equal_in is_eq equal_leaves s t v w ins int
compared_has NotEqual s t v w ins int = ap (has (not_set (ranges_in equal_in s t))) (not_related (is_null v || is_null w) (is_eq (value_cmp v w))) ∙ not_has (ranges_in equal_in s t) (related is_eq v w) (ranges_leave equal_in is_eq equal_leaves s t v w ins int)
compared_has Less s t v w ins int = ranges_leave less_in is_lt less_leaves s t v w ins int
compared_has LessOrEqual s t v w ins int = ranges_leave at_most_in is_le at_most_leaves s t v w ins int
compared_has Greater s t v w ins int = ap (has (ranges_in less_in t s)) (turned is_gt is_lt v w (greater_is v w)) ∙ ranges_leave less_in is_lt less_leaves t s w v int ins
compared_has GreaterOrEqual s t v w ins int = ap (has (ranges_in at_most_in t s)) (turned is_ge is_le v w (at_least_is v w)) ∙ ranges_leave at_most_in is_le at_most_leaves t s w v int ins

-- ---- IS NULL

is_some_in : (o : Option Range) (v : Value) → InRange o v → is_some o ≡ true
is_some_in None v h = absurd h
is_some_in (Some r) v h = refl

pub null_has : (s : Span) (v : Value) → InSpan s v → has (null_in s) (truth_of_bool (is_null v)) ≡ true
null_has s v ins = elim (cases_Bool (is_null v)) [
  | inl e ↦ rw e (ins.null e)
  | inr e ↦ rw e (is_some_in s.range v (ins.value e))
]
