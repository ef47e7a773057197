-- Texts between others that begin alike, and the truth of STARTSWITH.
use Rattle.std.proofs.Common.{◌≡◌, ℕ, Bool, true, false, not, List, [], ◌∷◌, Option, Some, None, refl, sym, ap, ◌∙◌, inl, inr, Ordering}
use Rattle.std.specs.Prelude.{◌==◌, ◌&&◌, ◌||◌}
use Rattle.std.specs.List.{starts_with}
use Rattle.std.specs.Option.{option_map}
use Rattle.std.specs.declared.cmp.Ordering.TheVariants.{Less, Equal, Greater}
use Rattle.std.specs.Cmp.{tied_itself, nat_cmp_total}
use Rattle.std.specs.Cmp.Lexicographic.{slice_cmp}
use Rattle.std.specs.Ordering.{nat_cmp, is_le, ordering_then, ordering_reverse}
use Rattle.std.proofs.lemmas.Bool.{cases_Bool, and_parts, eqb-true, eq-eqb, false≢true}
use Rattle.std.proofs.lemmas.Map.Lookups.{exact_unsigned}
use Rattle.tt_value.specs.declared.value.Value.{Value}
use Rattle.tt_value.specs.declared.value.Value.TheVariants.{Null, Int, Date, Text}
use Rattle.tt_value.specs.declared.predicate.Truth.TheVariants.{Unknown}
use Rattle.tt_value.specs.values.Order.{value_cmp}
use Rattle.tt_value.specs.trees.Predicates.{is_null, begins}
use Rattle.tt_zone.specs.TruthSets.{has}
use Rattle.tt_zone.specs.Possible.{Range, Span, is_at_most, is_text, is_text_with, begins_between, has_others, truths_in, begins_in}
use Rattle.tt_zone.proofs.Orders.{le_trans}
use Rattle.tt_zone.proofs.ConditionLaws.{InRange, InSpan}

abbrev le : List ℕ → List ℕ → Bool
le a b = is_le (slice_cmp nat_cmp a b)

abbrev starts : List ℕ → List ℕ → Bool
starts bytes front = starts_with (λ a b. a == b) bytes front

equal_head : (x y : ℕ) → nat_cmp x y ≡ Equal → (x == y) ≡ true
equal_head x y e = eq-eqb x y (exact_unsigned x y e)

-- a front is at most what begins with it
front_le : (p v : List ℕ) → starts v p ≡ true → le p v ≡ true
front_le [] [] e = refl
front_le [] (y ∷ v) e = refl
front_le (x ∷ p) [] e = absurd (cc)
front_le (x ∷ p) (y ∷ v) e =
    let parts = and_parts (x == y) (starts v p) e in
    ap (λ z. is_le (ordering_then (nat_cmp x z) (slice_cmp nat_cmp p v))) (sym (eqb-true x y parts.0)) ∙ ap (λ o. is_le (ordering_then o (slice_cmp nat_cmp p v))) (tied_itself nat_cmp_total x) ∙ front_le p v parts.1

or_true : (b : Bool) → b || true ≡ true
or_true true = refl
or_true false = refl

below_step : (o p v : Ordering) (e s : Bool) → (o ≡ Equal → e ≡ true) → is_le (ordering_then o v) ≡ true → (is_le v ≡ true → is_le p || s ≡ true) → is_le (ordering_then o p) || (e && s) ≡ true
below_step Less p v e s same h more = refl
below_step Equal p v e s same h more = rw (same refl) (more h)
below_step Greater p v e s same h more = absurd (cc)

-- what is at most a text that begins with a front is at most the front, or begins with it too
below_front : (p v a : List ℕ) → starts v p ≡ true → le a v ≡ true → le a p || starts a p ≡ true
below_front [] v a e h = or_true (le a [])
below_front (x ∷ p) [] a e h = absurd (cc)
below_front (x ∷ p) (y ∷ v) [] e h = refl
below_front (x ∷ p) (y ∷ v) (z ∷ a) e h =
    let parts = and_parts (x == y) (starts v p) e in
    let same : x ≡ y = eqb-true x y parts.0 in
    below_step (nat_cmp z x) (slice_cmp nat_cmp a p) (slice_cmp nat_cmp a v) (x == z) (starts a p) (λ t. eq-eqb x z (sym (exact_unsigned z x t))) (ap (λ w. is_le (ordering_then (nat_cmp z w) (slice_cmp nat_cmp a v))) same ∙ h) (below_front p v a parts.1)

between_step : (o q a b : Ordering) (e s : Bool) → q ≡ ordering_reverse o → (o ≡ Equal → e ≡ true) → is_le (ordering_then o a) ≡ true → is_le (ordering_then q b) ≡ true → (is_le a ≡ true → is_le b ≡ true → s ≡ true) → e && s ≡ true
between_step Less q a b e s turned same h k more = absurd (let f : false ≡ true = ap (λ r. is_le (ordering_then r b)) (sym turned) ∙ k in cc)
between_step Equal q a b e s turned same h k more = rw (same refl) (more h (ap (λ r. is_le (ordering_then r b)) (sym turned) ∙ k))
between_step Greater q a b e s turned same h k more = absurd (cc)

-- what stands between two texts that begin with a front begins with it
between_fronts : (p a v b : List ℕ) → starts a p ≡ true → starts b p ≡ true → le a v ≡ true → le v b ≡ true → starts v p ≡ true
between_fronts [] a v b e f h k = refl
between_fronts (x ∷ p) [] v b e f h k = absurd (cc)
between_fronts (x ∷ p) (y ∷ a) v [] e f h k = absurd (cc)
between_fronts (x ∷ p) (y ∷ a) [] (z ∷ b) e f h k = absurd (cc)
between_fronts (x ∷ p) (y ∷ a) (w ∷ v) (z ∷ b) e f h k =
    let left = and_parts (x == y) (starts a p) e in
    let right = and_parts (x == z) (starts b p) f in
    let low = ap (λ t. is_le (ordering_then (nat_cmp t w) (slice_cmp nat_cmp a v))) (eqb-true x y left.0) ∙ h in
    let high = ap (λ t. is_le (ordering_then (nat_cmp w t) (slice_cmp nat_cmp v b))) (eqb-true x z right.0) ∙ k in
    between_step (nat_cmp x w) (nat_cmp w x) (slice_cmp nat_cmp a v) (slice_cmp nat_cmp v b) (x == w) (starts v p) (nat_cmp_total.antisymm w x) (equal_head x w) low high (between_fronts p a v b left.1 right.1)

-- ---- values

no_text : (a : Value) (v : Value) → is_text v ≡ false → is_null v ≡ false → is_at_most a v ≡ true → is_text a ≡ false
unfolding value_cmp
no_text Null v t n h = refl
no_text (Int m) v t n h = refl
no_text (Date m) v t n h = refl
no_text (Text s) Null t n h = absurd (cc)
no_text (Text s) (Int m) t n h = absurd (cc)
no_text (Text s) (Date m) t n h = absurd (cc)
no_text (Text s) (Text r) t n h = absurd (cc)

-- a text's least is no NULL, and its greatest is a text or NULL
least_holds : (front bytes : List ℕ) (a : Value) → starts bytes front ≡ true → is_at_most a (Text bytes) ≡ true → is_at_most a (Text front) || is_text_with front a ≡ true
unfolding value_cmp
least_holds front bytes Null e h = absurd (cc)
least_holds front bytes (Int n) e h = refl
least_holds front bytes (Date n) e h = refl
least_holds front bytes (Text s) e h = below_front front bytes s e h

text_le : (front bytes : List ℕ) → starts bytes front ≡ true → is_at_most (Text front) (Text bytes) ≡ true
unfolding value_cmp
text_le front bytes e = front_le front bytes e

greatest_holds : (front bytes : List ℕ) (b : Value) → starts bytes front ≡ true → is_at_most (Text bytes) b ≡ true → is_at_most (Text front) b ≡ true
greatest_holds front bytes b e h = le_trans (Text front) (Text bytes) b (text_le front bytes e) h

both_true : (a b : Bool) → a ≡ true → b ≡ true → a && b ≡ true
both_true a b e f = rw (e, f) refl

not_both : (a b : Bool) → (a ≡ true → b ≡ true → ⊥) → not (a && b) ≡ true
not_both true true f = absurd (f refl refl)
not_both true false f = refl
not_both false b f = refl

text_with : (front : List ℕ) (v : Value) → is_text_with front v ≡ true → (s : List ℕ) × (v ≡ Text s) × (starts s front ≡ true)
text_with front Null e = absurd (cc)
text_with front (Int n) e = absurd (cc)
text_with front (Date n) e = absurd (cc)
text_with front (Text s) e = (s, refl, e)

texts_between : (front bytes s t : List ℕ) → starts s front ≡ true → starts t front ≡ true → is_at_most (Text s) (Text bytes) ≡ true → is_at_most (Text bytes) (Text t) ≡ true → starts bytes front ≡ true
unfolding value_cmp
texts_between front bytes s t e f h k = between_fronts front s bytes t e f h k

fails : (front bytes : List ℕ) (r : Range) → InRange (Some r) (Text bytes) → starts bytes front ≡ false → not (is_text_with front r.0 && is_text_with front r.1) ≡ true
fails front bytes r within e = not_both (is_text_with front r.0) (is_text_with front r.1) (λ p q.
    let a = text_with front r.0 p in
    let b = text_with front r.1 q in
    false≢true (sym e ∙ texts_between front bytes a.0 b.0 a.2 b.2 (ap (λ v. is_at_most v (Text bytes)) (sym a.1) ∙ within.0) (ap (is_at_most (Text bytes)) (sym b.1) ∙ within.1)))

or_left : (a b : Bool) → a ≡ true → a || b ≡ true
or_left a b e = rw e refl

or_right : (a b : Bool) → b ≡ true → a || b ≡ true
or_right true b e = refl
or_right false b e = e

unknown_has : (o : Option (Bool × Bool)) (u : Bool) → u ≡ true → has (truths_in o u) Unknown ≡ true
unknown_has None u e = e
unknown_has (Some may) u e = e

others_in : (o : Option Range) (v : Value) → InRange o v → is_text v ≡ false → is_null v ≡ false → has_others o ≡ true
others_in None v within t n = absurd within
others_in (Some r) v within t n = ap not (no_text r.0 v t n within.0)

text_has : (front bytes : List ℕ) (o : Option Range) (u : Bool) → InRange o (Text bytes) → has (truths_in (option_map (begins_between front) o) u) (begins (Text bytes) front) ≡ true
text_has front bytes None u within = absurd within
text_has front bytes (Some r) u within = elim (cases_Bool (starts bytes front)) [
  | inl e ↦ rw e (both_true (is_at_most (Text front) r.1) (is_at_most r.0 (Text front) || is_text_with front r.0) (greatest_holds front bytes r.1 e within.1) (least_holds front bytes r.0 e within.0))
  | inr e ↦ rw e (fails front bytes r within e)
]

pub begins_has : (front : List ℕ) (s : Span) (v : Value) → InSpan s v → has (begins_in front s) (begins v front) ≡ true
begins_has front s Null ins = unknown_has (option_map (begins_between front) s.range) (s.has_null || has_others s.range) (or_left s.has_null (has_others s.range) (ins.null refl))
begins_has front s (Int n) ins = unknown_has (option_map (begins_between front) s.range) (s.has_null || has_others s.range) (or_right s.has_null (has_others s.range) (others_in s.range (Int n) (ins.value refl) refl refl))
begins_has front s (Date n) ins = unknown_has (option_map (begins_between front) s.range) (s.has_null || has_others s.range) (or_right s.has_null (has_others s.range) (others_in s.range (Date n) (ins.value refl) refl refl))
begins_has front s (Text bytes) ins = text_has front bytes s.range (s.has_null || has_others s.range) (ins.value refl)
