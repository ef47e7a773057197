-- Each value of a column lies in the column's zone.
use Rattle.std.proofs.Common.{◌≡◌, ℕ, zero, suc, ◌+◌, ◌<◌, ◌≤◌, Bool, true, false, cond, List, [], ◌∷◌, length, map, get_or, Some, ◌⊎◌, inl, inr, refl, sym, ap, ◌∙◌, arith}
use Rattle.std.specs.Prelude.{fold, ◌||◌, Contains}
use Rattle.std.specs.List.{count_by}
use Rattle.std.specs.Ordering.{is_lt, is_gt}
use Rattle.std.proofs.lemmas.Bool.{cases_Bool, false≢true, lt-ltb}
use Rattle.tt_value.specs.declared.value.Value.{Value}
use Rattle.tt_value.specs.declared.value.Value.TheVariants.{Null, Int, Date, Text}
use Rattle.tt_value.specs.values.Order.{value_cmp}
use Rattle.tt_value.specs.trees.Predicates.{is_null}
use Rattle.tt_zone.specs.Zones.{lesser, greater, zone_of, IsZoneOf}
use Rattle.tt_zone.specs.Possible.{is_at_most, zone_span}
use Rattle.tt_zone.proofs.Orders.{le_trans, le_itself, le_from_gt, le_from_gt_back, le_from_lt, not_below}
use Rattle.tt_zone.proofs.ConditionLaws.{InSpan}

-- ---- items of a list

abbrev pub Has : {A : Type 0} → List A → A → Type 0
Has [] v = ⊥
Has (x ∷ xs) v = (x ≡ v) ⊎ Has xs v

pub has_from : {A : Type 0} (xs : List A) (v : A) (k : ℕ) → k < length xs → get_or xs k v ≡ v → Has xs v
has_from [] v k h e = absurd (omega arith)
has_from (x ∷ xs) v zero h e = inl e
has_from (x ∷ xs) v (suc k) h e = inr (has_from xs v k (omega arith) e)

pub has_to : {A : Type 0} (xs : List A) (v : A) → Has xs v → Contains xs v
has_to [] v h = absurd h
has_to (x ∷ xs) v h = elim h [
  | inl e ↦ (0, omega arith, e)
  | inr m ↦ (let there = has_to xs v m in (suc there.0, omega (arith, there.1), there.2))
]

pub has_map : {A B : Type 0} (f : A → B) (xs : List A) (v : A) → Has xs v → Has (map f xs) (f v)
has_map f [] v h = absurd h
has_map f (x ∷ xs) v h = elim h [ inl e ↦ inl (ap f e) | inr m ↦ inr (has_map f xs v m) ]

-- ---- the least value

lesser_left : (a x : Value) → is_at_most (lesser a x) a ≡ true
lesser_left a x = elim (cases_Bool (is_gt (value_cmp a x))) [
  | inl e ↦ rw e (le_from_gt_back a x e)
  | inr e ↦ rw e (le_itself a)
]

lesser_right : (a x : Value) → is_at_most (lesser a x) x ≡ true
lesser_right a x = elim (cases_Bool (is_gt (value_cmp a x))) [
  | inl e ↦ rw e (le_itself x)
  | inr e ↦ rw e (le_from_gt a x e)
]

lesser_one : (a x : Value) → (lesser a x ≡ a) ⊎ (lesser a x ≡ x)
lesser_one a x = elim (cases_Bool (is_gt (value_cmp a x))) [
  | inl e ↦ inr (rw e refl)
  | inr e ↦ inl (rw e refl)
]

least_le : (xs : List Value) (a : Value) → is_at_most (fold lesser a xs) a ≡ true
least_le [] a = le_itself a
least_le (x ∷ xs) a = le_trans (fold lesser (lesser a x) xs) (lesser a x) a (least_le xs (lesser a x)) (lesser_left a x)

least_within : (xs : List Value) (a v : Value) → Has xs v → is_at_most (fold lesser a xs) v ≡ true
least_within [] a v h = absurd h
least_within (x ∷ xs) a v h = elim h [
  | inl e ↦ le_trans (fold lesser (lesser a x) xs) (lesser a x) v (least_le xs (lesser a x)) (ap (is_at_most (lesser a x)) (sym e) ∙ lesser_right a x)
  | inr m ↦ least_within xs (lesser a x) v m
]

-- the least is one of the values, or what was there before
least_among : (xs : List Value) (a : Value) → (fold lesser a xs ≡ a) ⊎ Has xs (fold lesser a xs)
least_among [] a = inl refl
least_among (x ∷ xs) a = elim (least_among xs (lesser a x)) [
  | inl e ↦ elim (lesser_one a x) [
    | inl f ↦ inl (e ∙ f)
    | inr f ↦ inr (inl (sym (e ∙ f)))
  ]
  | inr m ↦ inr (inr m)
]

-- ---- the greatest value

greater_left : (a x : Value) → is_null a ≡ false → (is_null (greater a x) ≡ false) × (is_at_most a (greater a x) ≡ true)
greater_left a x h = elim (cases_Bool (is_null x)) [
  | inl e ↦ rw e (h, le_itself a)
  | inr e ↦ elim (cases_Bool (is_lt (value_cmp a x))) [
    | inl f ↦ rw (e, h, f) (e, le_from_lt a x f)
    | inr f ↦ rw (e, h, f) (h, le_itself a)
  ]
]

greater_right : (a x : Value) → is_null x ≡ false → (is_null (greater a x) ≡ false) × (is_at_most x (greater a x) ≡ true)
greater_right a x h = elim (cases_Bool (is_null a)) [
  | inl e ↦ rw (h, e) (h, le_itself x)
  | inr e ↦ elim (cases_Bool (is_lt (value_cmp a x))) [
    | inl f ↦ rw (h, e, f) (h, le_itself x)
    | inr f ↦ rw (h, e, f) (e, not_below a x f)
  ]
]

greater_one : (a x : Value) → (greater a x ≡ a) ⊎ (greater a x ≡ x)
greater_one a x = elim (cases_Bool (is_null x)) [
  | inl e ↦ inl (rw e refl)
  | inr e ↦ elim (cases_Bool (is_null a || is_lt (value_cmp a x))) [
    | inl f ↦ inr (rw (e, f) refl)
    | inr f ↦ inl (rw (e, f) refl)
  ]
]

greatest_le : (xs : List Value) (a : Value) → is_null a ≡ false → (is_null (fold greater a xs) ≡ false) × (is_at_most a (fold greater a xs) ≡ true)
greatest_le [] a h = (h, le_itself a)
greatest_le (x ∷ xs) a h =
    let one = greater_left a x h in
    let more = greatest_le xs (greater a x) one.0 in
    (more.0, le_trans a (greater a x) (fold greater (greater a x) xs) one.1 more.1)

greatest_within : (xs : List Value) (a v : Value) → is_null v ≡ false → Has xs v → (is_null (fold greater a xs) ≡ false) × (is_at_most v (fold greater a xs) ≡ true)
greatest_within [] a v h m = absurd m
greatest_within (x ∷ xs) a v h m = elim m [
  | inl e ↦ (
      let one = greater_right a x (ap is_null e ∙ h) in
      let more = greatest_le xs (greater a x) one.0 in
      (more.0, ap (λ y. is_at_most y (fold greater (greater a x) xs)) (sym e) ∙ le_trans x (greater a x) (fold greater (greater a x) xs) one.1 more.1)
      )
  | inr n ↦ greatest_within xs (greater a x) v h n
]

greatest_among : (xs : List Value) (a : Value) → (fold greater a xs ≡ a) ⊎ Has xs (fold greater a xs)
greatest_among [] a = inl refl
greatest_among (x ∷ xs) a = elim (greatest_among xs (greater a x)) [
  | inl e ↦ elim (greater_one a x) [
    | inl f ↦ inl (e ∙ f)
    | inr f ↦ inr (inl (sym (e ∙ f)))
  ]
  | inr m ↦ inr (inr m)
]

-- ---- NULLs

null_is : (v : Value) → is_null v ≡ true → v ≡ Null
null_is Null e = refl
null_is (Int n) e = absurd (cc)
null_is (Date n) e = absurd (cc)
null_is (Text s) e = absurd (cc)

null_above : (v : Value) → is_null v ≡ false → is_at_most Null v ≡ false
unfolding value_cmp
null_above Null e = absurd (cc)
null_above (Int n) e = refl
null_above (Date n) e = refl
null_above (Text s) e = refl

lesser_nulls : lesser Null Null ≡ Null
unfolding value_cmp
lesser_nulls = refl

all_nulls_least : (xs : List Value) → ((v : Value) → Has xs v → is_null v ≡ true) → fold lesser Null xs ≡ Null
all_nulls_least [] all = refl
all_nulls_least (x ∷ xs) all = ap (λ y. fold lesser (lesser Null y) xs) (null_is x (all x (inl refl))) ∙ ap (λ y. fold lesser y xs) lesser_nulls ∙ all_nulls_least xs (λ v m. all v (inr m))

all_nulls_greatest : (xs : List Value) → ((v : Value) → Has xs v → is_null v ≡ true) → fold greater Null xs ≡ Null
all_nulls_greatest [] all = refl
all_nulls_greatest (x ∷ xs) all = ap (λ y. fold greater (greater Null y) xs) (null_is x (all x (inl refl))) ∙ all_nulls_greatest xs (λ v m. all v (inr m))

abbrev counted : ℕ → Value → ℕ
counted n v = n + cond (is_null v) 1 0

counts_up : (xs : List Value) (n : ℕ) → n ≤ fold counted n xs
counts_up [] n = omega arith
counts_up (x ∷ xs) n = omega (arith, counts_up xs (counted n x))

one_at_most : (b : Bool) → cond b 1 0 ≤ 1
one_at_most true = omega arith
one_at_most false = omega arith

counts_at_most : (xs : List Value) (n : ℕ) → fold counted n xs ≤ n + length xs
counts_at_most [] n = omega arith
counts_at_most (x ∷ xs) n = omega (arith, counts_at_most xs (counted n x), one_at_most (is_null x))

some_null : (xs : List Value) (n : ℕ) (v : Value) → is_null v ≡ true → Has xs v → n < fold counted n xs
some_null [] n v h m = absurd m
some_null (x ∷ xs) n v h m = elim m [
  | inl e ↦ (let one : counted n x ≡ n + 1 = ap (λ b. n + cond b 1 0) (ap is_null e ∙ h) in omega (arith, one, counts_up xs (counted n x)))
  | inr k ↦ omega (arith, some_null xs (counted n x) v h k)
]

some_value : (xs : List Value) (n : ℕ) (v : Value) → is_null v ≡ false → Has xs v → fold counted n xs < n + length xs
some_value [] n v h m = absurd m
some_value (x ∷ xs) n v h m = elim m [
  | inl e ↦ (let none : counted n x ≡ n + 0 = ap (λ b. n + cond b 1 0) (ap is_null e ∙ h) in omega (arith, none, counts_at_most xs (counted n x)))
  | inr k ↦ omega (arith, some_value xs (counted n x) v h k, one_at_most (is_null x))
]

-- ---- zones

pub zone_in : (values : List Value) (v : Value) → Has values v → InSpan (zone_span (Some (zone_of values))) v
zone_in values v m = record {
  null = λ e. lt-ltb 0 (count_by is_null values) (some_null values 0 v e m);
  value = λ e.
      (let few : count_by is_null values < length values = omega (arith, some_value values 0 v e m) in
      rw (lt-ltb (count_by is_null values) (length values) few) (least_within values Null v m, (greatest_within values Null v e m).1));
}

least_there : (values : List Value) (v : Value) → is_null v ≡ false → Has values v → is_null (fold lesser Null values) ≡ false
least_there values v h m = elim (cases_Bool (is_null (fold lesser Null values))) [
  | inr e ↦ e
  | inl e ↦ absurd (false≢true (sym (null_above v h) ∙ ap (λ y. is_at_most y v) (sym (null_is (fold lesser Null values) e)) ∙ least_within values Null v m))
]

among : (values : List Value) (w : Value) → is_null w ≡ false → (w ≡ Null) ⊎ Has values w → Has values w
among values w h o = elim o [
  | inl e ↦ absurd (false≢true (sym h ∙ ap is_null e))
  | inr m ↦ m
]

pub zone_is : (values : List Value) → IsZoneOf values (zone_of values)
zone_is values = record {
  within = λ v c e. (let m = has_from values v c.0 c.1 c.2 in (least_within values Null v m, (greatest_within values Null v e m).1));
  least = λ v c e.
      (let there = least_there values v e (has_from values v c.0 c.1 c.2) in
      (has_to values (fold lesser Null values) (among values (fold lesser Null values) there (least_among values Null)), there));
  greatest = λ v c e.
      (let there = (greatest_within values Null v e (has_from values v c.0 c.1 c.2)).0 in
      (has_to values (fold greater Null values) (among values (fold greater Null values) there (greatest_among values Null)), there));
  none = λ all. (all_nulls_least values (λ v m. all v (has_to values v m)), all_nulls_greatest values (λ v m. all v (has_to values v m)));
  nulls = refl;
  rows = refl;
}
