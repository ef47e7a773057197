-- What the changes of marks mean: the mark of each session on each table afterwards, and what stays.
use Rattle.std.proofs.Common.{◌≡◌, ◌≢◌, ℕ, Bool, true, false, nat_eq, ◌&&◌, cond, ◌⊎◌, inl, inr, List, [], ◌∷◌, filter, find, Option, None, Some, refl, sym, ap, subst, ◌∙◌}
use Rattle.std.specs.Option.{option_map}
use Rattle.std.specs.List.{AllByRecursion}
use Rattle.std.specs.List.Sorted.{IsStrictlySortedBy}
use Rattle.std.specs.Ordering.{match_ordering, is_eq}
use Rattle.std.specs.declared.cmp.Ordering.TheVariants.{Less, Equal, Greater}
use Rattle.std.proofs.lemmas.Bool.{cases_eq, cases_Bool, eq-eqb, ne_eqb, eqb-true, and_from, and_parts, cond-true, cond-false, both_ways, not_from_true, not_from_false}
use Rattle.std.proofs.lemmas.List.Kept.{IsStrictlySortedBy-filter}
use Rattle.tt_marks.specs.declared.mark.Mark.{Mark}
use Rattle.tt_marks.specs.Marks.{mark_cmp, is_mark_of, mark_of, marks_on, IsMarks, is_of_other, other_exclusive_holder}
use Rattle.tt_marks.specs.Changes.{with_mark, unmarked, restored, released, CanRestore}
use Rattle.tt_marks.proofs.Searching.{mark_total, turned, is_mark_of-cmp}

-- ---- marks that tie
tied_parts : (m y : Mark) → mark_cmp m y ≡ Equal → (m.session ≡ y.session) × (m.table ≡ y.table)
tied_parts m y e =
    let both = and_parts _ _ (is_mark_of-cmp y m ∙ ap is_eq e) in
    (eqb-true m.session y.session both.0, eqb-true m.table y.table both.1)

pub is_mark_of_tied : (s t : ℕ) (m y : Mark) → mark_cmp m y ≡ Equal → is_mark_of s t m ≡ is_mark_of s t y
is_mark_of_tied s t m y e =
    let parts = tied_parts m y e in
    ap (λ a. nat_eq a s && nat_eq m.table t) parts.0 ∙ ap (λ a. nat_eq y.session s && nat_eq a t) parts.1

pub mark_parts : (s t : ℕ) (m : Mark) → is_mark_of s t m ≡ true → (m.session ≡ s) × (m.table ≡ t)
mark_parts s t m e = let both = and_parts _ _ e in (eqb-true m.session s both.0, eqb-true m.table t both.1)

both_tie : (s t : ℕ) (m y : Mark) → is_mark_of s t m ≡ true → is_mark_of s t y ≡ true → is_eq (mark_cmp m y) ≡ true
both_tie s t m y p q =
    let a = mark_parts s t m p in
    let b = mark_parts s t y q in
    sym (is_mark_of-cmp y m) ∙ and_from _ _ (eq-eqb m.session y.session (a.0 ∙ sym b.0)) (eq-eqb m.table y.table (a.1 ∙ sym b.1))

-- ---- order is kept
all_after : (m y : Mark) (ms : List Mark) → mark_cmp m y ≡ Less → AllByRecursion (λ z. mark_cmp y z ≡ Less) ms
    → AllByRecursion (λ z. mark_cmp m z ≡ Less) ms
all_after m y [] e a = tt
all_after m y (z ∷ ms) e a = (mark_total.trans m y z e a.0, all_after m y ms e a.1)

all_tied : (m y : Mark) (ms : List Mark) → mark_cmp m y ≡ Equal → AllByRecursion (λ z. mark_cmp y z ≡ Less) ms
    → AllByRecursion (λ z. mark_cmp m z ≡ Less) ms
all_tied m y [] e a = tt
all_tied m y (z ∷ ms) e a = (mark_total.congr m y z e ∙ a.0, all_tied m y ms e a.1)

all_below : (x m : Mark) (ms : List Mark) → mark_cmp x m ≡ Less → AllByRecursion (λ z. mark_cmp x z ≡ Less) ms
    → AllByRecursion (λ z. mark_cmp x z ≡ Less) (with_mark m ms)
all_below x m [] e a = (e, tt)
all_below x m (y ∷ ms) e a =
    elim (mark_cmp m y) as (λ r. AllByRecursion (λ z. mark_cmp x z ≡ Less) (match_ordering r (m ∷ y ∷ ms) (m ∷ ms) (y ∷ with_mark m ms))) [
      | Less ↦ (e, a)
      | Equal ↦ (e, a.1)
      | Greater ↦ (a.0, all_below x m ms e a.1)
    ]

pub sorted-with_mark : (m : Mark) (ms : List Mark) → IsStrictlySortedBy mark_cmp ms → IsStrictlySortedBy mark_cmp (with_mark m ms)
unfolding IsStrictlySortedBy
sorted-with_mark m [] s = (tt, tt)
sorted-with_mark m (y ∷ ms) s =
    elim (mark_cmp m y) as (λ r. mark_cmp m y ≡ r → IsStrictlySortedBy mark_cmp (match_ordering r (m ∷ y ∷ ms) (m ∷ ms) (y ∷ with_mark m ms))) [
      | Less ↦ λ e. ((e, all_after m y ms e s.0), s)
      | Equal ↦ λ e. (all_tied m y ms e s.0, s.1)
      | Greater ↦ λ e. (all_below y m ms (turned m y Greater e) s.0, sorted-with_mark m ms s.1)
    ] refl

-- ---- the mark of a session on a table, after a change
cond_same : (b : Bool) {A : Type 0} (x y z : A) → (b ≡ false → y ≡ z) → cond b x y ≡ cond b x z
cond_same true x y z h = refl
cond_same false x y z h = h refl

cond_swap : (a b : Bool) {A : Type 0} (x y z : A) → (a ≡ true → b ≡ true → ⊥) → cond b y (cond a x z) ≡ cond a x (cond b y z)
cond_swap true true x y z h = absurd (h refl refl)
cond_swap true false x y z h = refl
cond_swap false b x y z h = refl

find-with_mark : (s t : ℕ) (m : Mark) (ms : List Mark)
    → find (is_mark_of s t) (with_mark m ms) ≡ cond (is_mark_of s t m) (Some m) (find (is_mark_of s t) ms)
find-with_mark s t m [] = refl
find-with_mark s t m (y ∷ ms) =
    elim (mark_cmp m y) as (λ r. mark_cmp m y ≡ r
    → find (is_mark_of s t) (match_ordering r (m ∷ y ∷ ms) (m ∷ ms) (y ∷ with_mark m ms))
    ≡ cond (is_mark_of s t m) (Some m) (cond (is_mark_of s t y) (Some y) (find (is_mark_of s t) ms))) [
      | Less ↦ λ e. refl
      | Equal ↦ λ e.
          cond_same (is_mark_of s t m) (Some m) (find (is_mark_of s t) ms) (cond (is_mark_of s t y) (Some y) (find (is_mark_of s t) ms))
          (λ lacks. sym (cond-false (is_mark_of s t y) _ _ (sym (is_mark_of_tied s t m y e) ∙ lacks)))
      | Greater ↦ λ e.
          ap (λ r. cond (is_mark_of s t y) (Some y) r) (find-with_mark s t m ms)
          ∙ cond_swap (is_mark_of s t m) (is_mark_of s t y) (Some m) (Some y) (find (is_mark_of s t) ms)
          (λ p q. both_ways _ (ap is_eq e) (both_tie s t m y p q))
    ] refl

cond_map : (b : Bool) (m : Mark) (o : Option Mark)
    → option_map (λ mark. mark.exclusive) (cond b (Some m) o) ≡ cond b (Some m.exclusive) (option_map (λ mark. mark.exclusive) o)
cond_map true m o = refl
cond_map false m o = refl

-- each look-up after a mark was put
pub mark_of-with_mark : (s t : ℕ) (m : Mark) (ms : List Mark)
    → mark_of s t (with_mark m ms) ≡ cond (is_mark_of s t m) (Some m.exclusive) (mark_of s t ms)
mark_of-with_mark s t m ms = ap (option_map (λ mark. mark.exclusive)) (find-with_mark s t m ms) ∙ cond_map (is_mark_of s t m) m (find (is_mark_of s t) ms)

find-filter_kept : (p q : Mark → Bool) → ((m : Mark) → p m ≡ true → q m ≡ true) → (ms : List Mark) → find p (filter q ms) ≡ find p ms
find-filter_kept p q h [] = refl
find-filter_kept p q h (m ∷ ms) =
    elim (cases_Bool (q m)) [
      | inl holds ↦ ap (find p) (cond-true (q m) _ _ holds) ∙ ap (cond (p m) (Some m)) (find-filter_kept p q h ms)
      | inr lacks ↦
          let fails : p m ≡ false = elim (cases_Bool (p m)) [ inl is ↦ absurd (both_ways (q m) lacks (h m is)) | inr is ↦ is ] in
          ap (find p) (cond-false (q m) _ _ lacks) ∙ find-filter_kept p q h ms ∙ sym (cond-false (p m) _ _ fails)
    ]

find-filter_gone : (p q : Mark → Bool) → ((m : Mark) → p m ≡ true → q m ≡ false) → (ms : List Mark) → find p (filter q ms) ≡ None
find-filter_gone p q h [] = refl
find-filter_gone p q h (m ∷ ms) =
    elim (cases_Bool (q m)) [
      | inl holds ↦
          let fails : p m ≡ false = elim (cases_Bool (p m)) [ inl is ↦ absurd (both_ways (q m) (h m is) holds) | inr is ↦ is ] in
          ap (find p) (cond-true (q m) _ _ holds) ∙ cond-false (p m) _ _ fails ∙ find-filter_gone p q h ms
      | inr lacks ↦ ap (find p) (cond-false (q m) _ _ lacks) ∙ find-filter_gone p q h ms
    ]

pub mark_of-unmarked_own : (s t : ℕ) (ms : List Mark) → mark_of s t (unmarked s t ms) ≡ None
mark_of-unmarked_own s t ms =
    ap (option_map (λ mark. mark.exclusive)) (find-filter_gone (is_mark_of s t) _ (λ m is. not_from_true _ is) ms)

pub mark_of-unmarked_other : (s t s' t' : ℕ) (ms : List Mark) → (s ≡ s' → t ≡ t' → ⊥) → mark_of s t (unmarked s' t' ms) ≡ mark_of s t ms
mark_of-unmarked_other s t s' t' ms apart =
    ap (option_map (λ mark. mark.exclusive))
    (find-filter_kept (is_mark_of s t) _
    (λ m is. let parts = mark_parts s t m is in
    not_from_false _ (elim (cases_Bool (is_mark_of s' t' m)) [
      | inl too ↦ let others = mark_parts s' t' m too in absurd (apart (sym parts.0 ∙ others.0) (sym parts.1 ∙ others.1))
      | inr lacks ↦ lacks
    ])) ms)

pub mark_of-released_own : (s t : ℕ) (ms : List Mark) → mark_of s t (released s ms) ≡ None
mark_of-released_own s t ms =
    ap (option_map (λ mark. mark.exclusive))
    (find-filter_gone (is_mark_of s t) _ (λ m is. not_from_true _ (eq-eqb m.session s (mark_parts s t m is).0)) ms)

pub mark_of-released_other : (s t s' : ℕ) (ms : List Mark) → s ≢ s' → mark_of s t (released s' ms) ≡ mark_of s t ms
mark_of-released_other s t s' ms apart =
    ap (option_map (λ mark. mark.exclusive))
    (find-filter_kept (is_mark_of s t) _
    (λ m is. not_from_false _ (ne_eqb m.session s' (λ e. apart (sym (mark_parts s t m is).0 ∙ e)))) ms)

-- ---- no two exclusive marks on one table
pub IsMarks-none : IsMarks []
unfolding IsStrictlySortedBy
IsMarks-none = record { ordered = tt; alone = λ t a b p q. absurd (cc) }

some_false : (b : Bool) → b ≡ false → Some b ≡ Some true → ⊥
some_false b e p = cc

-- marks that are exclusive afterwards were so before
IsMarks-weaker : (old new : List Mark) → IsMarks old → IsStrictlySortedBy mark_cmp new
    → ((s t : ℕ) → mark_of s t new ≡ Some true → mark_of s t old ≡ Some true) → IsMarks new
IsMarks-weaker old new is ordered before =
    record { ordered = ordered; alone = λ t a b p q. is.alone t a b (before a t p) (before b t q) }

pub IsMarks-with_shared : (m : Mark) (ms : List Mark) → IsMarks ms → m.exclusive ≡ false → IsMarks (with_mark m ms)
IsMarks-with_shared m ms is lacks =
    IsMarks-weaker ms (with_mark m ms) is (sorted-with_mark m ms is.ordered)
    (λ s t p. elim (cases_Bool (is_mark_of s t m)) [
      | inl holds ↦
          absurd (some_false m.exclusive lacks (sym (cond-true (is_mark_of s t m) (Some m.exclusive) (mark_of s t ms) holds) ∙ sym (mark_of-with_mark s t m ms) ∙ p))
      | inr other ↦ sym (cond-false (is_mark_of s t m) (Some m.exclusive) (mark_of s t ms) other) ∙ sym (mark_of-with_mark s t m ms) ∙ p
    ])

pub IsMarks-with_same : (m : Mark) (ms : List Mark) → IsMarks ms → mark_of m.session m.table ms ≡ Some true → IsMarks (with_mark m ms)
IsMarks-with_same m ms is had =
    IsMarks-weaker ms (with_mark m ms) is (sorted-with_mark m ms is.ordered)
    (λ s t p. elim (cases_Bool (is_mark_of s t m)) [
      | inl holds ↦
          let parts = mark_parts s t m holds in
          ap (λ a. mark_of a t ms) (sym parts.0) ∙ ap (λ a. mark_of m.session a ms) (sym parts.1) ∙ had
      | inr other ↦ sym (cond-false (is_mark_of s t m) (Some m.exclusive) (mark_of s t ms) other) ∙ sym (mark_of-with_mark s t m ms) ∙ p
    ])

cond_none : (b : Bool) (m : Mark) (o : Option Mark) → cond b (Some m) o ≡ None → (b ≡ false) × (o ≡ None)
cond_none true m o e = absurd (cc)
cond_none false m o e = (refl, e)

map_none : (o : Option Mark) → option_map (λ mark. mark.session) o ≡ None → o ≡ None
map_none None e = refl
map_none (Some m) e = absurd (cc)

-- no other session has an exclusive mark, where the search for one finds none
no_other : (s t a : ℕ) (ms : List Mark) → find (λ m. m.exclusive && is_of_other s m) (marks_on t ms) ≡ None
    → mark_of a t ms ≡ Some true → a ≢ s → ⊥
no_other s t a [] none p apart = cc
no_other s t a (m ∷ ms) none p apart =
    elim (cases_Bool (is_mark_of a t m)) [
      | inl holds ↦
          let parts = mark_parts a t m holds in
          let here : marks_on t (m ∷ ms) ≡ m ∷ marks_on t ms = cond-true (nat_eq m.table t) _ _ (eq-eqb m.table t parts.1) in
          let first : Some m.exclusive ≡ Some true = ap (option_map (λ mark. mark.exclusive)) (sym (cond-true (is_mark_of a t m) (Some m) (find (is_mark_of a t) ms) holds)) ∙ p in
          let exclusive : m.exclusive ≡ true = cc in
          let other : is_of_other s m ≡ true = not_from_false _ (ne_eqb m.session s (λ e. apart (sym parts.0 ∙ e))) in
          both_ways _ (cond_none _ m _ (sym (ap (find (λ x. x.exclusive && is_of_other s x)) here) ∙ none)).0 (and_from _ _ exclusive other)
      | inr lacks ↦
          let later : mark_of a t ms ≡ Some true = ap (option_map (λ mark. mark.exclusive)) (sym (cond-false (is_mark_of a t m) (Some m) (find (is_mark_of a t) ms) lacks)) ∙ p in
          elim (cases_Bool (nat_eq m.table t)) [
            | inl on ↦
                no_other s t a ms
                (cond_none _ m _ (sym (ap (find (λ x. x.exclusive && is_of_other s x)) (cond-true (nat_eq m.table t) (m ∷ marks_on t ms) (marks_on t ms) on)) ∙ none)).1
                later apart
            | inr off ↦
                no_other s t a ms
                (sym (ap (find (λ x. x.exclusive && is_of_other s x)) (cond-false (nat_eq m.table t) (m ∷ marks_on t ms) (marks_on t ms) off)) ∙ none)
                later apart
          ]
    ]

pub IsMarks-with_exclusive : (m : Mark) (ms : List Mark) → IsMarks ms → other_exclusive_holder m.session m.table ms ≡ None → IsMarks (with_mark m ms)
IsMarks-with_exclusive m ms is free = record {
  ordered = sorted-with_mark m ms is.ordered;
  alone = λ t a b p q.
      let P : ℕ → Type 0 = λ c. (c ≡ m.session) ⊎ (mark_of c t ms ≡ Some true) in
      let split : (c : ℕ) → mark_of c t (with_mark m ms) ≡ Some true → (c ≡ m.session) × (t ≡ m.table) ⊎ (mark_of c t ms ≡ Some true) =
      λ c e. elim (cases_Bool (is_mark_of c t m)) [
        | inl holds ↦ let parts = mark_parts c t m holds in inl (sym parts.0, sym parts.1)
        | inr lacks ↦ inr (sym (cond-false (is_mark_of c t m) (Some m.exclusive) (mark_of c t ms) lacks) ∙ sym (mark_of-with_mark c t m ms) ∙ e)
      ] in
      let only : (c : ℕ) → t ≡ m.table → mark_of c t ms ≡ Some true → c ≡ m.session =
      λ c at e. elim (cases_eq c m.session) [
        | inl same ↦ same
        | inr apart ↦
            absurd (no_other m.session m.table c ms (map_none _ free) (ap (λ k. mark_of c k ms) (sym at) ∙ e) apart)
      ] in
      elim (split a p) [
        | inl x ↦ elim (split b q) [ inl y ↦ x.0 ∙ sym y.0 | inr y ↦ x.0 ∙ sym (only b x.1 y) ]
        | inr x ↦ elim (split b q) [ inl y ↦ only a y.1 x ∙ sym y.0 | inr y ↦ is.alone t a b x y ]
      ];
}

pub IsMarks-filter : (p : Mark → Bool) (ms : List Mark) → IsMarks ms → ((s t : ℕ) → mark_of s t (filter p ms) ≡ Some true → mark_of s t ms ≡ Some true)
    → IsMarks (filter p ms)
IsMarks-filter p ms is before = IsMarks-weaker ms (filter p ms) is (IsStrictlySortedBy-filter mark_cmp p ms is.ordered) before

pub IsMarks-unmarked : (s t : ℕ) (ms : List Mark) → IsMarks ms → IsMarks (unmarked s t ms)
IsMarks-unmarked s t ms is =
    IsMarks-filter _ ms is (λ a b p. elim (cases_eq a s) [
      | inl e ↦ elim (cases_eq b t) [
        | inl f ↦
            absurd (let none : mark_of a b (unmarked s t ms) ≡ None = subst (λ k. mark_of k b (unmarked s t ms) ≡ None) (sym e)
            (subst (λ k. mark_of s k (unmarked s t ms) ≡ None) (sym f) (mark_of-unmarked_own s t ms)) in cc)
        | inr n ↦ sym (mark_of-unmarked_other a b s t ms (λ x y. n y)) ∙ p
      ]
      | inr n ↦ sym (mark_of-unmarked_other a b s t ms (λ x y. n x)) ∙ p
    ])

pub IsMarks-released : (s : ℕ) (ms : List Mark) → IsMarks ms → IsMarks (released s ms)
IsMarks-released s ms is =
    IsMarks-filter _ ms is (λ a b p. elim (cases_eq a s) [
      | inl e ↦
          absurd (let none : mark_of a b (released s ms) ≡ None = subst (λ k. mark_of k b (released s ms) ≡ None) (sym e) (mark_of-released_own s b ms) in cc)
      | inr n ↦ sym (mark_of-released_other a b s ms n) ∙ p
    ])

pub IsMarks-restored : (s t : ℕ) (before : Option Bool) (ms : List Mark) → CanRestore s t before ms → IsMarks ms → IsMarks (restored s t before ms)
IsMarks-restored s t None ms can is = IsMarks-unmarked s t ms is
IsMarks-restored s t (Some true) ms can is = IsMarks-with_same (record { session = s; table = t; exclusive = true }) ms is can
IsMarks-restored s t (Some false) ms can is = IsMarks-with_shared (record { session = s; table = t; exclusive = false }) ms is refl
