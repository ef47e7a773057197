-- Marks in order: where one stands, and what that says of the lists that the calls give.
use Rattle.std.proofs.Common.{◌≡◌, ◌≢◌, ℕ, zero, suc, ◌+◌, ◌-◌, ◌<◌, ◌≤◌, Bool, true, false, nat_eq, nat_lt, nat_le, not, ◌&&◌, inl, inr, List, [], ◌∷◌, ◌++◌, length, get_or, set, take, drop, filter, find, slice_get, None, Some, Result, Ok, Err, IfOk, IfErr, refl, sym, ap, ◌∙◌, arith}
use Rattle.std.specs.Option.{option_map}
use Rattle.std.specs.List.{insert, remove}
use Rattle.std.specs.List.Sorted.{IsStrictlySortedBy, IsSearchInRange, IsBinarySearchResult, IsNonDecreasingBy, IsPartitionPoint}
use Rattle.std.specs.Ordering.{nat_cmp, ordering_then, ordering_reverse, match_ordering, is_eq, is_lt, MatchOrdering}
use Rattle.std.specs.declared.cmp.Ordering.{Ordering}
use Rattle.std.specs.declared.cmp.Ordering.TheVariants.{Less, Equal, Greater}
use Rattle.std.specs.Cmp.{IsTotalOrder, alike_right, on_total, ranked}
use Rattle.std.proofs.lemmas.Cmp.{then_total, nat_cmp_total}
use Rattle.std.proofs.lemmas.Bool.{cases_eq, cases_lt, eq-eqb, ne_eqb, and_left, and_right, and_from, cond-true, cond-false, ltb-true, ltb-false, leb-true, leb-false, not_from_true, not_from_false}
use Rattle.std.proofs.lemmas.List.{get_or-take, get_or-drop, take-append-drop, append-nil, length-take, length-drop}
use Rattle.std.proofs.lemmas.List.Elements.{filter-append}
use Rattle.std.proofs.lemmas.List.Folds.{find_at}
use Rattle.std.proofs.lemmas.List.Sums.{position_or_len_is}
use Rattle.std.proofs.lemmas.List.Sorted.{searchable_from_sorted}
use Rattle.std.proofs.lemmas.Option.{slice_get-get_or, slice_get_past}
use Rattle.std.proofs.lemmas.Map.Keys.{Less-from_sorted, sorted_tail}
use Rattle.tt_marks.specs.declared.mark.Mark.{Mark}
use Rattle.tt_marks.specs.Marks.{mark_cmp, is_mark_of, mark_of, marks_on}
use Rattle.tt_marks.specs.Changes.{with_mark, unmarked}
use Rattle.tt_marks.specs.Search.{IsPlaceOf, IsGapFor}

pub mark_total : IsTotalOrder mark_cmp
mark_total = then_total (on_total (λ (mark : Mark). mark.table) nat_cmp_total) (on_total (λ (mark : Mark). mark.session) nat_cmp_total)

pub turned : (a b : Mark) (r : Ordering) → mark_cmp a b ≡ r → mark_cmp b a ≡ ordering_reverse r
turned a b r e = mark_total.antisymm b a ∙ ap ordering_reverse e

tests_by : (r s : Ordering) (a b c d : ℕ) → MatchOrdering r (c < d) (c ≡ d) (d < c) → MatchOrdering s (a < b) (a ≡ b) (b < a)
    → (nat_eq a b && nat_eq c d) ≡ is_eq (ordering_then r s)
tests_by Less s a b c d h k = and_right (nat_eq a b) _ (ne_eqb c d (λ e. absurd (omega arith)))
tests_by Greater s a b c d h k = and_right (nat_eq a b) _ (ne_eqb c d (λ e. absurd (omega arith)))
tests_by Equal Less a b c d h k = and_left _ (nat_eq c d) (ne_eqb a b (λ e. absurd (omega arith)))
tests_by Equal Greater a b c d h k = and_left _ (nat_eq c d) (ne_eqb a b (λ e. absurd (omega arith)))
tests_by Equal Equal a b c d h k = and_from _ _ (eq-eqb a b k) (eq-eqb c d h)

-- a mark is of a session and a table where it ties with another of these
pub is_mark_of-cmp : (wanted mark : Mark) → is_mark_of wanted.session wanted.table mark ≡ is_eq (mark_cmp mark wanted)
is_mark_of-cmp w m =
    tests_by (nat_cmp m.table w.table) (nat_cmp m.session w.session) m.session w.session m.table w.table
    (ranked m.table w.table _ refl) (ranked m.session w.session _ refl)

-- ---- what a search by halving answers
sorted_by_test : (ms : List Mark) → IsStrictlySortedBy mark_cmp ms → (k : ℕ) (d : Mark) → 0 ≤ k → k + 1 < length ms
    → is_lt (mark_cmp (get_or ms (k + 1) d) (get_or ms k d)) ≡ false
sorted_by_test ms s k d z h = ap is_lt (turned (get_or ms k d) (get_or ms (k + 1) d) Less (Less-from_sorted mark_cmp ms k (k + 1) d s (omega arith) h))

pub place_found : (w : Mark) (ms : List Mark) (r : Result ℕ ℕ) → IsSearchInRange r (length ms)
    → IsBinarySearchResult (λ m. mark_cmp m w) ms r → IfOk r (IsPlaceOf w ms)
place_found w ms (Ok i) bound place = record { within = bound; ties = place }
place_found w ms (Err i) bound place = tt

pub gap_found : (w : Mark) (ms : List Mark) (r : Result ℕ ℕ) → IsStrictlySortedBy mark_cmp ms → IsSearchInRange r (length ms)
    → IsBinarySearchResult (λ m. mark_cmp m w) ms r → IfErr r (IsGapFor w ms)
gap_found w ms (Ok i) s bound place = tt
gap_found w ms (Err i) s bound place =
    let parts = place (searchable_from_sorted mark_total (λ m. m) ms w (sorted_by_test ms s)) in
    record { within = bound; front = λ k d h. parts.0 k d (omega arith) h; back = λ k d a h. parts.1 k d a h }

-- ---- which marks are of the wanted session and table
pub place_is : (w : Mark) (ms : List Mark) (i : ℕ) → IsPlaceOf w ms i → (d : Mark) → is_mark_of w.session w.table (get_or ms i d) ≡ true
place_is w ms i place d = is_mark_of-cmp w (get_or ms i d) ∙ ap is_eq (place.ties d)

pub others_are_not : (w : Mark) (ms : List Mark) (i : ℕ) → IsStrictlySortedBy mark_cmp ms → IsPlaceOf w ms i
    → (k : ℕ) (d : Mark) → k < length ms → k ≢ i → is_mark_of w.session w.table (get_or ms k d) ≡ false
others_are_not w ms i s place k d h n =
    elim (cases_lt k i) [
      | inl below ↦
          let less : mark_cmp (get_or ms k d) (get_or ms i d) ≡ Less = Less-from_sorted mark_cmp ms k i d s below place.within in
          is_mark_of-cmp w (get_or ms k d)
          ∙ ap is_eq (sym (alike_right mark_total (get_or ms i d) w (get_or ms k d) (place.ties d)) ∙ less)
      | inr above ↦
          let less : mark_cmp (get_or ms i d) (get_or ms k d) ≡ Less = Less-from_sorted mark_cmp ms i k d s (omega arith) h in
          is_mark_of-cmp w (get_or ms k d)
          ∙ ap is_eq (turned w (get_or ms k d) Less (sym (mark_total.congr (get_or ms i d) w (get_or ms k d) (place.ties d)) ∙ less))
    ]

pub none_are : (w : Mark) (ms : List Mark) (i : ℕ) → IsGapFor w ms i
    → (k : ℕ) (d : Mark) → k < length ms → is_mark_of w.session w.table (get_or ms k d) ≡ false
none_are w ms i gap k d h =
    elim (cases_lt k i) [
      | inl below ↦ is_mark_of-cmp w (get_or ms k d) ∙ ap is_eq (gap.front k d below)
      | inr above ↦ is_mark_of-cmp w (get_or ms k d) ∙ ap is_eq (gap.back k d above h)
    ]

-- ---- `find` and `filter` by places
find_first : (p : Mark → Bool) (ms : List Mark) (i : ℕ) (d : Mark) → i < length ms → p (get_or ms i d) ≡ true
    → ((k : ℕ) → k < i → p (get_or ms k d) ≡ false) → find p ms ≡ Some (get_or ms i d)
find_first p ms i d h at before =
    find_at p ms ∙ ap (slice_get ms) (position_or_len_is p ms i d (omega arith) before (λ _. at)) ∙ slice_get-get_or ms i d h

find_nothing : (p : Mark → Bool) (ms : List Mark) (d : Mark) → ((k : ℕ) → k < length ms → p (get_or ms k d) ≡ false) → find p ms ≡ None
find_nothing p ms d none =
    find_at p ms ∙ ap (slice_get ms) (position_or_len_is p ms (length ms) d (omega arith) none (λ h. absurd (omega arith)))
    ∙ slice_get_past ms (length ms) (omega arith)

filter_keeps : (p : Mark → Bool) (ms : List Mark) → ((k : ℕ) (d : Mark) → k < length ms → p (get_or ms k d) ≡ true) → filter p ms ≡ ms
filter_keeps p [] h = refl
filter_keeps p (m ∷ ms) h =
    cond-true (p m) _ _ (h 0 m (omega arith)) ∙ ap (λ r. m ∷ r) (filter_keeps p ms (λ k d b. h (suc k) d (omega arith)))

filter_none : (p : Mark → Bool) (ms : List Mark) → ((k : ℕ) (d : Mark) → k < length ms → p (get_or ms k d) ≡ false) → filter p ms ≡ []
filter_none p [] h = refl
filter_none p (m ∷ ms) h = cond-false (p m) _ _ (h 0 m (omega arith)) ∙ filter_none p ms (λ k d b. h (suc k) d (omega arith))

filter_all_but : (p : Mark → Bool) (ms : List Mark) (i : ℕ) → i < length ms → ((d : Mark) → p (get_or ms i d) ≡ false)
    → ((k : ℕ) (d : Mark) → k < length ms → k ≢ i → p (get_or ms k d) ≡ true) → filter p ms ≡ remove ms i
filter_all_but p [] i h at others = absurd (omega arith)
filter_all_but p (m ∷ ms) zero h at others =
    cond-false (p m) _ _ (at m) ∙ filter_keeps p ms (λ k d b. others (suc k) d (omega arith) (λ e. absurd (omega arith)))
filter_all_but p (m ∷ ms) (suc i) h at others =
    cond-true (p m) _ _ (others 0 m (omega arith) (λ e. absurd (omega arith)))
    ∙ ap (λ r. m ∷ r) (filter_all_but p ms i (omega arith) at (λ k d b n. others (suc k) d (omega arith) (λ e. n (omega arith))))

-- ---- what the calls give
pub mark_of_place : (w : Mark) (ms : List Mark) (i : ℕ) (d : Mark) → IsStrictlySortedBy mark_cmp ms → IsPlaceOf w ms i
    → mark_of w.session w.table ms ≡ Some (get_or ms i d).exclusive
mark_of_place w ms i d s place =
    ap (option_map (λ m. m.exclusive))
    (find_first (is_mark_of w.session w.table) ms i d place.within (place_is w ms i place d)
    (λ k h. others_are_not w ms i s place k d (let within = place.within in omega arith) (λ e. absurd (omega arith))))

pub mark_of_gap : (w : Mark) (ms : List Mark) (i : ℕ) → IsGapFor w ms i → mark_of w.session w.table ms ≡ None
mark_of_gap w ms i gap =
    ap (option_map (λ m. m.exclusive)) (find_nothing (is_mark_of w.session w.table) ms w (λ k h. none_are w ms i gap k w h))

pub with_mark_place : (w : Mark) (ms : List Mark) (i : ℕ) → IsStrictlySortedBy mark_cmp ms → i < length ms
    → ((d : Mark) → mark_cmp (get_or ms i d) w ≡ Equal) → with_mark w ms ≡ set ms i w
with_mark_place w [] i s h ties = absurd (omega arith)
with_mark_place w (m ∷ ms) zero s h ties =
    ap (λ r. match_ordering r (w ∷ m ∷ ms) (w ∷ ms) (m ∷ with_mark w ms)) (turned m w Equal (ties m))
with_mark_place w (m ∷ ms) (suc i) s h ties =
    let less : mark_cmp m (get_or ms i m) ≡ Less = Less-from_sorted mark_cmp (m ∷ ms) 0 (suc i) m s (omega arith) h in
    let before : mark_cmp m w ≡ Less = sym (alike_right mark_total (get_or ms i m) w m (ties m)) ∙ less in
    ap (λ r. match_ordering r (w ∷ m ∷ ms) (w ∷ ms) (m ∷ with_mark w ms)) (turned m w Less before)
    ∙ ap (λ r. m ∷ r) (with_mark_place w ms i (sorted_tail mark_cmp m ms s) (omega arith) ties)

pub with_mark_gap : (w : Mark) (ms : List Mark) (i : ℕ) → i ≤ length ms
    → ((k : ℕ) (d : Mark) → k < i → mark_cmp (get_or ms k d) w ≡ Less)
    → ((k : ℕ) (d : Mark) → i ≤ k → k < length ms → mark_cmp (get_or ms k d) w ≡ Greater) → with_mark w ms ≡ insert ms i w
with_mark_gap w [] zero h front back = refl
with_mark_gap w [] (suc i) h front back = absurd (omega arith)
with_mark_gap w (m ∷ ms) zero h front back =
    ap (λ r. match_ordering r (w ∷ m ∷ ms) (w ∷ ms) (m ∷ with_mark w ms)) (turned m w Greater (back 0 m (omega arith) (omega arith)))
with_mark_gap w (m ∷ ms) (suc i) h front back =
    ap (λ r. match_ordering r (w ∷ m ∷ ms) (w ∷ ms) (m ∷ with_mark w ms)) (turned m w Less (front 0 m (omega arith)))
    ∙ ap (λ r. m ∷ r)
    (with_mark_gap w ms i (omega arith) (λ k d b. front (suc k) d (omega arith)) (λ k d a b. back (suc k) d (omega arith) (omega arith)))

pub unmarked_place : (w : Mark) (ms : List Mark) (i : ℕ) → IsStrictlySortedBy mark_cmp ms → IsPlaceOf w ms i
    → unmarked w.session w.table ms ≡ remove ms i
unmarked_place w ms i s place =
    filter_all_but (λ m. not (is_mark_of w.session w.table m)) ms i place.within (λ d. not_from_true _ (place_is w ms i place d))
    (λ k d h n. not_from_false _ (others_are_not w ms i s place k d h n))

pub unmarked_gap : (w : Mark) (ms : List Mark) (i : ℕ) → IsGapFor w ms i → unmarked w.session w.table ms ≡ ms
unmarked_gap w ms i gap =
    filter_keeps (λ m. not (is_mark_of w.session w.table m)) ms (λ k d h. not_from_false _ (none_are w ms i gap k d h))

-- ---- the marks on a table
table_le : (o r : Ordering) (a b : ℕ) → MatchOrdering o (a < b) (a ≡ b) (b < a) → ordering_then o r ≡ Less → a ≤ b
table_le Less r a b h e = omega arith
table_le Equal r a b h e = omega arith
table_le Greater r a b h e = absurd (cc)

pub tables_rise : (ms : List Mark) → IsStrictlySortedBy mark_cmp ms → IsNonDecreasingBy (λ m. m.table) ms
tables_rise ms s i j d le h =
    elim (cases_eq i j) [
      | inl e ↦ let same : (get_or ms i d).table ≡ (get_or ms j d).table = ap (λ k. (get_or ms k d).table) e in omega arith
      | inr n ↦
          table_le (nat_cmp (get_or ms i d).table (get_or ms j d).table) (nat_cmp (get_or ms i d).session (get_or ms j d).session)
          (get_or ms i d).table (get_or ms j d).table (ranked (get_or ms i d).table (get_or ms j d).table _ refl) (Less-from_sorted mark_cmp ms i j d s (omega arith) h)
    ]

pub marks_on_parts : (t : ℕ) (ms : List Mark) (i j : ℕ) → i ≤ length ms → j ≤ length (drop i ms)
    → IsPartitionPoint (λ m. nat_lt m.table t ≡ true) (λ m. nat_lt m.table t ≡ false) ms i
    → IsPartitionPoint (λ m. nat_le m.table t ≡ true) (λ m. nat_le m.table t ≡ false) (drop i ms) j
    → take j (drop i ms) ≡ marks_on t ms
marks_on_parts t ms i j hi hj first second =
    let rest = drop i ms in
    let on : Mark → Bool = λ m. nat_eq m.table t in
    let long : length rest ≡ length ms - i = length-drop i ms in
    let front : filter on (take i ms) ≡ [] =
    filter_none on (take i ms) (λ k d h.
    let short : k < i = omega (arith, length-take i ms) in
    let below : (get_or ms k d).table < t = ltb-true _ _ (first.0 k d (omega arith) short) in
    ap on (get_or-take i ms k d short) ∙ ne_eqb (get_or ms k d).table t (λ e. absurd (omega arith))) in
    let middle : filter on (take j rest) ≡ take j rest =
    filter_keeps on (take j rest) (λ k d h.
    let short : k < j = omega (arith, length-take j rest) in
    let up : t ≤ (get_or ms (i + k) d).table = ltb-false _ _ (first.1 (i + k) d (omega arith) (omega arith)) in
    let down : (get_or rest k d).table ≤ t = leb-true _ _ (second.0 k d (omega arith) short) in
    let same : (get_or rest k d).table ≡ (get_or ms (i + k) d).table = ap (λ m. m.table) (get_or-drop i ms k d) in
    ap on (get_or-take j rest k d short) ∙ eq-eqb (get_or rest k d).table t (omega arith)) in
    let back : filter on (drop j rest) ≡ [] =
    filter_none on (drop j rest) (λ k d h.
    let short : j + k < length rest = omega (arith, length-drop j rest) in
    let above : t < (get_or rest (j + k) d).table = leb-false _ _ (second.1 (j + k) d (omega arith) short) in
    ap on (get_or-drop j rest k d) ∙ ne_eqb (get_or rest (j + k) d).table t (λ e. absurd (omega arith))) in
    sym (ap (filter on) (sym (take-append-drop i ms)) ∙ filter-append on (take i ms) rest ∙ ap (λ r. r ++ filter on rest) front
    ∙ ap (filter on) (sym (take-append-drop j rest)) ∙ filter-append on (take j rest) (drop j rest)
    ∙ ap (λ r. filter on (take j rest) ++ r) back ∙ append-nil (filter on (take j rest)) ∙ middle)
