-- Bags are sorted, have the copies that were put in, and are told apart by them.
use Rattle.std.proofs.Common.{◌<◌, suc, ◌⊎◌, inl, inr, append_assoc, length, get_or, ◌≡◌, ℕ, ◌+◌, ◌-◌, ◌≤◌, Bool, true, false, cond, List, [], ◌∷◌, ◌++◌, refl, ap, sym, subst, ◌∙◌, arith, All}
use Rattle.std.specs.declared.cmp.Ordering.{Ordering}
use Rattle.std.specs.declared.cmp.Ordering.TheVariants.{Less, Equal, Greater}
use Rattle.std.specs.Cmp.{upto, tied_itself, tied_back}
use Rattle.std.specs.Ordering.{is_eq, is_gt, is_lt, ordering_reverse}
use Rattle.std.proofs.lemmas.List.{nil_from_length}
use Rattle.std.proofs.lemmas.List.Sums.{sum_by-cons, sum_by-append}
use Rattle.std.specs.List.Sorted.{IsPermutation, IsSorted}
use Rattle.std.proofs.lemmas.List.Sorted.{sorted_far, ranks_by, sum_by-IsPermutation}
use Rattle.std.proofs.lemmas.List.Elements.{All-cons, All-head, All-tail, All-append}
use Rattle.tt_value.specs.values.Order.{row_cmp, is_same_row, is_above}
use Rattle.tt_value.specs.values.TotalOrder.{row_total}
use Rattle.tt_value.proofs.values.Ties.{row_same}
use Rattle.tt_value.specs.values.Bags.{IsLeast, IsBag, insert_row, bag_of, copies_of, bag_plus, without_one, bag_minus}
use Rattle.tt_value.specs.declared.value.Row.{Row}

-- What the order says of two rows.
tie_by : (r s : Ordering) → r ≡ ordering_reverse s → is_gt r ≡ false → is_gt s ≡ false → r ≡ Equal
tie_by Less Less e p q = cc
tie_by Less Equal e p q = cc
tie_by Less Greater e p q = cc
tie_by Equal s e p q = refl
tie_by Greater s e p q = cc

one_way_by : (r s : Ordering) → r ≡ ordering_reverse s → is_gt r ≡ true → is_gt s ≡ false
one_way_by Less s e p = cc
one_way_by Equal s e p = cc
one_way_by Greater Less e p = refl
one_way_by Greater Equal e p = cc
one_way_by Greater Greater e p = cc

apart_by : (r : Ordering) → is_gt r ≡ true → is_eq r ≡ false
apart_by Less p = cc
apart_by Equal p = cc
apart_by Greater p = refl

equal_by : (r : Ordering) → is_eq r ≡ true → r ≡ Equal
equal_by Less p = cc
equal_by Equal p = refl
equal_by Greater p = cc

not_above_by : (r : Ordering) → is_eq r ≡ true → is_gt r ≡ false
not_above_by Less p = refl
not_above_by Equal p = refl
not_above_by Greater p = cc

pub neither_above : (a b : Row) → is_above a b ≡ false → is_above b a ≡ false → a ≡ b
neither_above a b p q = row_same a b (tie_by (row_cmp a b) (row_cmp b a) (row_total.antisymm a b) p q)

pub above_one_way : (a b : Row) → is_above a b ≡ true → is_above b a ≡ false
above_one_way a b p = one_way_by (row_cmp a b) (row_cmp b a) (row_total.antisymm a b) p

pub not_above_chain : (a b c : Row) → is_above a b ≡ false → is_above b c ≡ false → is_above a c ≡ false
not_above_chain a b c p q = upto row_total a b c p q

pub same_itself : (a : Row) → is_same_row a a ≡ true
same_itself a = ap is_eq (tied_itself row_total a)

pub same_is : (a b : Row) → is_same_row a b ≡ true → a ≡ b
same_is a b p = row_same a b (equal_by (row_cmp a b) p)

pub above_not_same : (a b : Row) → is_above a b ≡ true → is_same_row a b ≡ false
above_not_same a b p = apart_by (row_cmp a b) p

pub same_not_above : (a b : Row) → is_same_row a b ≡ true → is_above a b ≡ false
same_not_above a b p = not_above_by (row_cmp a b) p

-- What stands after none of a list.
pub IsLeast-weaker : (a b : Row) (rows : List Row) → is_above a b ≡ false → IsLeast b rows → IsLeast a rows
IsLeast-weaker a b [] p h = tt
IsLeast-weaker a b (r ∷ rows) p h = (not_above_chain a b r p h.0, IsLeast-weaker a b rows p h.1)

pub IsLeast-append : (a : Row) (xs ys : List Row) → IsLeast a xs → IsLeast a ys → IsLeast a (xs ++ ys)
IsLeast-append a [] ys h k = k
IsLeast-append a (x ∷ xs) ys h k = (h.0, IsLeast-append a xs ys h.1 k)

IsLeast-insert_by : (b : Bool) (a x r : Row) (rows : List Row) → is_above a x ≡ false → is_above a r ≡ false → IsLeast a rows → IsLeast a (insert_row x rows) → IsLeast a (cond b (r ∷ insert_row x rows) (x ∷ r ∷ rows))
IsLeast-insert_by true a x r rows p q h k = (q, k)
IsLeast-insert_by false a x r rows p q h k = (p, (q, h))

pub IsLeast-insert_row : (a x : Row) (rows : List Row) → is_above a x ≡ false → IsLeast a rows → IsLeast a (insert_row x rows)
IsLeast-insert_row a x [] p h = (p, tt)
IsLeast-insert_row a x (r ∷ rows) p h = IsLeast-insert_by (is_above x r) a x r rows p h.0 h.1 (IsLeast-insert_row a x rows p h.1)

pub IsLeast-bag_of : (a : Row) (rows : List Row) → IsLeast a rows → IsLeast a (bag_of rows)
IsLeast-bag_of a [] h = tt
IsLeast-bag_of a (r ∷ rows) h = IsLeast-insert_row a r (bag_of rows) h.0 (IsLeast-bag_of a rows h.1)

IsLeast-without_by : (b : Bool) (a x r : Row) (rows : List Row) → is_above a r ≡ false → IsLeast a rows → IsLeast a (without_one x rows) → IsLeast a (cond b rows (r ∷ without_one x rows))
IsLeast-without_by true a x r rows p h k = h
IsLeast-without_by false a x r rows p h k = (p, k)

pub IsLeast-without_one : (a x : Row) (rows : List Row) → IsLeast a rows → IsLeast a (without_one x rows)
IsLeast-without_one a x [] h = tt
IsLeast-without_one a x (r ∷ rows) h = IsLeast-without_by (is_same_row x r) a x r rows h.0 h.1 (IsLeast-without_one a x rows h.1)

-- Bags are sorted.
IsBag-insert_by : (b : Bool) (x r : Row) (rows : List Row) → is_above x r ≡ b → IsLeast r rows → IsBag rows → IsBag (insert_row x rows) → IsBag (cond b (r ∷ insert_row x rows) (x ∷ r ∷ rows))
IsBag-insert_by true x r rows p h k l = (IsLeast-insert_row r x rows (above_one_way x r p) h, l)
IsBag-insert_by false x r rows p h k l = ((p, IsLeast-weaker x r rows p h), (h, k))

pub IsBag-insert_row : (x : Row) (rows : List Row) → IsBag rows → IsBag (insert_row x rows)
IsBag-insert_row x [] h = (tt, tt)
IsBag-insert_row x (r ∷ rows) h = IsBag-insert_by (is_above x r) x r rows refl h.0 h.1 (IsBag-insert_row x rows h.1)

pub IsBag-bag_of : (rows : List Row) → IsBag (bag_of rows)
IsBag-bag_of [] = tt
IsBag-bag_of (r ∷ rows) = IsBag-insert_row r (bag_of rows) (IsBag-bag_of rows)

IsBag-without_by : (b : Bool) (x r : Row) (rows : List Row) → IsLeast r rows → IsBag rows → IsBag (without_one x rows) → IsBag (cond b rows (r ∷ without_one x rows))
IsBag-without_by true x r rows h k l = k
IsBag-without_by false x r rows h k l = (IsLeast-without_one r x rows h, l)

pub IsBag-without_one : (x : Row) (rows : List Row) → IsBag rows → IsBag (without_one x rows)
IsBag-without_one x [] h = tt
IsBag-without_one x (r ∷ rows) h = IsBag-without_by (is_same_row x r) x r rows h.0 h.1 (IsBag-without_one x rows h.1)

pub IsBag-bag_minus : (a rows : List Row) → IsBag a → IsBag (bag_minus a rows)
IsBag-bag_minus a [] h = h
IsBag-bag_minus a (r ∷ rows) h = IsBag-bag_minus (without_one r a) rows (IsBag-without_one r a h)

-- A bag is the bag of its rows.
insert_least : (x : Row) (rows : List Row) → IsLeast x rows → insert_row x rows ≡ x ∷ rows
insert_least x [] h = refl
insert_least x (r ∷ rows) h = ap (λ b. cond b (r ∷ insert_row x rows) (x ∷ r ∷ rows)) h.0

pub bag_of-bag : (rows : List Row) → IsBag rows → bag_of rows ≡ rows
bag_of-bag [] h = refl
bag_of-bag (r ∷ rows) h = ap (insert_row r) (bag_of-bag rows h.1) ∙ insert_least r rows h.0

-- The copies of a row in a list.
-- as a number, whether a test passes
abbrev pub one_if : Bool → ℕ
one_if b = cond b 1 0

pub copies_of-cons : (row r : Row) (rows : List Row) → copies_of row (r ∷ rows) ≡ one_if (is_same_row row r) + copies_of row rows
copies_of-cons row r rows = sum_by-cons (λ x. one_if (is_same_row row x)) r rows

pub copies_of-append : (row : Row) (xs ys : List Row) → copies_of row (xs ++ ys) ≡ copies_of row xs + copies_of row ys
copies_of-append row xs ys = sum_by-append (λ x. one_if (is_same_row row x)) xs ys

copies-insert_by : (b : Bool) (row x r : Row) (rows : List Row) → copies_of row (insert_row x rows) ≡ copies_of row (x ∷ rows) → copies_of row (cond b (r ∷ insert_row x rows) (x ∷ r ∷ rows)) ≡ copies_of row (x ∷ r ∷ rows)
copies-insert_by true row x r rows e =
    omega (arith, e, copies_of-cons row r (insert_row x rows), copies_of-cons row x (r ∷ rows), copies_of-cons row r rows, copies_of-cons row x rows)
copies-insert_by false row x r rows e = refl

pub copies_of-insert_row : (row x : Row) (rows : List Row) → copies_of row (insert_row x rows) ≡ copies_of row (x ∷ rows)
copies_of-insert_row row x [] = refl
copies_of-insert_row row x (r ∷ rows) = copies-insert_by (is_above x r) row x r rows (copies_of-insert_row row x rows)

pub copies_of-bag_of : (row : Row) (rows : List Row) → copies_of row (bag_of rows) ≡ copies_of row rows
copies_of-bag_of row [] = refl
copies_of-bag_of row (r ∷ rows) =
    omega (arith, copies_of-insert_row row r (bag_of rows), copies_of-cons row r (bag_of rows), copies_of-cons row r rows, copies_of-bag_of row rows)

pub copies_of-bag_plus : (row : Row) (a b : List Row) → copies_of row (bag_plus a b) ≡ copies_of row a + copies_of row b
copies_of-bag_plus row a b = copies_of-bag_of row (a ++ b) ∙ copies_of-append row a b

one_at_most : (b : Bool) → one_if b ≤ 1
one_at_most true = omega arith
one_at_most false = omega arith

-- a row is not the same as two that are apart
apart : (b : Bool) (row x r : Row) → is_same_row row x ≡ b → is_same_row x r ≡ false → one_if b + one_if (is_same_row row r) ≤ 1
apart true row x r p q =
    let e : is_same_row row r ≡ is_same_row x r = ap (λ y. is_same_row y r) (same_is row x p) in
    let zero_of : one_if (is_same_row row r) ≡ 0 = ap one_if (e ∙ q) in
    omega (arith, zero_of)
apart false row x r p q = omega (arith, one_at_most (is_same_row row r))

copies-without_by : (b : Bool) (row x r : Row) (rows : List Row) → is_same_row x r ≡ b → copies_of row (without_one x rows) ≡ copies_of row rows - one_if (is_same_row row x) → copies_of row (cond b rows (r ∷ without_one x rows)) ≡ copies_of row (r ∷ rows) - one_if (is_same_row row x)
copies-without_by true row x r rows p e =
    let same : one_if (is_same_row row x) ≡ one_if (is_same_row row r) = ap (λ y. one_if (is_same_row row y)) (same_is x r p) in
    omega (arith, same, copies_of-cons row r rows)
copies-without_by false row x r rows p e =
    omega (arith, e, apart (is_same_row row x) row x r refl p, copies_of-cons row r rows, copies_of-cons row r (without_one x rows))

pub copies_of-without_one : (row x : Row) (rows : List Row) → copies_of row (without_one x rows) ≡ copies_of row rows - one_if (is_same_row row x)
copies_of-without_one row x [] = omega arith
copies_of-without_one row x (r ∷ rows) = copies-without_by (is_same_row x r) row x r rows refl (copies_of-without_one row x rows)

pub copies_of-bag_minus : (row : Row) (a b : List Row) → copies_of row (bag_minus a b) ≡ copies_of row a - copies_of row b
copies_of-bag_minus row a [] = omega arith
copies_of-bag_minus row a (r ∷ rows) =
    omega (arith, copies_of-bag_minus row (without_one r a) rows, copies_of-without_one row r a, copies_of-cons row r rows)

-- Two bags with the same copies are one.
none_below : (b : Bool) (x y r : Row) → is_same_row y r ≡ b → is_above x r ≡ false → is_above x y ≡ true → one_if b ≡ 0
none_below true x y r p q h = let e : y ≡ r = same_is y r p in cc
none_below false x y r p q h = refl

copies_below : (x y : Row) (rows : List Row) → IsLeast x rows → is_above x y ≡ true → copies_of y rows ≡ 0
copies_below x y [] h p = refl
copies_below x y (r ∷ rows) h p =
    omega (arith, copies_of-cons y r rows, none_below (is_same_row y r) x y r refl h.0 p, copies_below x y rows h.1 p)

has_itself : (y : Row) (rows : List Row) → 1 ≤ copies_of y (y ∷ rows)
has_itself y rows =
    let one : one_if (is_same_row y y) ≡ 1 = ap one_if (same_itself y) in
    omega (arith, one, copies_of-cons y y rows)

head_not_above : (b : Bool) (x y : Row) (xs ys : List Row) → is_above x y ≡ b → IsBag (x ∷ xs) → copies_of y (x ∷ xs) ≡ copies_of y (y ∷ ys) → is_above x y ≡ false
head_not_above true x y xs ys p h e =
    absurd (omega (arith, e, has_itself y ys, copies_below x y (x ∷ xs) (same_not_above x x (same_itself x), h.0) p))
head_not_above false x y xs ys p h e = p

pub bags_same : (a b : List Row) → IsBag a → IsBag b → ((row : Row) → copies_of row a ≡ copies_of row b) → a ≡ b
bags_same [] [] h k same = refl
bags_same [] (y ∷ ys) h k same = absurd (omega (arith, same y, has_itself y ys))
bags_same (x ∷ xs) [] h k same = absurd (omega (arith, same x, has_itself x xs))
bags_same (x ∷ xs) (y ∷ ys) h k same =
    let first : x ≡ y = neither_above x y (head_not_above (is_above x y) x y xs ys refl h (same y)) (head_not_above (is_above y x) y x ys xs refl k (sym (same x))) in
    let rest : xs ≡ ys = bags_same xs ys h.1 k.1 (λ row.
    let heads : one_if (is_same_row row x) ≡ one_if (is_same_row row y) = ap (λ z. one_if (is_same_row row z)) first in
    omega (arith, heads, same row, copies_of-cons row x xs, copies_of-cons row y ys)) in
    cc

-- What a sort leaves is the bag.
IsLeast-from_far : (a : Row) (rows : List Row) → ((j : ℕ) (d : Row) → j < length rows → is_above a (get_or rows j d) ≡ false) → IsLeast a rows
IsLeast-from_far a [] far = tt
IsLeast-from_far a (r ∷ rows) far = (far 0 r (omega arith), IsLeast-from_far a rows (λ j d h. far (suc j) d (omega arith)))

IsBag-from_far : (rows : List Row) → ((i j : ℕ) (d : Row) → i ≤ j → j < length rows → is_above (get_or rows i d) (get_or rows j d) ≡ false) → IsBag rows
IsBag-from_far [] far = tt
IsBag-from_far (r ∷ rows) far =
    (IsLeast-from_far r rows (λ j d h. far 0 (suc j) d (omega arith) (omega arith)), IsBag-from_far rows (λ i j d p h. far (suc i) (suc j) d (omega arith) (omega arith)))

turned : (r s : Ordering) → r ≡ ordering_reverse s → is_lt s ≡ false → is_gt r ≡ false
turned r Less e p = cc
turned r Equal e p = ap is_gt e
turned r Greater e p = ap is_gt e

turned_less : (r s : Ordering) → r ≡ ordering_reverse s → s ≡ Less → is_gt r ≡ true
turned_less r Less e p = ap is_gt e
turned_less r Equal e p = cc
turned_less r Greater e p = cc

pub IsBag-from_sort : (rows : List Row) → IsSorted row_cmp rows → IsBag rows
IsBag-from_sort rows sorted =
    IsBag-from_far rows (λ i j d p h. turned (row_cmp (get_or rows i d) (get_or rows j d)) (row_cmp (get_or rows j d) (get_or rows i d)) (row_total.antisymm (get_or rows i d) (get_or rows j d)) (sorted_far (λ x y. is_lt (row_cmp x y)) (ranks_by row_total (λ x. x)) rows sorted i j d p h))

pub bag_of-from_sort : (rows sorted : List Row) → IsPermutation rows sorted → IsSorted row_cmp sorted → sorted ≡ bag_of rows
bag_of-from_sort rows sorted moves up =
    bags_same sorted (bag_of rows) (IsBag-from_sort sorted up) (IsBag-bag_of rows) (λ row. sum_by-IsPermutation (λ x. one_if (is_same_row row x)) rows sorted moves ∙ sym (copies_of-bag_of row rows))

-- The steps of a merge: the lesser first row of two bags is the first of both.
merge_left : (x y : Row) (xs ys : List Row) → IsBag (x ∷ xs) → IsBag (y ∷ ys) → is_above x y ≡ false → bag_of ((x ∷ xs) ++ (y ∷ ys)) ≡ x ∷ bag_of (xs ++ (y ∷ ys))
merge_left x y xs ys h k p =
    insert_least x (bag_of (xs ++ (y ∷ ys))) (IsLeast-bag_of x (xs ++ (y ∷ ys)) (IsLeast-append x xs (y ∷ ys) h.0 (p, IsLeast-weaker x y ys p k.0)))

merge_right : (x y : Row) (xs ys : List Row) → IsBag (x ∷ xs) → IsBag (y ∷ ys) → is_above x y ≡ true → bag_of ((x ∷ xs) ++ (y ∷ ys)) ≡ y ∷ bag_of ((x ∷ xs) ++ ys)
merge_right x y xs ys h k p =
    let q : is_above y x ≡ false = above_one_way x y p in
    bags_same (bag_of ((x ∷ xs) ++ (y ∷ ys))) (y ∷ bag_of ((x ∷ xs) ++ ys)) (IsBag-bag_of ((x ∷ xs) ++ (y ∷ ys)))
    (IsLeast-bag_of y ((x ∷ xs) ++ ys) (IsLeast-append y (x ∷ xs) ys (q, IsLeast-weaker y x xs q h.0) k.0), IsBag-bag_of ((x ∷ xs) ++ ys))
    (λ row. omega (arith, copies_of-bag_plus row (x ∷ xs) (y ∷ ys), copies_of-cons row y (bag_of ((x ∷ xs) ++ ys)), copies_of-bag_plus row (x ∷ xs) ys, copies_of-cons row y ys))

pub merge_left_step : (done left right firsts seconds whole : List Row) (x y : Row) → left ≡ x ∷ firsts → right ≡ y ∷ seconds → IsBag left → IsBag right → is_above x y ≡ false → done ++ bag_of (left ++ right) ≡ whole → (done ++ x ∷ []) ++ bag_of (firsts ++ right) ≡ whole
merge_left_step done left right firsts seconds whole x y p q h k a e =
    rw (append_assoc, q) (sym (ap (λ l. done ++ l) (merge_left x y firsts seconds (subst IsBag p h) (subst IsBag q k) a)) ∙ (ap (λ l. done ++ bag_of (l ++ (y ∷ seconds))) (sym p) ∙ (ap (λ l. done ++ bag_of (left ++ l)) (sym q) ∙ e)))

pub merge_right_step : (done left right firsts seconds whole : List Row) (x y : Row) → left ≡ x ∷ firsts → right ≡ y ∷ seconds → IsBag left → IsBag right → is_above x y ≡ true → done ++ bag_of (left ++ right) ≡ whole → (done ++ y ∷ []) ++ bag_of (left ++ seconds) ≡ whole
merge_right_step done left right firsts seconds whole x y p q h k a e =
    rw (append_assoc, p) (sym (ap (λ l. done ++ l) (merge_right x y firsts seconds (subst IsBag p h) (subst IsBag q k) a)) ∙ (ap (λ l. done ++ bag_of (l ++ (y ∷ seconds))) (sym p) ∙ (ap (λ l. done ++ bag_of (left ++ l)) (sym q) ∙ e)))

pub IsBag-tail : (rows rest : List Row) (x : Row) → rows ≡ x ∷ rest → IsBag rows → IsBag rest
IsBag-tail rows rest x e h = let k = subst IsBag e h in k.1

append_nil : (rows : List Row) → rows ++ [] ≡ rows
append_nil [] = refl
append_nil (r ∷ rows) = ap (λ l. r ∷ l) (append_nil rows)

-- Where one of two bags has ended, the other is what is left.
merge_end_with : (done left right whole : List Row) → ((left ≡ []) ⊎ (right ≡ [])) → IsBag left → IsBag right → done ++ bag_of (left ++ right) ≡ whole → (done ++ left) ++ right ≡ whole
merge_end_with done left right whole (inl p) h k e =
    rw (p, append_nil) (sym (ap (λ l. done ++ l) (bag_of-bag right k)) ∙ (ap (λ l. done ++ bag_of (l ++ right)) (sym p) ∙ e))
merge_end_with done left right whole (inr p) h k e =
    rw (p, append_nil) (sym (ap (λ l. done ++ l) (ap bag_of (append_nil left) ∙ bag_of-bag left h)) ∙ (ap (λ l. done ++ bag_of (left ++ l)) (sym p) ∙ e))

none_left : (left right : List Row) → ((length left ≡ 0) ⊎ (length right ≡ 0)) → (left ≡ []) ⊎ (right ≡ [])
none_left left right (inl p) = inl (nil_from_length left p)
none_left left right (inr p) = inr (nil_from_length right p)

pub merge_end : (done left right whole : List Row) → ((length left ≡ 0) ⊎ (length right ≡ 0)) → IsBag left → IsBag right → done ++ bag_of (left ++ right) ≡ whole → (done ++ left) ++ right ≡ whole
merge_end done left right whole over h k e = merge_end_with done left right whole (none_left left right over) h k e

-- The steps of taking one bag from another.
not_same_below : (b : Bool) (x y r : Row) → is_same_row y r ≡ b → is_above x r ≡ false → is_above x y ≡ true → b ≡ false
not_same_below true x y r p q h = let e : y ≡ r = same_is y r p in cc
not_same_below false x y r p q h = refl

-- what stands before another stands before what that stands not after
above_stays : (b : Bool) (y r x : Row) → is_above r x ≡ b → is_above y r ≡ false → is_above y x ≡ true → is_above r x ≡ true
above_stays true y r x p q h = p
above_stays false y r x p q h = absurd (let k : is_above y x ≡ false = not_above_chain y r x q p in cc)

without_below : (x : Row) (rows : List Row) → IsLeast x rows → (y : Row) → is_above x y ≡ true → without_one y rows ≡ rows
without_below x [] h y p = refl
without_below x (r ∷ rows) h y p =
    let q : is_same_row y r ≡ false = not_same_below (is_same_row y r) x y r refl h.0 p in
    ap (λ b. cond b rows (r ∷ without_one y rows)) q ∙ ap (λ l. r ∷ l) (without_below x rows h.1 y p)

-- a row below all of a bag stays, whatever is taken from it
keep_below : (x y : Row) (rows taken : List Row) → is_above y x ≡ true → IsLeast y taken → bag_minus (x ∷ rows) taken ≡ x ∷ bag_minus rows taken
keep_below x y rows [] p h = refl
keep_below x y rows (r ∷ taken) p h =
    let q : is_same_row r x ≡ false = above_not_same r x (above_stays (is_above r x) y r x refl h.0 p) in
    ap (λ b. bag_minus (cond b rows (x ∷ without_one r rows)) taken) q ∙ keep_below x y (without_one r rows) taken p h.1

minus_less : (x y : Row) (xs ys : List Row) → IsBag (y ∷ ys) → is_above y x ≡ true → bag_minus (x ∷ xs) (y ∷ ys) ≡ x ∷ bag_minus xs (y ∷ ys)
minus_less x y xs ys k p = keep_below x y xs (y ∷ ys) p (same_not_above y y (same_itself y), k.0)

minus_same : (x y : Row) (xs ys : List Row) → is_same_row y x ≡ true → bag_minus (x ∷ xs) (y ∷ ys) ≡ bag_minus xs ys
minus_same x y xs ys p = ap (λ b. bag_minus (cond b xs (x ∷ without_one y xs)) ys) p

minus_more : (x y : Row) (xs ys : List Row) → IsBag (x ∷ xs) → is_above x y ≡ true → bag_minus (x ∷ xs) (y ∷ ys) ≡ bag_minus (x ∷ xs) ys
minus_more x y xs ys h p =
    ap (λ l. bag_minus l ys) (without_below x (x ∷ xs) (same_not_above x x (same_itself x), h.0) y p)

pub minus_none : (rows : List Row) → bag_minus [] rows ≡ []
minus_none [] = refl
minus_none (r ∷ rows) = minus_none rows

pub minus_less_step : (done left right firsts seconds whole : List Row) (x y : Row) → left ≡ x ∷ firsts → right ≡ y ∷ seconds → IsBag right → row_cmp x y ≡ Less → done ++ bag_minus left right ≡ whole → (done ++ x ∷ []) ++ bag_minus firsts right ≡ whole
minus_less_step done left right firsts seconds whole x y p q k a e =
    let above : is_above y x ≡ true = turned_less (row_cmp y x) (row_cmp x y) (row_total.antisymm y x) a in
    rw (append_assoc, q) (sym (ap (λ l. done ++ l) (minus_less x y firsts seconds (subst IsBag q k) above)) ∙ (ap (λ l. done ++ bag_minus l (y ∷ seconds)) (sym p) ∙ (ap (λ l. done ++ bag_minus left l) (sym q) ∙ e)))

pub minus_same_step : (done left right firsts seconds whole : List Row) (x y : Row) → left ≡ x ∷ firsts → right ≡ y ∷ seconds → row_cmp x y ≡ Equal → done ++ bag_minus left right ≡ whole → done ++ bag_minus firsts seconds ≡ whole
minus_same_step done left right firsts seconds whole x y p q a e =
    let same : is_same_row y x ≡ true = ap is_eq (tied_back row_total x y a) in
    sym (ap (λ l. done ++ l) (minus_same x y firsts seconds same)) ∙ (ap (λ l. done ++ bag_minus l (y ∷ seconds)) (sym p) ∙ (ap (λ l. done ++ bag_minus left l) (sym q) ∙ e))

pub minus_more_step : (done left right firsts seconds whole : List Row) (x y : Row) → left ≡ x ∷ firsts → right ≡ y ∷ seconds → IsBag left → row_cmp x y ≡ Greater → done ++ bag_minus left right ≡ whole → done ++ bag_minus left seconds ≡ whole
minus_more_step done left right firsts seconds whole x y p q h a e =
    let above : is_above x y ≡ true = ap is_gt a in
    rw p (sym (ap (λ l. done ++ l) (minus_more x y firsts seconds (subst IsBag p h) above)) ∙ (ap (λ l. done ++ bag_minus l (y ∷ seconds)) (sym p) ∙ (ap (λ l. done ++ bag_minus left l) (sym q) ∙ e)))

minus_end_with : (done left right whole : List Row) → ((left ≡ []) ⊎ (right ≡ [])) → done ++ bag_minus left right ≡ whole → done ++ left ≡ whole
minus_end_with done left right whole (inl p) e =
    ap (λ l. done ++ l) (p ∙ sym (minus_none right)) ∙ (ap (λ l. done ++ bag_minus l right) (sym p) ∙ e)
minus_end_with done left right whole (inr p) e = ap (λ l. done ++ bag_minus left l) (sym p) ∙ e

pub minus_end : (done left right whole : List Row) → ((length left ≡ 0) ⊎ (length right ≡ 0)) → done ++ bag_minus left right ≡ whole → done ++ left ≡ whole
minus_end done left right whole over e = minus_end_with done left right whole (none_left left right over) e

-- What holds of each row that was put in holds of each row of the bag.
All-insert_by : (P : Row → Type 0) (b : Bool) (x r : Row) (rows : List Row) → P x → P r → All P rows → All P (insert_row x rows) → All P (cond b (r ∷ insert_row x rows) (x ∷ r ∷ rows))
All-insert_by P true x r rows p q h k = All-cons P r (insert_row x rows) q k
All-insert_by P false x r rows p q h k = All-cons P x (r ∷ rows) p (All-cons P r rows q h)

pub All-insert_row : (P : Row → Type 0) (x : Row) (rows : List Row) → P x → All P rows → All P (insert_row x rows)
All-insert_row P x [] p h = All-cons P x [] p h
All-insert_row P x (r ∷ rows) p h =
    let first : P r = All-head P r rows h in
    let others = All-tail P r rows h in
    All-insert_by P (is_above x r) x r rows p first others (All-insert_row P x rows p others)

pub All-bag_of : (P : Row → Type 0) (rows : List Row) → All P rows → All P (bag_of rows)
All-bag_of P [] h = h
All-bag_of P (r ∷ rows) h =
    All-insert_row P r (bag_of rows) (All-head P r rows h) (All-bag_of P rows (All-tail P r rows h))

pub All-bag_plus : (P : Row → Type 0) (a b : List Row) → All P a → All P b → All P (bag_plus a b)
All-bag_plus P a b h k = All-bag_of P (a ++ b) (All-append P a b h k)

All-without_by : (P : Row → Type 0) (b : Bool) (x r : Row) (rows : List Row) → P r → All P rows → All P (without_one x rows) → All P (cond b rows (r ∷ without_one x rows))
All-without_by P true x r rows p h k = h
All-without_by P false x r rows p h k = All-cons P r (without_one x rows) p k

pub All-without_one : (P : Row → Type 0) (x : Row) (rows : List Row) → All P rows → All P (without_one x rows)
All-without_one P x [] h = h
All-without_one P x (r ∷ rows) h =
    let first : P r = All-head P r rows h in
    let others = All-tail P r rows h in
    All-without_by P (is_same_row x r) x r rows first others (All-without_one P x rows others)

pub All-bag_minus : (P : Row → Type 0) (a rows : List Row) → All P a → All P (bag_minus a rows)
All-bag_minus P a [] h = h
All-bag_minus P a (r ∷ rows) h = All-bag_minus P (without_one r a) rows (All-without_one P r a h)

-- The sum and the difference of bags.
pub IsBag-bag_plus : (a b : List Row) → IsBag (bag_plus a b)
IsBag-bag_plus a b = IsBag-bag_of (a ++ b)

-- lists with the same copies have one bag
pub bag_of_same : (xs ys : List Row) → ((row : Row) → copies_of row xs ≡ copies_of row ys) → bag_of xs ≡ bag_of ys
bag_of_same xs ys same =
    bags_same (bag_of xs) (bag_of ys) (IsBag-bag_of xs) (IsBag-bag_of ys) (λ row. copies_of-bag_of row xs ∙ (same row ∙ sym (copies_of-bag_of row ys)))

pub bag_of-IsPermutation : (xs ys : List Row) → IsPermutation xs ys → bag_of ys ≡ bag_of xs
bag_of-IsPermutation xs ys moves =
    bag_of_same ys xs (λ row. sum_by-IsPermutation (λ x. one_if (is_same_row row x)) xs ys moves)

-- the bag of two lists is the sum of their bags
pub bag_of-append : (xs ys : List Row) → bag_of (xs ++ ys) ≡ bag_plus (bag_of xs) (bag_of ys)
bag_of-append xs ys =
    bag_of_same (xs ++ ys) (bag_of xs ++ bag_of ys) (λ row. omega (arith, copies_of-append row xs ys, copies_of-append row (bag_of xs) (bag_of ys), copies_of-bag_of row xs, copies_of-bag_of row ys))

pub bag_plus-nil : (a : List Row) → IsBag a → bag_plus a [] ≡ a
bag_plus-nil a h = ap bag_of (append_nil a) ∙ bag_of-bag a h

pub bag_plus_comm : (a b : List Row) → bag_plus a b ≡ bag_plus b a
bag_plus_comm a b =
    bag_of_same (a ++ b) (b ++ a) (λ row. omega (arith, copies_of-append row a b, copies_of-append row b a))

pub bag_plus_assoc : (a b c : List Row) → bag_plus (bag_plus a b) c ≡ bag_plus a (bag_plus b c)
bag_plus_assoc a b c =
    bag_of_same (bag_plus a b ++ c) (a ++ bag_plus b c) (λ row. omega (arith, copies_of-append row (bag_plus a b) c, copies_of-bag_plus row a b, copies_of-append row a (bag_plus b c), copies_of-bag_plus row b c))

-- what was put in is taken out again
pub bag_minus-bag_plus : (a b : List Row) → IsBag a → bag_minus (bag_plus a b) b ≡ a
bag_minus-bag_plus a b h =
    bags_same (bag_minus (bag_plus a b) b) a (IsBag-bag_minus (bag_plus a b) b (IsBag-bag_plus a b)) h (λ row. omega (arith, copies_of-bag_minus row (bag_plus a b) b, copies_of-bag_plus row a b))

-- two are taken away as their sum is
pub bag_minus_twice : (a b c : List Row) → IsBag a → bag_minus (bag_minus a b) c ≡ bag_minus a (bag_plus b c)
bag_minus_twice a b c h =
    bags_same (bag_minus (bag_minus a b) c) (bag_minus a (bag_plus b c)) (IsBag-bag_minus (bag_minus a b) c (IsBag-bag_minus a b h)) (IsBag-bag_minus a (bag_plus b c) h) (λ row. omega (arith, copies_of-bag_minus row (bag_minus a b) c, copies_of-bag_minus row a b, copies_of-bag_minus row a (bag_plus b c), copies_of-bag_plus row b c))

-- only the copies of what is taken away matter
pub bag_minus_same : (a b c : List Row) → IsBag a → ((row : Row) → copies_of row b ≡ copies_of row c) → bag_minus a b ≡ bag_minus a c
bag_minus_same a b c h same =
    bags_same (bag_minus a b) (bag_minus a c) (IsBag-bag_minus a b h) (IsBag-bag_minus a c h) (λ row. omega (arith, copies_of-bag_minus row a b, copies_of-bag_minus row a c, same row))
