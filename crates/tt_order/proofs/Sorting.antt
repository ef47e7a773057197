-- Rows in an order in which what ties is the same: a sorted list with the same copies is the one that insertion gives.
use Rattle.std.proofs.Common.{◌<◌, ◌++◌, suc, zero, take, length, get_or, ◌≡◌, ℕ, ◌≤◌, Bool, true, false, cond, List, [], ◌∷◌, refl, ap, sym, ◌∙◌, arith}
use Rattle.std.specs.Prelude.{⊤}
use Rattle.std.specs.declared.cmp.Ordering.{Ordering}
use Rattle.std.specs.declared.cmp.Ordering.TheVariants.{Less, Equal, Greater}
use Rattle.std.specs.Cmp.{IsTotalOrder, upto, tied_itself}
use Rattle.std.specs.Ordering.{is_gt, is_lt, ordering_reverse}
use Rattle.std.specs.List.Sorted.{IsPermutation, IsSorted}
use Rattle.std.proofs.lemmas.List.Sorted.{sorted_far, ranks_by, sum_by-IsPermutation}
use Rattle.tt_value.specs.values.Order.{TiesAreSame, is_same_row}
use Rattle.tt_value.specs.values.Bags.{copies_of}
use Rattle.tt_value.specs.declared.value.Row.{Row}
use Rattle.tt_value.proofs.values.Bags.{same_itself, same_is, copies_of-append, copies_of-cons, one_if}
use Rattle.tt_sql.specs.meaning.Queries.{insert_by, sorted_by}

-- What the order says of two rows.
tie_by : (r s : Ordering) → r ≡ ordering_reverse s → is_gt r ≡ false → is_gt s ≡ false → r ≡ Equal
tie_by Less Less e p q = cc
tie_by Less Equal e p q = cc
tie_by Less Greater e p q = cc
tie_by Equal s e p q = refl
tie_by Greater s e p q = cc

one_way_by : (r s : Ordering) → r ≡ ordering_reverse s → is_gt r ≡ true → is_gt s ≡ false
one_way_by Less s e p = cc
one_way_by Equal s e p = cc
one_way_by Greater Less e p = refl
one_way_by Greater Equal e p = cc
one_way_by Greater Greater e p = cc

not_above_by : (r : Ordering) → r ≡ Equal → is_gt r ≡ false
not_above_by Less p = refl
not_above_by Equal p = refl
not_above_by Greater p = cc

turned : (r s : Ordering) → r ≡ ordering_reverse s → is_lt s ≡ false → is_gt r ≡ false
turned r Less e p = cc
turned r Equal e p = ap is_gt e
turned r Greater e p = ap is_gt e

module _ (cmp : Row → Row → Ordering) (total : IsTotalOrder cmp) (ties : TiesAreSame cmp) where
  abbrev is_above : Row → Row → Bool
  is_above a b = is_gt (cmp a b)

  -- the row stands after none of the list
  abbrev IsLeast : Row → List Row → Type 0
  IsLeast row [] = ⊤
  IsLeast row (r ∷ rows) = (is_above row r ≡ false) × IsLeast row rows

  abbrev Rises : List Row → Type 0
  Rises [] = ⊤
  Rises (row ∷ rows) = IsLeast row rows × Rises rows

  neither_above : (a b : Row) → is_above a b ≡ false → is_above b a ≡ false → a ≡ b
  neither_above a b p q = ties a b (tie_by (cmp a b) (cmp b a) (total.antisymm a b) p q)

  above_one_way : (a b : Row) → is_above a b ≡ true → is_above b a ≡ false
  above_one_way a b p = one_way_by (cmp a b) (cmp b a) (total.antisymm a b) p

  not_above_chain : (a b c : Row) → is_above a b ≡ false → is_above b c ≡ false → is_above a c ≡ false
  not_above_chain a b c p q = upto total a b c p q

  not_above_itself : (a : Row) → is_above a a ≡ false
  not_above_itself a = not_above_by (cmp a a) (tied_itself total a)

  IsLeast-weaker : (a b : Row) (rows : List Row) → is_above a b ≡ false → IsLeast b rows → IsLeast a rows
  IsLeast-weaker a b [] p h = tt
  IsLeast-weaker a b (r ∷ rows) p h = (not_above_chain a b r p h.0, IsLeast-weaker a b rows p h.1)

  IsLeast-insert_by : (b : Bool) (a x r : Row) (rows : List Row) → is_above a x ≡ false → is_above a r ≡ false → IsLeast a rows → IsLeast a (insert_by cmp x rows) → IsLeast a (cond b (r ∷ insert_by cmp x rows) (x ∷ r ∷ rows))
  IsLeast-insert_by true a x r rows p q h k = (q, k)
  IsLeast-insert_by false a x r rows p q h k = (p, (q, h))

  IsLeast-insert : (a x : Row) (rows : List Row) → is_above a x ≡ false → IsLeast a rows → IsLeast a (insert_by cmp x rows)
  IsLeast-insert a x [] p h = (p, tt)
  IsLeast-insert a x (r ∷ rows) p h = IsLeast-insert_by (is_above x r) a x r rows p h.0 h.1 (IsLeast-insert a x rows p h.1)

  Rises-insert_by : (b : Bool) (x r : Row) (rows : List Row) → is_above x r ≡ b → IsLeast r rows → Rises rows → Rises (insert_by cmp x rows) → Rises (cond b (r ∷ insert_by cmp x rows) (x ∷ r ∷ rows))
  Rises-insert_by true x r rows p h k l = (IsLeast-insert r x rows (above_one_way x r p) h, l)
  Rises-insert_by false x r rows p h k l = ((p, IsLeast-weaker x r rows p h), (h, k))

  Rises-insert : (x : Row) (rows : List Row) → Rises rows → Rises (insert_by cmp x rows)
  Rises-insert x [] h = (tt, tt)
  Rises-insert x (r ∷ rows) h = Rises-insert_by (is_above x r) x r rows refl h.0 h.1 (Rises-insert x rows h.1)

  Rises-sorted : (rows : List Row) → Rises (sorted_by cmp rows)
  Rises-sorted [] = tt
  Rises-sorted (r ∷ rows) = Rises-insert r (sorted_by cmp rows) (Rises-sorted rows)

  -- Insertion keeps the copies.
  copies-insert_by : (b : Bool) (row x r : Row) (rows : List Row) → copies_of row (insert_by cmp x rows) ≡ copies_of row (x ∷ rows) → copies_of row (cond b (r ∷ insert_by cmp x rows) (x ∷ r ∷ rows)) ≡ copies_of row (x ∷ r ∷ rows)
  copies-insert_by true row x r rows e =
      omega (arith, e, copies_of-cons row r (insert_by cmp x rows), copies_of-cons row x (r ∷ rows), copies_of-cons row r rows, copies_of-cons row x rows)
  copies-insert_by false row x r rows e = refl

  copies-insert : (row x : Row) (rows : List Row) → copies_of row (insert_by cmp x rows) ≡ copies_of row (x ∷ rows)
  copies-insert row x [] = refl
  copies-insert row x (r ∷ rows) = copies-insert_by (is_above x r) row x r rows (copies-insert row x rows)

  copies-sorted : (row : Row) (rows : List Row) → copies_of row (sorted_by cmp rows) ≡ copies_of row rows
  copies-sorted row [] = refl
  copies-sorted row (r ∷ rows) =
      omega (arith, copies-insert row r (sorted_by cmp rows), copies_of-cons row r (sorted_by cmp rows), copies_of-cons row r rows, copies-sorted row rows)

  -- Two rising lists with the same copies are one.
  none_below : (b : Bool) (x y r : Row) → is_same_row y r ≡ b → is_above x r ≡ false → is_above x y ≡ true → one_if b ≡ 0
  none_below true x y r p q h = let e : y ≡ r = same_is y r p in cc
  none_below false x y r p q h = refl

  copies_below : (x y : Row) (rows : List Row) → IsLeast x rows → is_above x y ≡ true → copies_of y rows ≡ 0
  copies_below x y [] h p = refl
  copies_below x y (r ∷ rows) h p =
      omega (arith, copies_of-cons y r rows, none_below (is_same_row y r) x y r refl h.0 p, copies_below x y rows h.1 p)

  has_itself : (y : Row) (rows : List Row) → 1 ≤ copies_of y (y ∷ rows)
  has_itself y rows =
      let one : one_if (is_same_row y y) ≡ 1 = ap one_if (same_itself y) in
      omega (arith, one, copies_of-cons y y rows)

  head_not_above : (b : Bool) (x y : Row) (xs ys : List Row) → is_above x y ≡ b → Rises (x ∷ xs) → copies_of y (x ∷ xs) ≡ copies_of y (y ∷ ys) → is_above x y ≡ false
  head_not_above true x y xs ys p h e =
      absurd (omega (arith, e, has_itself y ys, copies_below x y (x ∷ xs) (not_above_itself x, h.0) p))
  head_not_above false x y xs ys p h e = p

  rising_same : (a b : List Row) → Rises a → Rises b → ((row : Row) → copies_of row a ≡ copies_of row b) → a ≡ b
  rising_same [] [] h k same = refl
  rising_same [] (y ∷ ys) h k same = absurd (omega (arith, same y, has_itself y ys))
  rising_same (x ∷ xs) [] h k same = absurd (omega (arith, same x, has_itself x xs))
  rising_same (x ∷ xs) (y ∷ ys) h k same =
      let first : x ≡ y = neither_above x y (head_not_above (is_above x y) x y xs ys refl h (same y)) (head_not_above (is_above y x) y x ys xs refl k (sym (same x))) in
      let rest : xs ≡ ys = rising_same xs ys h.1 k.1 (λ row.
      let heads : one_if (is_same_row row x) ≡ one_if (is_same_row row y) = ap (λ z. one_if (is_same_row row z)) first in
      omega (arith, heads, same row, copies_of-cons row x xs, copies_of-cons row y ys)) in
      cc

  -- what insertion gives depends on the copies alone
  pub sorted_same : (a b : List Row) → ((row : Row) → copies_of row a ≡ copies_of row b) → sorted_by cmp a ≡ sorted_by cmp b
  sorted_same a b same =
      rising_same (sorted_by cmp a) (sorted_by cmp b) (Rises-sorted a) (Rises-sorted b) (λ row. copies-sorted row a ∙ (same row ∙ sym (copies-sorted row b)))

  -- What a sort leaves rises.
  IsLeast-from_far : (a : Row) (rows : List Row) → ((j : ℕ) (d : Row) → j < length rows → is_above a (get_or rows j d) ≡ false) → IsLeast a rows
  IsLeast-from_far a [] far = tt
  IsLeast-from_far a (r ∷ rows) far = (far 0 r (omega arith), IsLeast-from_far a rows (λ j d h. far (suc j) d (omega arith)))

  Rises-from_far : (rows : List Row) → ((i j : ℕ) (d : Row) → i ≤ j → j < length rows → is_above (get_or rows i d) (get_or rows j d) ≡ false) → Rises rows
  Rises-from_far [] far = tt
  Rises-from_far (r ∷ rows) far =
      (IsLeast-from_far r rows (λ j d h. far 0 (suc j) d (omega arith) (omega arith)), Rises-from_far rows (λ i j d p h. far (suc i) (suc j) d (omega arith) (omega arith)))

  Rises-from_sort : (rows : List Row) → IsSorted cmp rows → Rises rows
  Rises-from_sort rows sorted =
      Rises-from_far rows (λ i j d p h. turned (cmp (get_or rows i d) (get_or rows j d)) (cmp (get_or rows j d) (get_or rows i d)) (total.antisymm (get_or rows i d) (get_or rows j d)) (sorted_far (λ x y. is_lt (cmp x y)) (ranks_by total (λ x. x)) rows sorted i j d p h))

  pub sorted-from_sort : (rows sorted : List Row) → IsPermutation rows sorted → IsSorted cmp sorted → sorted ≡ sorted_by cmp rows
  sorted-from_sort rows sorted moves up =
      rising_same sorted (sorted_by cmp rows) (Rises-from_sort sorted up) (Rises-sorted rows) (λ row. sum_by-IsPermutation (λ x. one_if (is_same_row row x)) rows sorted moves ∙ sym (copies-sorted row rows))

  -- ---- the first rows of a sorted list

  take_before : (n : ℕ) (r : Row) (rows : List Row) → take n (r ∷ take n rows) ≡ take n (r ∷ rows)
  take_before zero r rows = refl
  take_before (suc n) r [] = refl
  take_before (suc n) r (x ∷ rows) = ap (λ xs. r ∷ xs) (take_before n x rows)

  -- only the first n rows can be among the first n of one row more
  take-insert : (n : ℕ) (x : Row) (rows : List Row) → take n (insert_by cmp x (take n rows)) ≡ take n (insert_by cmp x rows)
  take-insert zero x rows = refl
  take-insert (suc n) x [] = refl
  take-insert (suc n) x (r ∷ rows) = by (is_above x r) (take-insert n x rows)
    where
      by : (b : Bool) → take n (insert_by cmp x (take n rows)) ≡ take n (insert_by cmp x rows) → take (suc n) (cond b (r ∷ insert_by cmp x (take n rows)) (x ∷ r ∷ take n rows)) ≡ take (suc n) (cond b (r ∷ insert_by cmp x rows) (x ∷ r ∷ rows))
      by true e = ap (λ xs. r ∷ xs) e
      by false e = ap (λ xs. x ∷ xs) (take_before n r rows)

  sorted-push : (rows : List Row) (x : Row) → sorted_by cmp (rows ++ x ∷ []) ≡ insert_by cmp x (sorted_by cmp rows)
  sorted-push rows x =
      sorted_same (rows ++ x ∷ []) (x ∷ rows) (λ row. omega (arith, copies_of-append row rows (x ∷ []), copies_of-cons row x rows, copies_of-cons row x []))

  take-pushed : (n : ℕ) (rows : List Row) (x : Row) → take n (sorted_by cmp (rows ++ x ∷ [])) ≡ take n (insert_by cmp x (take n (sorted_by cmp rows)))
  take-pushed n rows x = ap (take n) (sorted-push rows x) ∙ sym (take-insert n x (sorted_by cmp rows))

  -- one row more, where the first rows of two lists are the same
  pub first-pushed : (n : ℕ) (kept rows : List Row) (x : Row) → take n (sorted_by cmp kept) ≡ take n (sorted_by cmp rows) → take n (sorted_by cmp (kept ++ x ∷ [])) ≡ take n (sorted_by cmp (rows ++ x ∷ []))
  first-pushed n kept rows x e = take-pushed n kept x ∙ (ap (λ first. take n (insert_by cmp x first)) e ∙ sym (take-pushed n rows x))

  IsLeast-take : (n : ℕ) (a : Row) (rows : List Row) → IsLeast a rows → IsLeast a (take n rows)
  IsLeast-take zero a rows h = tt
  IsLeast-take (suc n) a [] h = tt
  IsLeast-take (suc n) a (r ∷ rows) h = (h.0, IsLeast-take n a rows h.1)

  Rises-take : (n : ℕ) (rows : List Row) → Rises rows → Rises (take n rows)
  Rises-take zero rows h = tt
  Rises-take (suc n) [] h = tt
  Rises-take (suc n) (r ∷ rows) h = (IsLeast-take n r rows h.0, Rises-take n rows h.1)

  take-twice : (n : ℕ) (rows : List Row) → take n (take n rows) ≡ take n rows
  take-twice zero rows = refl
  take-twice (suc n) [] = refl
  take-twice (suc n) (r ∷ rows) = ap (λ xs. r ∷ xs) (take-twice n rows)

  -- the first rows of the first rows are the first rows
  pub first-kept : (n : ℕ) (rows : List Row) → take n (sorted_by cmp (take n (sorted_by cmp rows))) ≡ take n (sorted_by cmp rows)
  first-kept n rows =
      let first : List Row = take n (sorted_by cmp rows) in
      let same : sorted_by cmp first ≡ first = rising_same (sorted_by cmp first) first (Rises-sorted first) (Rises-take n (sorted_by cmp rows) (Rises-sorted rows)) (λ row. copies-sorted row first) in
      ap (take n) same ∙ take-twice n (sorted_by cmp rows)
