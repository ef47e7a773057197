-- Sums over rows depend on their copies alone; and rows of which a test takes some, which are replaced.
use Rattle.std.specs.List.{list_any}
use Rattle.std.specs.Prelude.{Bool, List, [], false, filter, flat_map, if◌then◌else◌, length, not, refl, true, ℕ, ◌++◌, ◌+◌, ◌||◌, ◌∷◌, ◌≡◌}
use Rattle.std.proofs.Common.{ap, arith, cond, length-append, sym, ◌∙◌}
use Rattle.std.proofs.lemmas.Bool.{false≢true}
use Rattle.tt_plain.specs.history.Contents.{rows_numbered, rows_of_parts}
use Rattle.tt_value.proofs.values.Bags.{bag_of_same, copies_of-append, copies_of-cons, one_if, same_is}
use Rattle.tt_value.specs.declared.value.Row.{Row}
use Rattle.tt_value.specs.values.Bags.{bag_of, copies_of, insert_row}
use Rattle.tt_value.specs.values.Order.{is_above, is_same_row}
use Rattle.tt_plain_laws.proofs.parts.Numbers.{copies-split, copies_in}

abbrev pub sum_of : (Row → ℕ) → List Row → ℕ
sum_of f [] = 0
sum_of f (r ∷ rows) = f r + sum_of f rows

sum-insert_by : (f : Row → ℕ) (b : Bool) (x r : Row) (rows : List Row) → sum_of f (insert_row x rows) ≡ f x + sum_of f rows → sum_of f (cond b (r ∷ insert_row x rows) (x ∷ r ∷ rows)) ≡ f x + (f r + sum_of f rows)
sum-insert_by f true x r rows e = omega (arith, e)
sum-insert_by f false x r rows e = refl

sum-insert : (f : Row → ℕ) (x : Row) (rows : List Row) → sum_of f (insert_row x rows) ≡ f x + sum_of f rows
sum-insert f x [] = refl
sum-insert f x (r ∷ rows) = sum-insert_by f (is_above x r) x r rows (sum-insert f x rows)

sum-bag : (f : Row → ℕ) (rows : List Row) → sum_of f (bag_of rows) ≡ sum_of f rows
sum-bag f [] = refl
sum-bag f (r ∷ rows) = omega (arith, sum-insert f r (bag_of rows), sum-bag f rows)

-- rows with the same copies have the same sums
pub same_sum : (f : Row → ℕ) (xs ys : List Row) → ((row : Row) → copies_of row xs ≡ copies_of row ys) → sum_of f xs ≡ sum_of f ys
same_sum f xs ys same = sym (sum-bag f xs) ∙ ap (sum_of f) (bag_of_same xs ys same) ∙ sum-bag f ys

copies-flat : (row : Row) (f : Row → List Row) (xs : List Row) → copies_of row (flat_map f xs) ≡ sum_of (λ r. copies_of row (f r)) xs
copies-flat row f [] = refl
copies-flat row f (x ∷ xs) = omega (arith, copies_of-append row (f x) (flat_map f xs), copies-flat row f xs)

length-flat : (f : Row → List Row) (xs : List Row) → length (flat_map f xs) ≡ sum_of (λ r. length (f r)) xs
length-flat f [] = refl
length-flat f (x ∷ xs) = omega (arith, length-append (f x) (flat_map f xs), length-flat f xs)

pub same_flat : (f : Row → List Row) (xs ys : List Row) → ((row : Row) → copies_of row xs ≡ copies_of row ys) → (row : Row) → copies_of row (flat_map f xs) ≡ copies_of row (flat_map f ys)
same_flat f xs ys same row = copies-flat row f xs ∙ same_sum (λ r. copies_of row (f r)) xs ys same ∙ sym (copies-flat row f ys)

pub same_flat_length : (f : Row → List Row) (xs ys : List Row) → ((row : Row) → copies_of row xs ≡ copies_of row ys) → length (flat_map f xs) ≡ length (flat_map f ys)
same_flat_length f xs ys same = length-flat f xs ∙ same_sum (λ r. length (f r)) xs ys same ∙ sym (length-flat f ys)

one_each : (xs : List Row) → length xs ≡ sum_of (λ r. 1) xs
one_each [] = refl
one_each (x ∷ xs) = omega (arith, one_each xs)

pub same_length : (xs ys : List Row) → ((row : Row) → copies_of row xs ≡ copies_of row ys) → length xs ≡ length ys
same_length xs ys same = one_each xs ∙ same_sum (λ r. 1) xs ys same ∙ sym (one_each ys)

-- ---- rows that are taken

-- as many as there are, of a row that is taken
abbrev if_taken : Bool → ℕ → ℕ
if_taken b n = cond b n 0

copies_kept : (t : Bool) (row r : Row) (kept rows : List Row) (here : Bool) → (is_same_row row r ≡ true → t ≡ here) → copies_of row kept ≡ if_taken here (copies_of row rows) → copies_of row (cond t (r ∷ kept) kept) ≡ if_taken here (copies_of row (r ∷ rows))
copies_kept t row r kept rows here same e = by (is_same_row row r) refl t refl here refl
  where
    by : (b : Bool) → is_same_row row r ≡ b → (u : Bool) → t ≡ u → (h : Bool) → here ≡ h → copies_of row (cond t (r ∷ kept) kept) ≡ if_taken here (copies_of row (r ∷ rows))
    by b f true g true h = rw (g, h) (omega (arith, copies_of-cons row r kept, copies_of-cons row r rows, e, ap (λ (x : Bool). if_taken x (copies_of row rows)) h))
    by true f true g false h = absurd (false≢true (sym h ∙ sym (same f) ∙ g))
    by false f true g false h = rw (g, h) (omega (arith, copies_of-cons row r kept, ap one_if f, e, ap (λ (x : Bool). if_taken x (copies_of row rows)) h))
    by true f false g true h = absurd (false≢true (sym g ∙ same f ∙ h))
    by false f false g true h = rw (g, h) (omega (arith, copies_of-cons row r rows, ap one_if f, e, ap (λ (x : Bool). if_taken x (copies_of row rows)) h))
    by b f false g false h = rw (g, h) (e ∙ ap (λ (x : Bool). if_taken x (copies_of row rows)) h)

pub copies-filter : (test : Row → Bool) (rows : List Row) (row : Row) → copies_of row (filter test rows) ≡ if_taken (test row) (copies_of row rows)
copies-filter test [] row = out (test row)
  where
    out : (b : Bool) → 0 ≡ if_taken b 0
    out true = refl
    out false = refl
copies-filter test (r ∷ rows) row = copies_kept (test r) row r (filter test rows) rows (test row) (λ e. ap test (sym (same_is row r e))) (copies-filter test rows row)

pub same_taken : (test : Row → Bool) (xs ys : List Row) → ((row : Row) → test row ≡ true → copies_of row xs ≡ copies_of row ys) → (row : Row) → copies_of row (filter test xs) ≡ copies_of row (filter test ys)
same_taken test xs ys same row = copies-filter test xs row ∙ by (test row) refl ∙ sym (copies-filter test ys row)
  where
    by : (b : Bool) → test row ≡ b → if_taken b (copies_of row xs) ≡ if_taken b (copies_of row ys)
    by true e = same row e
    by false e = refl

-- a row that a test takes is in no list in which it takes none
none_taken : (test : Row → Bool) (rows : List Row) (row : Row) → test row ≡ true → list_any test rows ≡ false → copies_of row rows ≡ 0
none_taken test [] row e none = refl
none_taken test (r ∷ rows) row e none = by (λ g. none_taken test rows row e g) (test r) refl none
  where
    by : (list_any test rows ≡ false → copies_of row rows ≡ 0) → (b : Bool) → test r ≡ b → (b || list_any test rows) ≡ false → copies_of row (r ∷ rows) ≡ 0
    by behind true f g = absurd (false≢true (sym g))
    by behind false f g = omega (arith, copies_of-cons row r rows, behind g, ap one_if (apart (is_same_row row r) refl))
      where
        apart : (b : Bool) → is_same_row row r ≡ b → is_same_row row r ≡ false
        apart true h = absurd (false≢true (sym f ∙ ap test (sym (same_is row r h)) ∙ e))
        apart false h = h

-- ---- parts that hold a row which is taken

abbrev pub is_touched : List (List Row) → (Row → Bool) → ℕ → Bool
is_touched contents test number = list_any test (rows_numbered contents number)

untouched : (contents : List (List Row)) (test : Row → Bool) (row : Row) → test row ≡ true → (numbers : List ℕ) → copies_in contents row (filter (λ n. not (is_touched contents test n)) numbers) ≡ 0
untouched contents test row e [] = refl
untouched contents test row e (n ∷ numbers) = by (is_touched contents test n) refl (untouched contents test row e numbers)
  where
    by : (b : Bool) → is_touched contents test n ≡ b → copies_in contents row (filter (λ n. not (is_touched contents test n)) numbers) ≡ 0
        → copies_in contents row (cond (not b) (n ∷ filter (λ n. not (is_touched contents test n)) numbers) (filter (λ n. not (is_touched contents test n)) numbers)) ≡ 0
    by true f rest = rest
    by false f rest = omega (arith, copies_of-append row (rows_numbered contents n) (rows_of_parts contents (filter (λ n. not (is_touched contents test n)) numbers)), none_taken test (rows_numbered contents n) row e f, rest)

-- of a row that is taken the touched parts hold all copies
pub touched_hold : (contents : List (List Row)) (test : Row → Bool) (row : Row) (numbers : List ℕ) → test row ≡ true → copies_in contents row (filter (is_touched contents test) numbers) ≡ copies_in contents row numbers
touched_hold contents test row numbers e = omega (arith, copies-split contents row (is_touched contents test) numbers, untouched contents test row e numbers)

-- ---- rows of which those that are taken are replaced

abbrev pub replaced : (Row → Bool) → (Row → List Row) → Row → List Row
replaced test others row = if test row then others row else row ∷ []

pub copies-replaced : (test : Row → Bool) (others : Row → List Row) (rows : List Row) (row : Row)
    → copies_of row (flat_map (replaced test others) rows) + copies_of row (filter test rows) ≡ copies_of row rows + copies_of row (flat_map others (filter test rows))
copies-replaced test others [] row = refl
copies-replaced test others (r ∷ rows) row = by (test r) (copies-replaced test others rows row)
  where
    by : (b : Bool) → copies_of row (flat_map (replaced test others) rows) + copies_of row (filter test rows) ≡ copies_of row rows + copies_of row (flat_map others (filter test rows))
        → copies_of row ((if b then others r else r ∷ []) ++ flat_map (replaced test others) rows) + copies_of row (cond b (r ∷ filter test rows) (filter test rows))
        ≡ copies_of row (r ∷ rows) + copies_of row (flat_map others (cond b (r ∷ filter test rows) (filter test rows)))
    by true e = omega (
      arith,
      e,
      copies_of-append row (others r) (flat_map (replaced test others) rows),
      copies_of-append row (others r) (flat_map others (filter test rows)),
      copies_of-cons row r rows,
      copies_of-cons row r (filter test rows),
    )
    by false e = omega (arith, e, copies_of-cons row r (flat_map (replaced test others) rows), copies_of-cons row r rows)

pub length-replaced : (test : Row → Bool) (others : Row → List Row) (rows : List Row)
    → length (flat_map (replaced test others) rows) + length (filter test rows) ≡ length rows + length (flat_map others (filter test rows))
length-replaced test others [] = refl
length-replaced test others (r ∷ rows) = by (test r) (length-replaced test others rows)
  where
    by : (b : Bool) → length (flat_map (replaced test others) rows) + length (filter test rows) ≡ length rows + length (flat_map others (filter test rows))
        → length ((if b then others r else r ∷ []) ++ flat_map (replaced test others) rows) + length (cond b (r ∷ filter test rows) (filter test rows))
        ≡ length (r ∷ rows) + length (flat_map others (cond b (r ∷ filter test rows) (filter test rows)))
    by true e = omega (arith, e, length-append (others r) (flat_map (replaced test others) rows), length-append (others r) (flat_map others (filter test rows)))
    by false e = omega (arith, e)
