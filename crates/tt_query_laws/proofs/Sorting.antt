-- A sort by a total order in which only one item ties with itself does not depend on the order of the list.
use Rattle.std.specs.Cmp.{IsTotalOrder}
use Rattle.std.specs.Ordering.{is_gt, on, ordering_reverse, ordering_then}
use Rattle.std.specs.Prelude.{Bool, List, [], false, refl, true, ◌∷◌, ◌≡◌}
use Rattle.std.specs.declared.cmp.Ordering.TheVariants.{Equal, Greater, Less}
use Rattle.std.specs.declared.cmp.Ordering.{Ordering}
use Rattle.std.proofs.Common.{ap, cond, sym, ◌∙◌}
use Rattle.std.proofs.lemmas.Bool.{false≢true}
use Rattle.std.proofs.lemmas.Cmp.{on_total, then_total, upto}
use Rattle.tt_query_laws.proofs.Rearranged.{Rearranges, chains, exchanges, keeps, nothing}
use Rattle.tt_sql.specs.declared.query.Key.{Key}
use Rattle.tt_sql.specs.declared.query.Selection.{Selection}
use Rattle.tt_sql.specs.meaning.Queries.{answer_cmp, insert_by, key_cmp, key_place, sorted_by, value_at}
use Rattle.tt_value.proofs.values.Ties.{row_same}
use Rattle.tt_value.specs.declared.value.Row.{Row}
use Rattle.tt_value.specs.trees.Scope.{Scope}
use Rattle.tt_value.specs.values.Order.{TiesAreSame, value_cmp}
use Rattle.tt_value.specs.values.TotalOrder.{row_total, value_total}

tie_by : (r s : Ordering) → r ≡ ordering_reverse s → is_gt r ≡ false → is_gt s ≡ false → r ≡ Equal
tie_by Less Less e p q = cc
tie_by Less Equal e p q = cc
tie_by Less Greater e p q = cc
tie_by Equal s e p q = refl
tie_by Greater s e p q = cc

one_way_by : (r s : Ordering) → r ≡ ordering_reverse s → is_gt r ≡ true → is_gt s ≡ false
one_way_by Less s e p = cc
one_way_by Equal s e p = cc
one_way_by Greater Less e p = refl
one_way_by Greater Equal e p = cc
one_way_by Greater Greater e p = cc

module _ (cmp : Row → Row → Ordering) (total : IsTotalOrder cmp) (ties : TiesAreSame cmp) where
  one_way : (a b : Row) → is_gt (cmp a b) ≡ true → is_gt (cmp b a) ≡ false
  one_way a b e = one_way_by (cmp a b) (cmp b a) (total.antisymm a b) e

  same : (a b : Row) → is_gt (cmp a b) ≡ false → is_gt (cmp b a) ≡ false → a ≡ b
  same a b e f = ties a b (tie_by (cmp a b) (cmp b a) (total.antisymm a b) e f)

  -- what stands behind a row stands behind all that do not
  above_by : (a b r : Row) → is_gt (cmp a r) ≡ true → is_gt (cmp b r) ≡ false → (p : Bool) → is_gt (cmp a b) ≡ p → is_gt (cmp a b) ≡ true
  above_by a b r e f true g = g
  above_by a b r e f false g = absurd (false≢true (sym (upto total a b r g f) ∙ e))

  above : (a b r : Row) → is_gt (cmp a r) ≡ true → is_gt (cmp b r) ≡ false → is_gt (cmp a b) ≡ true
  above a b r e f = above_by a b r e f (is_gt (cmp a b)) refl

  past : (a r : Row) (rows : List Row) → is_gt (cmp a r) ≡ true → insert_by cmp a (r ∷ rows) ≡ r ∷ insert_by cmp a rows
  past a r rows e = rw e refl

  before : (a r : Row) (rows : List Row) → is_gt (cmp a r) ≡ false → insert_by cmp a (r ∷ rows) ≡ a ∷ r ∷ rows
  before a r rows e = rw e refl

  -- two rows in front of a list, neither of which goes past its first row
  in_front : (a b : Row) (rows : List Row) → insert_by cmp a rows ≡ a ∷ rows → insert_by cmp b rows ≡ b ∷ rows → (p q : Bool) → is_gt (cmp a b) ≡ p → is_gt (cmp b a) ≡ q → insert_by cmp a (b ∷ rows) ≡ insert_by cmp b (a ∷ rows)
  in_front a b rows here there true true e f = absurd (false≢true (sym (one_way a b e) ∙ f))
  in_front a b rows here there true false e f = past a b rows e ∙ ap (λ xs. b ∷ xs) here ∙ sym (before b a rows f)
  in_front a b rows here there false true e f = before a b rows e ∙ sym (past b a rows f ∙ ap (λ xs. a ∷ xs) there)
  in_front a b rows here there false false e f = ap (λ x. insert_by cmp x (b ∷ rows)) (same a b e f) ∙ ap (λ x. insert_by cmp b (x ∷ rows)) (sym (same a b e f))

  -- one goes past the first row, the other does not
  parted : (a b r : Row) (rows : List Row) → is_gt (cmp a r) ≡ true → is_gt (cmp b r) ≡ false → insert_by cmp a (insert_by cmp b (r ∷ rows)) ≡ insert_by cmp b (insert_by cmp a (r ∷ rows))
  parted a b r rows e f =
      ap (insert_by cmp a) (before b r rows f)
      ∙ past a b (r ∷ rows) (above a b r e f)
      ∙ ap (λ xs. b ∷ xs) (past a r rows e)
      ∙ sym (ap (insert_by cmp b) (past a r rows e) ∙ before b r (insert_by cmp a rows) f)

  inserted : (a b r : Row) (rows : List Row) → insert_by cmp a (insert_by cmp b rows) ≡ insert_by cmp b (insert_by cmp a rows) → (p q : Bool) → is_gt (cmp a r) ≡ p → is_gt (cmp b r) ≡ q → insert_by cmp a (insert_by cmp b (r ∷ rows)) ≡ insert_by cmp b (insert_by cmp a (r ∷ rows))
  inserted a b r rows ih true true e f =
      ap (insert_by cmp a) (past b r rows f)
      ∙ past a r (insert_by cmp b rows) e
      ∙ ap (λ xs. r ∷ xs) ih
      ∙ sym (ap (insert_by cmp b) (past a r rows e) ∙ past b r (insert_by cmp a rows) f)
  inserted a b r rows ih true false e f = parted a b r rows e f
  inserted a b r rows ih false true e f = sym (parted b a r rows f e)
  inserted a b r rows ih false false e f =
      ap (insert_by cmp a) (before b r rows f)
      ∙ in_front a b (r ∷ rows) (before a r rows e) (before b r rows f) (is_gt (cmp a b)) (is_gt (cmp b a)) refl refl
      ∙ sym (ap (insert_by cmp b) (before a r rows e))

  pub inserts_commute : (a b : Row) (rows : List Row) → insert_by cmp a (insert_by cmp b rows) ≡ insert_by cmp b (insert_by cmp a rows)
  inserts_commute a b [] = in_front a b [] refl refl (is_gt (cmp a b)) (is_gt (cmp b a)) refl refl
  inserts_commute a b (r ∷ rows) = inserted a b r rows (inserts_commute a b rows) (is_gt (cmp a r)) (is_gt (cmp b r)) refl refl

  pub sorted_same : (xs ys : List Row) → Rearranges xs ys → sorted_by cmp xs ≡ sorted_by cmp ys
  sorted_same _ _ nothing = refl
  sorted_same _ _ (keeps x xs ys r) = ap (insert_by cmp x) (sorted_same xs ys r)
  sorted_same _ _ (exchanges x y xs) = inserts_commute x y (sorted_by cmp xs)
  sorted_same _ _ (chains xs ys zs r s) = sorted_same xs ys r ∙ sorted_same ys zs s

-- ---- the order of an answer

reversed_twice : (o : Ordering) → ordering_reverse (ordering_reverse o) ≡ o
reversed_twice Less = refl
reversed_twice Equal = refl
reversed_twice Greater = refl

reversed_order : {K : Type 0} (R : K → K → Ordering) → IsTotalOrder R → IsTotalOrder (λ a b. ordering_reverse (R a b))
reversed_order R o = record {
  antisymm = λ x y. ap ordering_reverse (o.antisymm x y);
  trans = λ x y z e f. sym (o.antisymm z x) ∙ o.trans z y x (o.antisymm z y ∙ f) (o.antisymm y x ∙ e);
  congr = λ x y z e. ap ordering_reverse (o.congr x y z (sym (reversed_twice (R x y)) ∙ ap ordering_reverse e));
}

directed : {K : Type 0} (d : Bool) (R : K → K → Ordering) → IsTotalOrder R → IsTotalOrder (λ a b. cond d (ordering_reverse (R a b)) (R a b))
directed true R o = reversed_order R o
directed false R o = o

key_total : (scope : Scope) (selection : Selection) (k : Key) → IsTotalOrder (key_cmp scope selection k)
key_total scope selection k = directed k.descending (on (value_at (key_place scope selection k.by)) value_cmp) (on_total (value_at (key_place scope selection k.by)) value_total)

pub answer_total : (scope : Scope) (selection : Selection) (keys : List Key) → IsTotalOrder (answer_cmp scope selection keys)
answer_total scope selection [] = row_total
answer_total scope selection (k ∷ keys) = then_total (key_total scope selection k) (answer_total scope selection keys)

later_equal : (first later : Ordering) → ordering_then first later ≡ Equal → later ≡ Equal
later_equal Less later e = cc
later_equal Equal later e = e
later_equal Greater later e = cc

pub answer_ties : (scope : Scope) (selection : Selection) (keys : List Key) → TiesAreSame (answer_cmp scope selection keys)
answer_ties scope selection [] = row_same
answer_ties scope selection (k ∷ keys) = λ x y tie. answer_ties scope selection keys x y (later_equal (key_cmp scope selection k x y) (answer_cmp scope selection keys x y) tie)
