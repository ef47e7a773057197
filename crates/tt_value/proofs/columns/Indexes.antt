-- The place of a value among distinct values, ascending.
use Rattle.std.proofs.Common.{◌≡◌, ℕ, zero, suc, ◌+◌, ◌-◌, ◌^◌, ◌≤◌, ◌<◌, Bool, true, false, ◌||◌, List, [], ◌∷◌, ◌++◌, length, get_or, take, map, refl, sym, ap, subst, ◌∙◌, add-one, arith, Ordering, inl, inr, max, Option, Some, None}
use Rattle.std.specs.Prelude.{fold, if◌then◌else◌}
use Rattle.std.specs.declared.cmp.Ordering.TheVariants.{Less, Equal, Greater}
use Rattle.std.specs.Cmp.{IsTotalOrder}
use Rattle.std.specs.Ordering.{is_eq, is_lt, ordering_reverse, match_ordering}
use Rattle.std.specs.List.{flat_map}
use Rattle.std.specs.List.Sorted.{IsPartitionPoint, IsNonDecreasingBy}
use Rattle.std.specs.Ordering.{ordering_index}
use Rattle.std.proofs.lemmas.Cmp.{tied_back, tied_itself}
use Rattle.std.proofs.lemmas.Bool.{cases_lt}
use Rattle.std.proofs.lemmas.List.{take_more, flat_map_more, length-map, get_or-map}
use Rattle.std.proofs.lemmas.List.Sorted.{searchable_from_sorted}
use Rattle.tt_value.specs.values.Order.{TiesAreSame}
use Rattle.tt_value.specs.columns.Packing.{width_of}
use Rattle.tt_value.specs.columns.Body.{is_same, index_in, distinct, with_value, null_flag, null_flags, present}
use Rattle.tt_value.proofs.columns.Packing.{width_holds}
use Rattle.tt_value.proofs.columns.Distinct.{Above, Ascends, has, has_distinct}

-- a loop that writes one thing after the other
pub pushed_more : {X : Type 0} (f : X → List ℕ) (base : List ℕ) (xs : List X) (i : ℕ) (d : X) (old new : List ℕ) → i < length xs → old ≡ base ++ flat_map f (take i xs) → new ≡ old ++ f (get_or xs i d) → new ≡ base ++ flat_map f (take (i + 1) xs)
pushed_more f base xs i d old new lt old_is new_is =
    new_is ∙ ap (λ (t : List ℕ). t ++ f (get_or xs i d)) old_is ∙ flat_map_more f base (take i xs) (get_or xs i d) ∙ ap (λ t. base ++ flat_map f t) (sym (take_more xs i d lt))

module _ {V : Type 0} (cmp : V → V → Ordering) (total : IsTotalOrder cmp) (ties : TiesAreSame cmp) where
  at_above : (x : V) (ys : List V) (j : ℕ) (d : V) → Above cmp total ties x ys → j < length ys → cmp x (get_or ys j d) ≡ Less
  at_above x [] j d h lt = absurd (omega arith)
  at_above x (y ∷ ys) zero d h lt = h.0
  at_above x (y ∷ ys) (suc j) d h lt = at_above x ys j d h.1 (omega arith)

  -- the place where a value is found is its place
  pub found_index : (ds : List V) (v : V) (i : ℕ) (d : V) → Ascends cmp total ties ds → i < length ds → cmp (get_or ds i d) v ≡ Equal → index_in cmp ds v ≡ i
  found_index [] v i d up lt e = absurd (omega arith)
  found_index (x ∷ ds) v zero d up lt e = rw e refl
  found_index (x ∷ ds) v (suc i) d up lt e =
      let less : cmp x v ≡ Less = subst (λ z. cmp x z ≡ Less) (ties (get_or ds i d) v e) (at_above x ds i d up.0 (omega arith)) in
      let ih = found_index ds v i d up.1 (omega arith) e in
      rw less (ih' ih)
    where
      ih' : index_in cmp ds v ≡ i → index_in cmp ds v + 1 ≡ suc i
      ih' h = omega arith

  rising : (ds : List V) → Ascends cmp total ties ds → (k : ℕ) (d : V) → suc k < length ds → is_lt (cmp (get_or ds (suc k) d) (get_or ds k d)) ≡ false
  rising [] up k d lt = absurd (omega arith)
  rising (x ∷ ds) up zero d lt =
      let less : cmp x (get_or ds 0 d) ≡ Less = at_above x ds 0 d up.0 (omega arith) in
      ap is_lt (total.antisymm (get_or ds 0 d) x ∙ ap ordering_reverse less)
  rising (x ∷ ds) up (suc k) d lt = rising ds up.1 k d (omega arith)

  pub searchable : (ds : List V) (v : V) → Ascends cmp total ties ds → IsNonDecreasingBy (λ y. ordering_index (cmp y v)) ds
  searchable ds v up = searchable_from_sorted total (λ y. y) ds v (λ k d le lt. let h = rising ds up k d (omega arith) in subst (λ m. is_lt (cmp (get_or ds m d) (get_or ds k d)) ≡ false) (sym (add-one k)) h)

  -- a member has a place
  pub place_of : (ds : List V) (v : V) → has cmp total ties v ds ≡ true → (i : ℕ) × (i < length ds) × ((d : V) → cmp v (get_or ds i d) ≡ Equal)
  place_of [] v e = absurd cc
  place_of (x ∷ ds) v e = go (λ h. place_of ds v h) (cmp v x) refl e
    where
      later : (i : ℕ) × (i < length ds) × ((d : V) → cmp v (get_or ds i d) ≡ Equal) → (i : ℕ) × (i < suc (length ds)) × ((d : V) → cmp v (get_or (x ∷ ds) i d) ≡ Equal)
      later p = (suc p.0, omega (arith, p.1), p.2)

      go : (has cmp total ties v ds ≡ true → (i : ℕ) × (i < length ds) × ((d : V) → cmp v (get_or ds i d) ≡ Equal)) → (o : Ordering) → cmp v x ≡ o → (is_eq o || has cmp total ties v ds) ≡ true
          → (i : ℕ) × (i < suc (length ds)) × ((d : V) → cmp v (get_or (x ∷ ds) i d) ≡ Equal)
      go ih Less o-is e = later (ih e)
      go ih Equal o-is e = (0, omega arith, λ d. o-is)
      go ih Greater o-is e = later (ih e)

  -- a search among the distinct values of a list finds each of its values
  pub not_missing : (ds : List V) (v : V) (i : ℕ) → Ascends cmp total ties ds → has cmp total ties v ds ≡ true → (IsNonDecreasingBy (λ y. ordering_index (cmp y v)) ds → IsPartitionPoint (λ y. cmp y v ≡ Less) (λ y. cmp y v ≡ Greater) ds i) → ⊥
  not_missing ds v i up member split =
      let p = place_of ds v member in
      let at = split (searchable ds v up) in
      let tie : cmp (get_or ds p.0 v) v ≡ Equal = tied_back total v (get_or ds p.0 v) (p.2 v) in
      elim (cases_lt p.0 i) [
        | inl lt ↦ let less : cmp (get_or ds p.0 v) v ≡ Less = at.0 p.0 v (omega arith) lt in absurd cc
        | inr le ↦ let more : cmp (get_or ds p.0 v) v ≡ Greater = at.1 p.0 v le p.1 in absurd cc
      ]

  pub member_at : (vs : List V) (i : ℕ) (d : V) → i < length vs → has cmp total ties (get_or vs i d) vs ≡ true
  member_at [] i d lt = absurd (omega arith)
  member_at (v ∷ vs) zero d lt = ap (λ o. is_eq o || has cmp total ties v vs) (itself v)
    where
      itself : (v : V) → cmp v v ≡ Equal
      itself v = tied_itself total v
  member_at (v ∷ vs) (suc i) d lt = or_true (is_eq (cmp (get_or vs i d) v)) (member_at vs i d (omega arith))
    where
      or_true : (b : Bool) {c : Bool} → c ≡ true → (b || c) ≡ true
      or_true true e = refl
      or_true false e = e

  pub member_of_distinct : (vs : List V) (i : ℕ) (d : V) → i < length vs → has cmp total ties (get_or vs i d) (distinct cmp vs) ≡ true
  member_of_distinct vs i d lt = has_distinct cmp total ties (get_or vs i d) vs ∙ member_at vs i d lt

  pub index_below : (ds : List V) (v : V) → has cmp total ties v ds ≡ true → index_in cmp ds v < length ds
  index_below [] v e = absurd cc
  index_below (x ∷ ds) v e = go (λ h. index_below ds v h) (cmp v x) refl e
    where
      at : (b : Bool) → index_in cmp ds v < length ds → (if b then 0 else index_in cmp ds v + 1) < suc (length ds)
      at true h = omega arith
      at false h = omega arith

      go : (has cmp total ties v ds ≡ true → index_in cmp ds v < length ds) → (o : Ordering) → cmp v x ≡ o → (is_eq o || has cmp total ties v ds) ≡ true → (if is_same cmp x v then 0 else index_in cmp ds v + 1) < suc (length ds)
      go ih Less o-is e = at (is_same cmp x v) (ih e)
      go ih Equal o-is e = rw (tied_back total v x o-is) (omega arith)
      go ih Greater o-is e = at (is_same cmp x v) (ih e)

  -- each index has its bits
  pub index_fits : (vs : List V) (i : ℕ) (d : V) → length (distinct cmp vs) ≤ 2 ^ 64 → i < length vs → index_in cmp (distinct cmp vs) (get_or vs i d) < 2 ^ width_of (length (distinct cmp vs) - 1)
  index_fits vs i d few lt =
      let below = index_below (distinct cmp vs) (get_or vs i d) (member_of_distinct vs i d lt) in
      let holds = width_holds (length (distinct cmp vs) - 1) (omega arith) in
      omega arith

-- each number is at most the greatest
fold_max_le : (ns : List ℕ) (m : ℕ) → m ≤ fold max m ns
fold_max_le [] m = omega arith
fold_max_le (n ∷ ns) m = let h = fold_max_le ns (max m n) in omega arith

pub at_most_greatest : (ns : List ℕ) (m k d : ℕ) → k < length ns → get_or ns k d ≤ fold max m ns
at_most_greatest [] m k d lt = absurd (omega arith)
at_most_greatest (n ∷ ns) m zero d lt = let h = fold_max_le ns (max m n) in omega arith
at_most_greatest (n ∷ ns) m (suc k) d lt = at_most_greatest ns (max m n) k d (omega arith)

module _ {V : Type 0} (cmp : V → V → Ordering) (total : IsTotalOrder cmp) (ties : TiesAreSame cmp) where
  length-with : (v : V) (ds : List V) → length (with_value cmp v ds) ≤ suc (length ds)
  length-with v [] = omega arith
  length-with v (d ∷ ds) = go (length-with v ds) (cmp v d)
    where
      go : length (with_value cmp v ds) ≤ suc (length ds) → (o : Ordering) → length (match_ordering o (v ∷ d ∷ ds) (d ∷ ds) (d ∷ with_value cmp v ds)) ≤ suc (suc (length ds))
      go ih Less = omega arith
      go ih Equal = omega arith
      go ih Greater = omega arith

  pub distinct_le : (vs : List V) → length (distinct cmp vs) ≤ length vs
  distinct_le [] = omega arith
  distinct_le (v ∷ vs) = let h = distinct_le vs in let k = length-with v (distinct cmp vs) in omega arith

  pub indexes_fit : (vs : List V) (entries : List V) (ns : List ℕ) (w : ℕ) (e : V) → entries ≡ distinct cmp vs → ns ≡ map (index_in cmp entries) vs → w ≡ width_of (length entries - 1) → length vs < 2 ^ 32 → (k d : ℕ) → k < length ns → get_or ns k d < 2 ^ w
  indexes_fit vs entries ns w e entries_is ns_is w_is few k d lt =
      let len : length ns ≡ length vs = ap length ns_is ∙ length-map vs (index_in cmp entries) in
      let in_range : k < length vs = omega arith in
      let le = distinct_le vs in
      let here : get_or ns k d ≡ index_in cmp (distinct cmp vs) (get_or vs k e) = ap (λ t. get_or t k d) ns_is ∙ get_or-map (index_in cmp entries) vs k e d in_range ∙ ap (λ t. index_in cmp t (get_or vs k e)) entries_is in
      let wide : w ≡ width_of (length (distinct cmp vs) - 1) = w_is ∙ ap (λ t. width_of (length t - 1)) entries_is in
      rw (here, wide) (index_fits cmp total ties vs k e (omega arith) in_range)

-- NULLs
pub flags_fit : {V : Type 0} (rows : List (Option V)) (ns : List ℕ) → ns ≡ null_flags rows → (k d : ℕ) → k < length ns → get_or ns k d < 2
flags_fit rows ns ns_is k d lt = rw ns_is (go rows k (rw ns_is at lt))
  where
    small : {V : Type 0} (row : Option V) → null_flag row < 2
    small None = omega arith
    small (Some v) = omega arith

    go : {V : Type 0} (rows : List (Option V)) (k : ℕ) → k < length (null_flags rows) → get_or (null_flags rows) k d < 2
    go [] k lt = absurd (omega arith)
    go (row ∷ rows) zero lt = small row
    go (row ∷ rows) (suc k) lt = go rows k (omega arith)

pub present_le : {V : Type 0} (rows : List (Option V)) → length (present rows) ≤ length rows
present_le [] = omega arith
present_le (None ∷ rows) = let h = present_le rows in omega arith
present_le (Some v ∷ rows) = let h = present_le rows in omega arith
