-- Looking indexes up in a dictionary, one after the other.
use Rattle.std.proofs.Common.{◌≡◌, ℕ, zero, suc, ◌+◌, ◌≤◌, ◌<◌, Bool, true, false, ◌&&◌, List, [], ◌∷◌, ◌++◌, length, get_or, take, drop, Option, Some, None, refl, sym, ap, ◌∙◌, append_assoc, arith}
use Rattle.std.specs.Prelude.{◌==◌, slice_get}
use Rattle.std.specs.List.{list_any, list_all}
use Rattle.std.specs.Option.{option_map}
use Rattle.std.proofs.lemmas.List.{drop_more, take_more, take_all}
use Rattle.std.proofs.lemmas.List.Folds.{list_all-append}
use Rattle.std.proofs.lemmas.Option.{slice_get_past, slice_get_read}
use Rattle.tt_value.specs.columns.Reading.{values_of, uses_each}

module _ {V : Type 0} (ds : List V) (indexes : List ℕ) where
  abbrev pub looked_at : List V → ℕ → Option (List V)
  looked_at front i = option_map (λ vs. front ++ vs) (values_of ds (drop i indexes))

  regroup : (front : List V) (v : V) (read : Option (List V)) → option_map (λ vs. front ++ vs) (option_map (λ vs. v ∷ vs) read) ≡ option_map (λ vs. (front ++ v ∷ []) ++ vs) read
  regroup front v None = refl
  regroup front v (Some vs) = ap (λ (t : List V). Some t) (sym (append_assoc front (v ∷ []) vs))

  pub look_more : (front : List V) (i index : ℕ) (v : V) (total : Option (List V)) → i < length indexes → index ≡ get_or indexes i 0 → index < length ds → v ≡ get_or ds index v → looked_at front i ≡ total → looked_at (front ++ v ∷ []) (i + 1) ≡ total
  look_more front i index v total lt index_is within v_is so_far =
      let rest : drop i indexes ≡ index ∷ drop (i + 1) indexes = drop_more indexes i 0 lt ∙ ap (λ n. n ∷ drop (i + 1) indexes) (sym index_is) in
      let at : slice_get ds index ≡ Some v = slice_get_read ds (length ds) index v refl within v_is in
      let one : looked_at front i ≡ looked_at (front ++ v ∷ []) (i + 1) = rw (rest, at) (regroup front v (values_of ds (drop (i + 1) indexes))) in
      sym one ∙ so_far

  pub look_none : (front : List V) (i index : ℕ) (total : Option (List V)) → i < length indexes → index ≡ get_or indexes i 0 → length ds ≤ index → looked_at front i ≡ total → None ≡ total
  look_none front i index total lt index_is past so_far =
      let rest : drop i indexes ≡ index ∷ drop (i + 1) indexes = drop_more indexes i 0 lt ∙ ap (λ n. n ∷ drop (i + 1) indexes) (sym index_is) in
      let at : slice_get ds index ≡ None = slice_get_past ds index past in
      let one : looked_at front i ≡ None = rw (rest, at) refl in
      sym one ∙ so_far

-- flags that say of each number whether it stands among the indexes
and_swap : (a b : Bool) → (a && (b && true)) ≡ (b && a)
and_swap true true = refl
and_swap true false = refl
and_swap false true = refl
and_swap false false = refl

used_below : (flags : List Bool) (indexes : List ℕ) (n : ℕ) → n ≤ length flags → ((k : ℕ) → k < length flags → get_or flags k false ≡ list_any (λ index. index == k) indexes) → list_all (λ each. each) (take n flags) ≡ uses_each n indexes
used_below flags indexes zero le says = refl
used_below flags indexes (suc n) le says =
    let lt : n < length flags = omega arith in
    let more : take (suc n) flags ≡ take n flags ++ get_or flags n false ∷ [] = (let e : suc n ≡ n + 1 = omega arith in rw e (take_more flags n false lt)) in
    ap (list_all (λ each. each)) more ∙ list_all-append (λ each. each) (take n flags) (get_or flags n false ∷ []) ∙ and_swap (list_all (λ each. each) (take n flags)) (get_or flags n false)
    ∙ ap (λ b. b && list_all (λ each. each) (take n flags)) (says n lt) ∙ ap (λ b. list_any (λ index. index == n) indexes && b) (used_below flags indexes n (omega arith) says)

pub used_each : (flags : List Bool) (indexes : List ℕ) (count : ℕ) → length flags ≡ count → ((k : ℕ) → k < count → get_or flags k false ≡ list_any (λ index. index == k) indexes) → list_all (λ each. each) flags ≡ uses_each count indexes
used_each flags indexes count len says =
    ap (list_all (λ each. each)) (sym (take_all count flags (omega arith))) ∙ used_below flags indexes count (omega arith) (λ k lt. says k (omega arith))
