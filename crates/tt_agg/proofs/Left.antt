-- What is done, in front of what the rest gives.
use Rattle.std.proofs.Common.{◌≡◌, ℕ, ◌+◌, ◌<◌, ◌≤◌, List, [], ◌∷◌, ◌++◌, map, length, drop, get_or, Option, Some, None, refl, ap, sym, ◌∙◌, append-nil, append_assoc}
use Rattle.std.specs.Prelude.{option_and_then, fold, ℤ, ◌+ℤ◌}
use Rattle.std.specs.Borrow.{Bor}
use Rattle.tt_value.specs.declared.value.Value.{Value}
use Rattle.std.specs.Option.{option_map}
use Rattle.std.proofs.lemmas.List.{drop_more, drop_all}
use Rattle.tt_sql.specs.meaning.Queries.{all_some, int_of}
use Rattle.tt_agg.specs.Lent.{lent}

pub from_item : {X : Type 0} (xs : List X) (i : ℕ) (x : X) → i < length xs → x ≡ get_or xs i x → drop i xs ≡ x ∷ drop (i + 1) xs
from_item xs i x inside is = drop_more xs i x inside ∙ ap (λ y. y ∷ drop (i + 1) xs) (sym is)

-- the sum so far with one number more
pub sum_goes_on : (whole sum next : ℤ) (values : List (Bor Value)) (i : ℕ) (value : Bor Value) → i < length values → value ≡ get_or values i value → next ≡ sum +ℤ int_of value.now → fold (λ sum next. sum +ℤ int_of next) sum (lent (drop i values)) ≡ whole → fold (λ sum next. sum +ℤ int_of next) next (lent (drop (i + 1) values)) ≡ whole
sum_goes_on whole sum next values i value inside is more so_far =
    ap (λ n. fold (λ sum next. sum +ℤ int_of next) n (lent (drop (i + 1) values))) more
    ∙ (sym (ap (λ left. fold (λ sum next. sum +ℤ int_of next) sum (lent left)) (from_item values i value inside is)) ∙ so_far)

module _ {X Y : Type 0} (f : X → Option Y) where
  abbrev pub with_left : List Y → List X → Option (List Y)
  with_left done xs = option_map (λ later. done ++ later) (all_some (map f xs))

  as_it_is : (o : Option (List Y)) → option_map (λ later. [] ++ later) o ≡ o
  as_it_is None = refl
  as_it_is (Some ys) = refl

  pub left_start : (xs : List X) → with_left [] xs ≡ all_some (map f xs)
  left_start xs = as_it_is (all_some (map f xs))

  one_more : (done : List Y) (y : Y) (later : Option (List Y)) → option_map (λ ys. done ++ ys) (option_map (λ others. y ∷ others) later) ≡ option_map (λ ys. (done ++ y ∷ []) ++ ys) later
  one_more done y None = refl
  one_more done y (Some ys) = ap Some (sym (append_assoc done (y ∷ []) ys))

  pub left_more : (done : List Y) (xs : List X) (i : ℕ) (x : X) (y : Y) (whole : Option (List Y)) → i < length xs → x ≡ get_or xs i x → f x ≡ Some y → with_left done (drop i xs) ≡ whole → with_left (done ++ y ∷ []) (drop (i + 1) xs) ≡ whole
  left_more done xs i x y whole inside is gives so_far =
      let later = all_some (map f (drop (i + 1) xs)) in
      sym (one_more done y later)
      ∙ (ap (λ o. option_map (λ ys. done ++ ys) (option_and_then (λ first. option_map (λ others. first ∷ others) later) o)) (sym gives)
      ∙ (ap (with_left done) (sym (from_item xs i x inside is)) ∙ so_far))

  pub left_none : (done : List Y) (xs : List X) (i : ℕ) (x : X) (whole : Option (List Y)) → i < length xs → x ≡ get_or xs i x → f x ≡ None → with_left done (drop i xs) ≡ whole → None ≡ whole
  left_none done xs i x whole inside is gives so_far =
      let later = all_some (map f (drop (i + 1) xs)) in
      ap (λ o. option_map (λ ys. done ++ ys) (option_and_then (λ first. option_map (λ others. first ∷ others) later) o)) (sym gives)
      ∙ (ap (with_left done) (sym (from_item xs i x inside is)) ∙ so_far)

  pub left_end : (done : List Y) (xs : List X) (i : ℕ) (whole : Option (List Y)) → length xs ≤ i → with_left done (drop i xs) ≡ whole → Some done ≡ whole
  left_end done xs i whole past so_far =
      ap Some (sym (append-nil done)) ∙ (ap (with_left done) (sym (drop_all i xs past)) ∙ so_far)
