-- Lists that may lack something, joined.
use Rattle.std.proofs.Common.{◌≡◌, ◌∙◌, ℕ, ◌+◌, ◌≤◌, List, [], ◌∷◌, ◌++◌, length, map, drop, Option, Some, None, refl, ap, sym, append-nil, append_assoc}
use Rattle.std.specs.Prelude.{option_and_then}
use Rattle.std.specs.Option.{option_map}
use Rattle.std.proofs.lemmas.List.{drop_all}
use Rattle.tt_sql.specs.meaning.Queries.{all_some}

abbrev both : {A : Type 0} → Option (List A) → Option (List A) → Option (List A)
both a b = option_and_then (λ xs. option_map (λ ys. xs ++ ys) b) a

with_nothing : {A : Type 0} (o : Option (List A)) → o ≡ both (Some []) o
with_nothing None = refl
with_nothing (Some ys) = refl

one_more : {A : Type 0} (x : Option A) (a b : Option (List A)) → option_and_then (λ first. option_map (λ others. first ∷ others) (both a b)) x ≡ both (option_and_then (λ first. option_map (λ others. first ∷ others) a) x) b
one_more None a b = refl
one_more (Some x) None b = refl
one_more (Some x) (Some xs) None = refl
one_more (Some x) (Some xs) (Some ys) = refl

all_append : {A : Type 0} (xs ys : List (Option A)) → all_some (xs ++ ys) ≡ both (all_some xs) (all_some ys)
all_append [] ys = with_nothing (all_some ys)
all_append (x ∷ xs) ys =
    ap (λ o. option_and_then (λ first. option_map (λ others. first ∷ others) o) x) (all_append xs ys) ∙ one_more x (all_some xs) (all_some ys)

pub all_joined : {A : Type 0} (xs ys : List (Option A)) (firsts seconds : List A) → all_some xs ≡ Some firsts → all_some ys ≡ Some seconds → all_some (xs ++ ys) ≡ Some (firsts ++ seconds)
all_joined xs ys firsts seconds a b = all_append xs ys ∙ ap (λ o. both o (all_some ys)) a ∙ ap (both (Some firsts)) b

pub lacks_before : {A : Type 0} (xs ys : List (Option A)) → all_some xs ≡ None → all_some (xs ++ ys) ≡ None
lacks_before xs ys none = all_append xs ys ∙ ap (λ o. both o (all_some ys)) none

none_behind : {A : Type 0} (o : Option (List A)) → both o None ≡ None
none_behind None = refl
none_behind (Some xs) = refl

pub lacks_behind : {A : Type 0} (xs ys : List (Option A)) → all_some ys ≡ None → all_some (xs ++ ys) ≡ None
lacks_behind xs ys none = all_append xs ys ∙ ap (both (all_some xs)) none ∙ none_behind (all_some xs)

-- ---- what is done, in front of what the rest gives

module _ {X Y : Type 0} (f : X → Option Y) where
  abbrev pub with_left : List Y → List X → Option (List Y)
  with_left done xs = option_map (λ later. done ++ later) (all_some (map f xs))

  pub left_start : (xs : List X) → with_left [] xs ≡ all_some (map f xs)
  left_start xs = sym (with_nothing (all_some (map f xs)))

  one_behind : (done : List Y) (y : Y) (later : Option (List Y)) → option_map (λ ys. done ++ ys) (option_map (λ others. y ∷ others) later) ≡ option_map (λ ys. (done ++ y ∷ []) ++ ys) later
  one_behind done y None = refl
  one_behind done y (Some ys) = ap Some (sym (append_assoc done (y ∷ []) ys))

  pub left_more : (done : List Y) (xs : List X) (i : ℕ) (x : X) (y : Y) (whole : Option (List Y)) → drop i xs ≡ x ∷ drop (i + 1) xs → f x ≡ Some y → with_left done (drop i xs) ≡ whole → with_left (done ++ y ∷ []) (drop (i + 1) xs) ≡ whole
  left_more done xs i x y whole next gives so_far =
      let later = all_some (map f (drop (i + 1) xs)) in
      sym (one_behind done y later)
      ∙ ap (λ o. option_map (λ ys. done ++ ys) (option_and_then (λ first. option_map (λ others. first ∷ others) later) o)) (sym gives)
      ∙ ap (with_left done) (sym next)
      ∙ so_far

  pub left_none : (done : List Y) (xs : List X) (i : ℕ) (x : X) (whole : Option (List Y)) → drop i xs ≡ x ∷ drop (i + 1) xs → f x ≡ None → with_left done (drop i xs) ≡ whole → None ≡ whole
  left_none done xs i x whole next gives so_far =
      let later = all_some (map f (drop (i + 1) xs)) in
      ap (λ o. option_map (λ ys. done ++ ys) (option_and_then (λ first. option_map (λ others. first ∷ others) later) o)) (sym gives)
      ∙ ap (with_left done) (sym next)
      ∙ so_far

  pub left_end : (done : List Y) (xs : List X) (i : ℕ) (whole : Option (List Y)) → length xs ≤ i → with_left done (drop i xs) ≡ whole → Some done ≡ whole
  left_end done xs i whole past so_far = ap Some (sym (append-nil done)) ∙ ap (with_left done) (sym (drop_all i xs past)) ∙ so_far
