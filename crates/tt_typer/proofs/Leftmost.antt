-- The leftmost place of several lists, and of what is left of a list.
use Rattle.std.proofs.Common.{◌≡◌, ℕ, ◌+◌, ◌<◌, ◌≤◌, min, List, [], ◌∷◌, ◌++◌, length, drop, map, get_or, Option, Some, None, refl, ap, sym, ◌∙◌, arith}
use Rattle.std.proofs.lemmas.List.{drop_more, drop_all}
use Rattle.tt_plain.specs.Places.{earlier, leftmost, each, each_at}

pub earlier_none : (a : Option ℕ) → earlier a None ≡ a
earlier_none None = refl
earlier_none (Some a) = refl

min_assoc : (a b c : ℕ) → min (min a b) c ≡ min a (min b c)
min_assoc a b c = omega arith

pub earlier_assoc : (a b c : Option ℕ) → earlier (earlier a b) c ≡ earlier a (earlier b c)
earlier_assoc None b c = refl
earlier_assoc (Some a) None c = refl
earlier_assoc (Some a) (Some b) None = refl
earlier_assoc (Some a) (Some b) (Some c) = ap Some (min_assoc a b c)

pub leftmost_append : (xs ys : List ℕ) → leftmost (xs ++ ys) ≡ earlier (leftmost xs) (leftmost ys)
leftmost_append [] ys = refl
leftmost_append (x ∷ xs) ys = ap (earlier (Some x)) (leftmost_append xs ys) ∙ sym (earlier_assoc (Some x) (leftmost xs) (leftmost ys))

-- what is left from an item on
pub from_item : {A : Type 0} (xs : List A) (i : ℕ) (x : A) → i < length xs → x ≡ get_or xs i x → drop i xs ≡ x ∷ drop (i + 1) xs
from_item xs i x below is = drop_more xs i x below ∙ ap (λ y. y ∷ drop (i + 1) xs) (sym is)

-- one more of what is left, where what is left gives this first
pub found_more : {A : Type 0} (F : List A → Option ℕ) (f : A → Option ℕ) → ((x : A) (xs : List A) → F (x ∷ xs) ≡ earlier (f x) (F xs)) → (found : Option ℕ) (xs : List A) (i : ℕ) (x : A) (all : Option ℕ) → i < length xs → x ≡ get_or xs i x → earlier found (F (drop i xs)) ≡ all → earlier (earlier found (f x)) (F (drop (i + 1) xs)) ≡ all
found_more F f step found xs i x all below is so_far =
    earlier_assoc found (f x) (F (drop (i + 1) xs))
    ∙ ap (earlier found) (sym (ap F (from_item xs i x below is) ∙ step x (drop (i + 1) xs)))
    ∙ so_far

pub each_step : {A : Type 0} (f : A → List ℕ) (x : A) (xs : List A) → leftmost (each f (x ∷ xs)) ≡ earlier (leftmost (f x)) (leftmost (each f xs))
each_step f x xs = leftmost_append (f x) (each f xs)

-- one more item of a list
pub each_more : {A : Type 0} (f : A → List ℕ) (found : Option ℕ) (xs : List A) (i : ℕ) (x : A) (all : Option ℕ) → i < length xs → x ≡ get_or xs i x → earlier found (leftmost (each f (drop i xs))) ≡ all → earlier (earlier found (leftmost (f x))) (leftmost (each f (drop (i + 1) xs))) ≡ all
each_more f = found_more (λ xs. leftmost (each f xs)) (λ x. leftmost (f x)) (each_step f)

-- the same with the item's place
pub each_at_more : {A : Type 0} (f : ℕ → A → List ℕ) (found : Option ℕ) (xs : List A) (i : ℕ) (x : A) (all : Option ℕ) → i < length xs → x ≡ get_or xs i x → earlier found (leftmost (each_at f i (drop i xs))) ≡ all → earlier (earlier found (leftmost (f i x))) (leftmost (each_at f (i + 1) (drop (i + 1) xs))) ≡ all
each_at_more f found xs i x all below is so_far =
    earlier_assoc found (leftmost (f i x)) (leftmost (each_at f (i + 1) (drop (i + 1) xs)))
    ∙ ap (earlier found) (sym (ap (λ ys. leftmost (each_at f i ys)) (from_item xs i x below is) ∙ leftmost_append (f i x) (each_at f (i + 1) (drop (i + 1) xs))))
    ∙ so_far

pub each_map : {A B : Type 0} (f : B → List ℕ) (g : A → B) (xs : List A) → each f (map g xs) ≡ each (λ x. f (g x)) xs
each_map f g [] = refl
each_map f g (x ∷ xs) = ap (λ ys. f (g x) ++ ys) (each_map f g xs)

-- before the first item
pub each_start : {A : Type 0} (f : A → List ℕ) (first whole : List ℕ) (xs : List A) → whole ≡ first ++ each f xs → earlier (leftmost first) (leftmost (each f (drop 0 xs))) ≡ leftmost whole
each_start f first whole xs is = sym (leftmost_append first (each f xs)) ∙ ap leftmost (sym is)

-- after the last
pub each_end : {A : Type 0} (f : A → List ℕ) (found : Option ℕ) (xs : List A) (i : ℕ) (all : Option ℕ) → length xs ≤ i → earlier found (leftmost (each f (drop i xs))) ≡ all → found ≡ all
each_end f found xs i all past so_far = sym (earlier_none found) ∙ ap (λ ys. earlier found (leftmost (each f ys))) (sym (drop_all i xs past)) ∙ so_far
