-- Lists by their items and by their places.
use Rattle.std.proofs.Common.{◌≡◌, ℕ, suc, ◌+◌, ◌<◌, ◌≤◌, List, [], ◌∷◌, length, map, take, get_or, Some, refl, ap, sym, ◌∙◌, arith}
use Rattle.std.specs.Prelude.{fold, slice_get, IfOk, Result, Ok, Err}
use Rattle.std.specs.List.{range_with_len}
use Rattle.std.proofs.lemmas.List.{take_more, take_all}
use Rattle.std.proofs.lemmas.List.Sums.{fold-append}

pub map_same : {A B : Type 0} (f g : A → B) (xs : List A) → ((x : A) → f x ≡ g x) → map f xs ≡ map g xs
map_same f g [] each = refl
map_same f g (x ∷ xs) each = rw (each x, map_same f g xs each) refl

pub map_twice : {A B C : Type 0} (f : B → C) (g : A → B) (xs : List A) → map f (map g xs) ≡ map (λ x. f (g x)) xs
map_twice f g [] = refl
map_twice f g (x ∷ xs) = ap (λ ys. f (g x) ∷ ys) (map_twice f g xs)

-- what holds at each place, item by item
from_place : {A B : Type 0} (a : ℕ) (f : ℕ → B) (g : A → B) (xs : List A) → ((k : ℕ) (x : A) → slice_get xs k ≡ Some x → f (a + k) ≡ g x) → map f (range_with_len a (length xs)) ≡ map g xs
from_place a f g [] each = refl
from_place a f g (x ∷ xs) each =
    let here : a + 0 ≡ a = omega arith in
    let first : f a ≡ g x = ap f (sym here) ∙ each 0 x refl in
    rw (first, from_place (a + 1) f g xs (λ k y e. let next : a + 1 + k ≡ a + suc k = omega arith in ap f next ∙ each (suc k) y e)) refl

pub by_place : {A B : Type 0} (f : ℕ → B) (g : A → B) (xs : List A) → ((k : ℕ) (x : A) → slice_get xs k ≡ Some x → f k ≡ g x) → map f (range_with_len 0 (length xs)) ≡ map g xs
by_place f g xs each = from_place 0 f g xs (λ k x e. let same : 0 + k ≡ k = omega arith in ap f same ∙ each k x e)

-- one more item is folded in
pub fold_more : {A R : Type 0} (step : R → A → R) (start : R) (xs : List A) (i : ℕ) (x : A) → i < length xs → x ≡ get_or xs i x → step (fold step start (take i xs)) x ≡ fold step start (take (i + 1) xs)
fold_more step start xs i x below is =
    sym (ap (fold step start) (take_more xs i x below) ∙ fold-append step start (take i xs) (get_or xs i x ∷ []) ∙ ap (step (fold step start (take i xs))) (sym is))

pub fold_whole : {A R : Type 0} (step : R → A → R) (start : R) (xs : List A) (i : ℕ) → length xs ≤ i → fold step start (take i xs) ≡ fold step start xs
fold_whole step start xs i past = ap (fold step start) (take_all i xs past)

-- ---- results

pub if_ok : {A E : Type 0} (P Q : A → Type 0) (result : Result A E) → ((x : A) → P x → Q x) → IfOk result P → IfOk result Q
if_ok P Q (Ok x) each p = each x p
if_ok P Q (Err e) each p = tt
