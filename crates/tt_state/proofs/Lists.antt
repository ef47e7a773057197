-- Lists with an item in the place of another.
use Rattle.std.specs.Prelude.{option_map, List, Some, [], fold, map, refl, slice_get, slice_set, ℕ, ◌++◌, ◌∷◌, ◌≡◌, ◌≢◌}
use Rattle.std.proofs.Common.{ap, suc, zero}
use Rattle.std.proofs.lemmas.Option.{none-some}

pub set_same : {A : Type 0} (xs : List A) (place : ℕ) (x y : A) → slice_get xs place ≡ Some y → slice_get (slice_set xs place x) place ≡ Some x
set_same [] place x y e = absurd (none-some y e)
set_same (first ∷ xs) zero x y e = refl
set_same (first ∷ xs) (suc place) x y e = set_same xs place x y e

pub set_other : {A : Type 0} (xs : List A) (place k : ℕ) (x : A) → k ≢ place → slice_get (slice_set xs place x) k ≡ slice_get xs k
set_other [] place k x ne = refl
set_other (first ∷ xs) zero zero x ne = absurd (ne refl)
set_other (first ∷ xs) zero (suc k) x ne = refl
set_other (first ∷ xs) (suc place) zero x ne = refl
set_other (first ∷ xs) (suc place) (suc k) x ne = set_other xs place k x (λ e. ne (ap suc e))

pub map_set : {A B : Type 0} (f : A → B) (xs : List A) (place : ℕ) (x : A) → map f (slice_set xs place x) ≡ slice_set (map f xs) place (f x)
map_set f [] place x = refl
map_set f (first ∷ xs) zero x = refl
map_set f (first ∷ xs) (suc place) x = ap (λ ys. f first ∷ ys) (map_set f xs place x)

pub map_twice : {A B C : Type 0} (f : B → C) (g : A → B) (xs : List A) → map f (map g xs) ≡ map (λ x. f (g x)) xs
map_twice f g [] = refl
map_twice f g (x ∷ xs) = ap (λ ys. f (g x) ∷ ys) (map_twice f g xs)

pub map_get : {A B : Type 0} (f : A → B) (xs : List A) (place : ℕ) (x : A) → slice_get xs place ≡ Some x → slice_get (map f xs) place ≡ Some (f x)
map_get f [] place x e = absurd (none-some x e)
map_get f (first ∷ xs) zero x e = ap (λ o. option_map f o) e
map_get f (first ∷ xs) (suc place) x e = map_get f xs place x e

pub last_fold : {A B : Type 0} (f : B → A → B) (b : B) (xs : List A) (x : A) → fold f b (xs ++ x ∷ []) ≡ f (fold f b xs) x
last_fold f b [] x = refl
last_fold f b (first ∷ xs) x = last_fold f (f b first) xs x

pub all_behind : {A : Type 0} (xs : List A) → xs ++ [] ≡ xs
all_behind [] = refl
all_behind (x ∷ xs) = ap (λ ys. x ∷ ys) (all_behind xs)
