-- Facts of each item of a list, of each two items at one place of two lists, and of places.
use Rattle.std.proofs.Common.{◌≡◌, ℕ, zero, suc, ◌+◌, ◌<◌, Bool, true, false, cond, List, [], ◌∷◌, length, map, get_or, Option, Some, None, refl, ap, ◌∙◌, subst, arith}
use Rattle.std.specs.Prelude.{slice_get, nat_lt, option_and_then, take}
use Rattle.std.specs.Option.{option_map}
use Rattle.std.specs.List.{AllZip, AllByRecursion, list_any, filter, position, position_or_len, zip, range_with_len}
use Rattle.std.proofs.lemmas.Bool.{or_parts, ltb-false}
use Rattle.std.proofs.lemmas.Option.{same_Some}
use Rattle.std.proofs.lemmas.List.Sums.{fails_before_first}
use Rattle.std.proofs.lemmas.List.FromFn.{length-range_with_len, get_or-range_with_len}
use Rattle.tt_sql.specs.meaning.Queries.{all_some}
use Rattle.tt_plain.specs.Places.{each_at}
use Rattle.tt_typer.proofs.KindLaws.{nil_parts}

pub if_either : {A : Type 0} (P : A → Type 0) (b : Bool) (x y : A) → P x → P y → P (cond b x y)
if_either P true x y p q = p
if_either P false x y p q = q

-- ---- each item

pub all_map : {A B : Type 0} (P : B → Type 0) (f : A → B) (xs : List A) → AllByRecursion (λ x. P (f x)) xs → AllByRecursion P (map f xs)
all_map P f [] all = tt
all_map P f (x ∷ xs) all = (all.0, all_map P f xs all.1)

pub all_weaker : {A : Type 0} (P Q : A → Type 0) → ((x : A) → P x → Q x) → (xs : List A) → AllByRecursion P xs → AllByRecursion Q xs
all_weaker P Q imply [] all = tt
all_weaker P Q imply (x ∷ xs) all = (imply x all.0, all_weaker P Q imply xs all.1)

pub all_any : {A : Type 0} (P : A → Type 0) → ((x : A) → P x) → (xs : List A) → AllByRecursion P xs
all_any P each_is [] = tt
all_any P each_is (x ∷ xs) = (each_is x, all_any P each_is xs)

pub all_both : {A : Type 0} (P Q : A → Type 0) (xs : List A) → AllByRecursion P xs → AllByRecursion Q xs → AllByRecursion (λ x. P x × Q x) xs
all_both P Q [] p q = tt
all_both P Q (x ∷ xs) p q = ((p.0, q.0), all_both P Q xs p.1 q.1)

pub all_filter : {A : Type 0} (P : A → Type 0) (test : A → Bool) (xs : List A) → AllByRecursion P xs → AllByRecursion P (filter test xs)
all_filter P test [] all = tt
all_filter P test (x ∷ xs) all = if_either (AllByRecursion P) (test x) (x ∷ filter test xs) (filter test xs) (all.0, all_filter P test xs all.1) (all_filter P test xs all.1)

pub all_take : {A : Type 0} (P : A → Type 0) (n : ℕ) (xs : List A) → AllByRecursion P xs → AllByRecursion P (take n xs)
all_take P zero xs all = tt
all_take P (suc n) [] all = tt
all_take P (suc n) (x ∷ xs) all = (all.0, all_take P n xs all.1)

pub all_from_places : {A : Type 0} (P : A → Type 0) (xs : List A) → ((k : ℕ) (x : A) → slice_get xs k ≡ Some x → P x) → AllByRecursion P xs
all_from_places P [] at = tt
all_from_places P (x ∷ xs) at = (at zero x refl, all_from_places P xs (λ k y is. at (suc k) y is))

pub all_at_place : {A : Type 0} (P : A → Type 0) (xs : List A) → AllByRecursion P xs → (k : ℕ) (x : A) → slice_get xs k ≡ Some x → P x
all_at_place P [] all k x is = cc
all_at_place P (y ∷ xs) all zero x is = subst P (same_Some y x is) all.0
all_at_place P (y ∷ xs) all (suc k) x is = all_at_place P xs all.1 k x is

pub none_any : {A : Type 0} (test : A → Bool) (xs : List A) → list_any test xs ≡ false → AllByRecursion (λ x. test x ≡ false) xs
none_any test [] is = tt
none_any test (x ∷ xs) is = let both = or_parts (test x) (list_any test xs) is in (both.0, none_any test xs both.1)

-- ---- at each place

pub each_at_place : {A : Type 0} (f : ℕ → A → List ℕ) (n : ℕ) (xs : List A) → each_at f n xs ≡ [] → (k : ℕ) (x : A) → slice_get xs k ≡ Some x → f (n + k) x ≡ []
each_at_place f n [] none k x is = cc
each_at_place f n (y ∷ xs) none zero x is =
    let both = nil_parts (f n y) (each_at f (n + 1) xs) none in
    subst (λ m. f m x ≡ []) (omega arith) (subst (λ z. f n z ≡ []) (same_Some y x is) both.0)
each_at_place f n (y ∷ xs) none (suc k) x is =
    let both = nil_parts (f n y) (each_at f (n + 1) xs) none in
    subst (λ m. f m x ≡ []) (omega arith) (each_at_place f (n + 1) xs both.1 k x is)

pub each_place : {A : Type 0} (f : ℕ → A → List ℕ) (xs : List A) → each_at f 0 xs ≡ [] → (k : ℕ) (x : A) → slice_get xs k ≡ Some x → f k x ≡ []
each_place f xs none k x is = subst (λ m. f m x ≡ []) (omega arith) (each_at_place f 0 xs none k x is)

pub zip_from_places : {A B : Type 0} (R : A → B → Type 0) (xs : List A) (ys : List B) → length xs ≡ length ys → ((k : ℕ) (x : A) (y : B) → slice_get xs k ≡ Some x → slice_get ys k ≡ Some y → R x y) → AllZip R xs ys
zip_from_places R [] [] same at = tt
zip_from_places R [] (y ∷ ys) same at = absurd (omega (arith, same))
zip_from_places R (x ∷ xs) [] same at = absurd (omega (arith, same))
zip_from_places R (x ∷ xs) (y ∷ ys) same at = (at zero x y refl refl, zip_from_places R xs ys (omega (arith, same)) (λ k v w v_is w_is. at (suc k) v w v_is w_is))

pub zip_at_place : {A B : Type 0} (R : A → B → Type 0) (xs : List A) (ys : List B) → AllZip R xs ys → (k : ℕ) (x : A) (y : B) → slice_get xs k ≡ Some x → slice_get ys k ≡ Some y → R x y
zip_at_place R [] ys all k x y x_is y_is = cc
zip_at_place R (v ∷ xs) [] all k x y x_is y_is = absurd all
zip_at_place R (v ∷ xs) (w ∷ ys) all zero x y x_is y_is = subst (λ z. R z y) (same_Some v x x_is) (subst (R v) (same_Some w y y_is) all.0)
zip_at_place R (v ∷ xs) (w ∷ ys) all (suc k) x y x_is y_is = zip_at_place R xs ys all.1 k x y x_is y_is

pub zip_lengths : {A B : Type 0} (R : A → B → Type 0) (xs : List A) (ys : List B) → AllZip R xs ys → length xs ≡ length ys
zip_lengths R [] [] all = refl
zip_lengths R [] (y ∷ ys) all = absurd all
zip_lengths R (x ∷ xs) [] all = absurd all
zip_lengths R (x ∷ xs) (y ∷ ys) all = let later = zip_lengths R xs ys all.1 in omega (arith, later)

pub zip_mapped : {A B : Type 0} (R : A → B → Type 0) (f : A → B) (xs : List A) → AllByRecursion (λ x. R x (f x)) xs → AllZip R xs (map f xs)
zip_mapped R f [] all = tt
zip_mapped R f (x ∷ xs) all = (all.0, zip_mapped R f xs all.1)

pub zip_weaker : {A B : Type 0} (R S : A → B → Type 0) → ((x : A) (y : B) → R x y → S x y) → (xs : List A) (ys : List B) → AllZip R xs ys → AllZip S xs ys
zip_weaker R S imply [] [] all = tt
zip_weaker R S imply [] (y ∷ ys) all = all
zip_weaker R S imply (x ∷ xs) [] all = all
zip_weaker R S imply (x ∷ xs) (y ∷ ys) all = (imply x y all.0, zip_weaker R S imply xs ys all.1)

pub zip_of_mapped : {A B C : Type 0} (R : B → C → Type 0) (f : A → B) (xs : List A) (ys : List C) → AllZip (λ x y. R (f x) y) xs ys → AllZip R (map f xs) ys
zip_of_mapped R f [] [] all = tt
zip_of_mapped R f [] (y ∷ ys) all = all
zip_of_mapped R f (x ∷ xs) [] all = all
zip_of_mapped R f (x ∷ xs) (y ∷ ys) all = (all.0, zip_of_mapped R f xs ys all.1)

pub zip_from_mapped : {A B C : Type 0} (R : B → C → Type 0) (f : A → B) (xs : List A) (ys : List C) → AllZip R (map f xs) ys → AllZip (λ x y. R (f x) y) xs ys
zip_from_mapped R f [] [] all = tt
zip_from_mapped R f [] (y ∷ ys) all = all
zip_from_mapped R f (x ∷ xs) [] all = all
zip_from_mapped R f (x ∷ xs) (y ∷ ys) all = (all.0, zip_from_mapped R f xs ys all.1)

pub pair_at_place : {A B : Type 0} (xs : List A) (ys : List B) (k : ℕ) (x : A) (y : B) → slice_get xs k ≡ Some x → slice_get ys k ≡ Some y → slice_get (zip xs ys) k ≡ Some (x, y)
pair_at_place [] ys k x y x_is y_is = cc
pair_at_place (v ∷ xs) [] k x y x_is y_is = cc
pair_at_place (v ∷ xs) (w ∷ ys) zero x y x_is y_is = ap (λ z. Some (z, w)) (same_Some v x x_is) ∙ ap (λ z. Some (x, z)) (same_Some w y y_is)
pair_at_place (v ∷ xs) (w ∷ ys) (suc k) x y x_is y_is = pair_at_place xs ys k x y x_is y_is

pub item_there : {A : Type 0} (xs : List A) (k : ℕ) → k < length xs → (x : A) × (slice_get xs k ≡ Some x)
item_there [] k below = absurd (omega (arith, below))
item_there (x ∷ xs) zero below = (x, refl)
item_there (x ∷ xs) (suc k) below = item_there xs k (omega (arith, below))

-- ---- where a test first passes

none_cond : (b : Bool) (x : ℕ) → cond b (Some x) None ≡ None → b ≡ false
none_cond true x is = cc
none_cond false x is = refl

pub position_none : {A : Type 0} (test : A → Bool) (xs : List A) → position test xs ≡ None → (k : ℕ) (d : A) → k < length xs → test (get_or xs k d) ≡ false
position_none test xs is k d below =
    let past = ltb-false (position_or_len test xs) (length xs) (none_cond (nat_lt (position_or_len test xs) (length xs)) (position_or_len test xs) is) in
    fails_before_first test xs k d (omega (arith, past, below))

pub none_below : (test : ℕ → Bool) (n : ℕ) → position test (range_with_len 0 n) ≡ None → (k : ℕ) → k < n → test k ≡ false
none_below test n is k below =
    let within : k < length (range_with_len 0 n) = omega (arith, length-range_with_len 0 n, below) in
    subst (λ m. test m ≡ false) (get_or-range_with_len 0 n k 0 below ∙ omega arith) (position_none test (range_with_len 0 n) is k 0 within)

-- ---- lists that may lack something

all_there_by : {A B : Type 0} (f : A → Option B) (x : A) (xs : List A) (ys : List B) → ((zs : List B) → all_some (map f xs) ≡ Some zs → AllZip (λ x y. f x ≡ Some y) xs zs) → (o : Option B) → f x ≡ o → (os : Option (List B)) → all_some (map f xs) ≡ os → option_and_then (λ first. option_map (λ others. first ∷ others) os) o ≡ Some ys → AllZip (λ x y. f x ≡ Some y) (x ∷ xs) ys
all_there_by f x xs ys later None o_is os os_is whole = cc
all_there_by f x xs ys later (Some z) o_is None os_is whole = cc
all_there_by f x xs ys later (Some z) o_is (Some zs) os_is whole = subst (AllZip (λ x y. f x ≡ Some y) (x ∷ xs)) (same_Some (z ∷ zs) ys whole) (o_is, later zs os_is)

-- where all are there, each is
pub all_there : {A B : Type 0} (f : A → Option B) (xs : List A) (ys : List B) → all_some (map f xs) ≡ Some ys → AllZip (λ x y. f x ≡ Some y) xs ys
all_there f [] [] is = tt
all_there f [] (y ∷ ys) is = cc
all_there f (x ∷ xs) ys is = all_there_by f x xs ys (λ zs zs_is. all_there f xs zs zs_is) (f x) refl (all_some (map f xs)) refl is
