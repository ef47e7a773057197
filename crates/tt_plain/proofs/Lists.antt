-- Lists that are empty together, and the first place at which a test passes.
use Rattle.std.proofs.Common.{◌≡◌, ℕ, zero, suc, ◌+◌, ◌<◌, Bool, true, false, cond, List, [], ◌∷◌, ◌++◌, length, Option, Some, None, refl, sym, ◌∙◌, subst, arith}
use Rattle.std.specs.Prelude.{◌||◌, slice_get, nat_lt}
use Rattle.std.specs.List.{list_any, position, position_or_len}
use Rattle.std.specs.Str.{bytes_eq}
use Rattle.std.proofs.lemmas.Bool.{false≢true}
use Rattle.std.proofs.lemmas.Bool.Decides.{nat_tests}
use Rattle.std.proofs.lemmas.Option.{none-some, same_Some}
use Rattle.std.proofs.lemmas.Slice.Eq.{bytes_eq-Decides}
use Rattle.tt_plain.specs.Places.{each}

-- ---- lists that are empty together

pub nil_both : {A : Type 0} (xs ys : List A) → xs ++ ys ≡ [] → (xs ≡ []) × (ys ≡ [])
nil_both [] ys e = (refl, e)
nil_both (x ∷ xs) ys e = absurd cc

pub nil_each : {A : Type 0} (f : A → List ℕ) (xs : List A) (k : ℕ) (x : A) → each f xs ≡ [] → slice_get xs k ≡ Some x → f x ≡ []
nil_each f [] k x e at = absurd (none-some x at)
nil_each f (first ∷ xs) zero x e at = subst (λ y. f y ≡ []) (same_Some first x at) (nil_both (f first) (each f xs) e).0
nil_each f (first ∷ xs) (suc k) x e at = nil_each f xs k x (nil_both (f first) (each f xs) e).1 at

-- ---- tests

pub or_false : (a b : Bool) → (a || b) ≡ false → (a ≡ false) × (b ≡ false)
or_false true b e = absurd (false≢true (sym e))
or_false false b e = (refl, e)

pub any_false : {A : Type 0} (test : A → Bool) (xs : List A) (k : ℕ) (x : A) → list_any test xs ≡ false → slice_get xs k ≡ Some x → test x ≡ false
any_false test [] k x none at = absurd (none-some x at)
any_false test (first ∷ xs) zero x none at = subst (λ y. test y ≡ false) (same_Some first x at) (or_false (test first) (list_any test xs) none).0
any_false test (first ∷ xs) (suc k) x none at = any_false test xs k x (or_false (test first) (list_any test xs) none).1 at

pub same_itself : (text : List ℕ) → bytes_eq text text ≡ true
same_itself text = (bytes_eq-Decides text text).1 refl

pub same_bytes : (a b : List ℕ) → bytes_eq a b ≡ true → a ≡ b
same_bytes a b e = (bytes_eq-Decides a b).0 e

-- ---- the first place

-- whether a place was found below the end
found_below : (n length k : ℕ) → cond (nat_lt n length) (Some n) None ≡ Some k → (n ≡ k) × (n < length)
found_below n length k e = by (nat_lt n length) refl e
  where
    by : (test : Bool) → nat_lt n length ≡ test → cond test (Some n) None ≡ Some k → (n ≡ k) × (n < length)
    by true h f = (same_Some n k f, grind (arith, nat_tests))
    by false h f = absurd (none-some k f)

below_found : (n length : ℕ) → n < length → cond (nat_lt n length) (Some n) None ≡ Some n
below_found n length less = let test : nat_lt n length ≡ true = grind (arith, nat_tests) in rw test refl

pub position_here : {A : Type 0} (test : A → Bool) (x : A) (xs : List A) → test x ≡ true → position test (x ∷ xs) ≡ Some 0
position_here test x xs e = rw e (below_found 0 (length (x ∷ xs)) (omega arith))

pub position_later : {A : Type 0} (test : A → Bool) (x : A) (xs : List A) (k : ℕ) → test x ≡ false → position test xs ≡ Some k → position test (x ∷ xs) ≡ Some (suc k)
position_later test x xs k e later =
    let found = found_below (position_or_len test xs) (length xs) k later in
    let next : 1 + position_or_len test xs ≡ suc k = omega (arith, found.0) in
    rw (e, next) (below_found (suc k) (length (x ∷ xs)) (omega (arith, found.0, found.1)))

-- where none passes, none is found
none_passes : {A : Type 0} (test : A → Bool) (xs : List A) → ((k : ℕ) (x : A) → slice_get xs k ≡ Some x → test x ≡ false) → position_or_len test xs ≡ length xs
none_passes test [] each = refl
none_passes test (x ∷ xs) each = rw (each 0 x refl) (omega (arith, none_passes test xs (λ k y at. each (suc k) y at)))

pub position_none : {A : Type 0} (test : A → Bool) (xs : List A) → ((k : ℕ) (x : A) → slice_get xs k ≡ Some x → test x ≡ false) → position test xs ≡ None
position_none test xs each =
    let all = none_passes test xs each in
    let past : nat_lt (position_or_len test xs) (length xs) ≡ false = grind (arith, nat_tests) in
    rw past refl

-- what is found passes
pub record Passes {A : Type 0} (test : A → Bool) (xs : List A) (k : ℕ) : Type 0 where
  pub item : A
  pub at : slice_get xs k ≡ Some item
  pub passes : test item ≡ true

found_later : (n length k : ℕ) → cond (nat_lt (1 + n) (suc length)) (Some (1 + n)) None ≡ Some k → (suc n ≡ k) × (n < length)
found_later n length k e = let f = found_below (1 + n) (suc length) k e in (omega (arith, f.0), omega (arith, f.1))

passes_behind : {A : Type 0} (test : A → Bool) (x : A) (xs : List A) (k : ℕ) (t : Bool) → test x ≡ t → ((j : ℕ) → position test xs ≡ Some j → Passes test xs j) → position test (x ∷ xs) ≡ Some k → Passes test (x ∷ xs) k
passes_behind test x xs k true h later e =
    let first : 0 ≡ k = same_Some 0 k (sym (position_here test x xs h) ∙ e) in
    subst (Passes test (x ∷ xs)) first (record { item = x; at = refl; passes = h })
passes_behind test x xs k false h later e =
    let behind = found_later (position_or_len test xs) (length xs) k (rw h at e) in
    let rest = later (position_or_len test xs) (below_found (position_or_len test xs) (length xs) behind.1) in
    subst (Passes test (x ∷ xs)) behind.0 (record { item = rest.item; at = rest.at; passes = rest.passes })

pub position_passes : {A : Type 0} (test : A → Bool) (xs : List A) (k : ℕ) → position test xs ≡ Some k → Passes test xs k
position_passes test [] k e = absurd (none-some k e)
position_passes test (x ∷ xs) k e = passes_behind test x xs k (test x) refl (λ j f. position_passes test xs j f) e

-- where none is found, none passes
later_missing : {A : Type 0} (test : A → Bool) (x : A) (xs : List A) (found : Option ℕ) → test x ≡ false → position test xs ≡ found → position test (x ∷ xs) ≡ None → found ≡ None
later_missing test x xs None h is e = refl
later_missing test x xs (Some k) h is e = absurd (none-some (suc k) (sym e ∙ position_later test x xs k h is))

misses_behind : {A : Type 0} (test : A → Bool) (x : A) (xs : List A) (t : Bool) → test x ≡ t → (position test xs ≡ None → list_any test xs ≡ false) → position test (x ∷ xs) ≡ None → list_any test (x ∷ xs) ≡ false
misses_behind test x xs true h later e = absurd (none-some 0 (sym e ∙ position_here test x xs h))
misses_behind test x xs false h later e = rw h (later (later_missing test x xs (position test xs) h refl e))

pub position_misses : {A : Type 0} (test : A → Bool) (xs : List A) → position test xs ≡ None → list_any test xs ≡ false
position_misses test [] e = refl
position_misses test (x ∷ xs) e = misses_behind test x xs (test x) refl (λ f. position_misses test xs f) e
