-- What holds of each item of a list, and of each two, through filters and joins.
use Rattle.std.specs.List.{cons_option, list_any}
use Rattle.std.specs.Prelude.{Bool, List, None, Option, Some, [], false, filter, filter_map, map, refl, slice_get, slice_set, true, ℕ, ◌++◌, ◌∷◌, ◌≡◌}
use Rattle.std.proofs.Common.{ap, cond, inl, inr, subst, suc, zero, ◌∙◌}
use Rattle.std.proofs.Math.Bool.{or-true}
use Rattle.std.proofs.lemmas.Bool.{or_cases}
use Rattle.std.proofs.lemmas.Option.{none-some, same_Some}
use Rattle.tt_plain.proofs.law.Gives.{Gives}
use Rattle.tt_plain.specs.effect.End.{kept}
use Rattle.tt_plain.specs.law.Lists.{EachTwo, Every}

pub every_on : {A : Type 0} (P Q : A → Type 0) (xs : List A) → ((x : A) → P x → Q x) → Every P xs → Every Q xs
every_on P Q [] on all = tt
every_on P Q (x ∷ xs) on all = (on x all.0, every_on P Q xs on all.1)

pub every-append : {A : Type 0} (P : A → Type 0) (xs ys : List A) → Every P xs → Every P ys → Every P (xs ++ ys)
every-append P [] ys left right = right
every-append P (x ∷ xs) ys left right = (left.0, every-append P xs ys left.1 right)

every_if : {A : Type 0} (P : A → Type 0) (test : Bool) (x : A) (xs : List A) → (test ≡ true → P x) → Every P xs → Every P (cond test (x ∷ xs) xs)
every_if P true x xs here all = (here refl, all)
every_if P false x xs here all = all

pub every-filter : {A : Type 0} (P : A → Type 0) (test : A → Bool) (xs : List A) → Every P xs → Every P (filter test xs)
every-filter P test [] all = tt
every-filter P test (x ∷ xs) all = every_if P (test x) x (filter test xs) (λ e. all.0) (every-filter P test xs all.1)

-- each item that a filter keeps passes its test
pub every_kept : {A : Type 0} (test : A → Bool) (xs : List A) → Every (λ x. test x ≡ true) (filter test xs)
every_kept test [] = tt
every_kept test (x ∷ xs) = every_if (λ y. test y ≡ true) (test x) x (filter test xs) (λ e. e) (every_kept test xs)

pub every-map : {A B : Type 0} (P : B → Type 0) (f : A → B) (xs : List A) → Every (λ x. P (f x)) xs → Every P (map f xs)
every-map P f [] all = tt
every-map P f (x ∷ xs) all = (all.0, every-map P f xs all.1)

pub every-set : {A : Type 0} (P : A → Type 0) (xs : List A) (place : ℕ) (x : A) → Every P xs → P x → Every P (slice_set xs place x)
every-set P [] place x all here = tt
every-set P (y ∷ xs) zero x all here = (here, all.1)
every-set P (y ∷ xs) (suc place) x all here = (all.0, every-set P xs place x all.1 here)

pub every_at : {A : Type 0} (P : A → Type 0) (xs : List A) (place : ℕ) (x : A) → Every P xs → slice_get xs place ≡ Some x → P x
every_at P [] place x all at = absurd (none-some x at)
every_at P (y ∷ xs) zero x all at = subst P (same_Some y x at) all.0
every_at P (y ∷ xs) (suc place) x all at = every_at P xs place x all.1 at

pub two-append : {A : Type 0} (R : A → A → Type 0) (xs ys : List A) → EachTwo R xs → EachTwo R ys → Every (λ x. Every (R x) ys) xs → EachTwo R (xs ++ ys)
two-append R [] ys left right between = right
two-append R (x ∷ xs) ys left right between = (every-append (R x) xs ys left.0 between.0, two-append R xs ys left.1 right between.1)

two_if : {A : Type 0} (R : A → A → Type 0) (test : Bool) (x : A) (xs : List A) → Every (R x) xs → EachTwo R xs → EachTwo R (cond test (x ∷ xs) xs)
two_if R true x xs here all = (here, all)
two_if R false x xs here all = all

pub two-filter : {A : Type 0} (R : A → A → Type 0) (test : A → Bool) (xs : List A) → EachTwo R xs → EachTwo R (filter test xs)
two-filter R test [] all = tt
two-filter R test (x ∷ xs) all = two_if R (test x) x (filter test xs) (every-filter (R x) test xs all.0) (two-filter R test xs all.1)

every_option : {A : Type 0} (P : A → Type 0) (first : Option A) (xs : List A) → Gives P first → Every P xs → Every P (cons_option first xs)
every_option P None xs here all = all
every_option P (Some x) xs here all = (here, all)

pub every-filter_map : {A B : Type 0} (P : B → Type 0) (f : A → Option B) (xs : List A) → ((x : A) → Gives P (f x)) → Every P (filter_map f xs)
every-filter_map P f [] gives = tt
every-filter_map P f (x ∷ xs) gives = every_option P (f x) (filter_map f xs) (gives x) (every-filter_map P f xs gives)

pub every_from : {A : Type 0} (P : A → Type 0) (xs : List A) → ((place : ℕ) (x : A) → slice_get xs place ≡ Some x → P x) → Every P xs
every_from P [] at = tt
every_from P (x ∷ xs) at = (at 0 x refl, every_from P xs (λ place y e. at (suc place) y e))

pub any_at : {A : Type 0} (test : A → Bool) (xs : List A) (place : ℕ) (x : A) → slice_get xs place ≡ Some x → test x ≡ true → list_any test xs ≡ true
any_at test [] place x at e = absurd (none-some x at)
any_at test (y ∷ xs) zero x at e = rw (ap test (same_Some y x at) ∙ e) refl
any_at test (y ∷ xs) (suc place) x at e = rw (any_at test xs place x at e) (or-true (test y))

any_kept : {A : Type 0} (test : A → Bool) (p : Bool) (y : A) (ys : List A) → list_any test ys ≡ true → list_any test (cond p (y ∷ ys) ys) ≡ true
any_kept test true y ys e = rw e (or-true (test y))
any_kept test false y ys e = e

pub any_filtered : {A : Type 0} (test keep : A → Bool) (xs : List A) (place : ℕ) (x : A) → slice_get xs place ≡ Some x → keep x ≡ true → test x ≡ true → list_any test (filter keep xs) ≡ true
any_filtered test keep [] place x at kept e = absurd (none-some x at)
any_filtered test keep (y ∷ xs) zero x at kept e = rw (ap keep (same_Some y x at) ∙ kept) (rw (ap test (same_Some y x at) ∙ e) refl)
any_filtered test keep (y ∷ xs) (suc place) x at kept e = any_kept test (keep y) y (filter keep xs) (any_filtered test keep xs place x at kept e)

any_more : {A : Type 0} (test : A → Bool) (p : Bool) (y : A) (xs ys : List A) → (list_any test ys ≡ true → list_any test xs ≡ true) → list_any test (cond p (y ∷ ys) ys) ≡ true → list_any test (y ∷ xs) ≡ true
any_more test true y xs ys on e = elim (or_cases (test y) (list_any test ys) e) [ inl h ↦ rw h refl | inr h ↦ rw (on h) (or-true (test y)) ]
any_more test false y xs ys on e = rw (on e) (or-true (test y))

pub any_of_filter : {A : Type 0} (test keep : A → Bool) (xs : List A) → list_any test (filter keep xs) ≡ true → list_any test xs ≡ true
any_of_filter test keep [] e = e
any_of_filter test keep (y ∷ xs) e = any_more test (keep y) y xs (filter keep xs) (λ f. any_of_filter test keep xs f) e
