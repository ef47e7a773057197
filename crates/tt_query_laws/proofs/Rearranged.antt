-- Lists with the same items in another order, and what does not depend on the order.
use Rattle.std.specs.Prelude.{Bool, List, None, Option, Some, [], false, filter, fold, length, map, refl, true, ◌∷◌, ◌≡◌}
use Rattle.std.proofs.Common.{ap, cond, suc, ◌∙◌}

pub data Rearranges {A : Type 0} : List A → List A → Type 0 where
  nothing : Rearranges [] []
  keeps : (x : A) (xs ys : List A) → Rearranges xs ys → Rearranges (x ∷ xs) (x ∷ ys)
  exchanges : (x y : A) (xs : List A) → Rearranges (x ∷ y ∷ xs) (y ∷ x ∷ xs)
  chains : (xs ys zs : List A) → Rearranges xs ys → Rearranges ys zs → Rearranges xs zs

pub itself : {A : Type 0} (xs : List A) → Rearranges xs xs
itself [] = nothing
itself (x ∷ xs) = keeps x xs xs (itself xs)

pub backwards : {A : Type 0} (xs ys : List A) → Rearranges xs ys → Rearranges ys xs
backwards _ _ nothing = nothing
backwards _ _ (keeps x xs ys r) = keeps x ys xs (backwards xs ys r)
backwards _ _ (exchanges x y xs) = exchanges y x xs
backwards _ _ (chains xs ys zs r s) = chains zs ys xs (backwards ys zs s) (backwards xs ys r)

pub rearranged_map : {A B : Type 0} (f : A → B) (xs ys : List A) → Rearranges xs ys → Rearranges (map f xs) (map f ys)
rearranged_map f _ _ nothing = nothing
rearranged_map f _ _ (keeps x xs ys r) = keeps (f x) (map f xs) (map f ys) (rearranged_map f xs ys r)
rearranged_map f _ _ (exchanges x y xs) = exchanges (f x) (f y) (map f xs)
rearranged_map f _ _ (chains xs ys zs r s) = chains (map f xs) (map f ys) (map f zs) (rearranged_map f xs ys r) (rearranged_map f ys zs s)

keeps_if : {A : Type 0} (test : Bool) (x : A) (xs ys : List A) → Rearranges xs ys → Rearranges (cond test (x ∷ xs) xs) (cond test (x ∷ ys) ys)
keeps_if true x xs ys r = keeps x xs ys r
keeps_if false x xs ys r = r

exchanges_if : {A : Type 0} (p q : Bool) (x y : A) (xs : List A) → Rearranges (cond p (x ∷ cond q (y ∷ xs) xs) (cond q (y ∷ xs) xs)) (cond q (y ∷ cond p (x ∷ xs) xs) (cond p (x ∷ xs) xs))
exchanges_if true true x y xs = exchanges x y xs
exchanges_if true false x y xs = itself (x ∷ xs)
exchanges_if false true x y xs = itself (y ∷ xs)
exchanges_if false false x y xs = itself xs

pub rearranged_filter : {A : Type 0} (test : A → Bool) (xs ys : List A) → Rearranges xs ys → Rearranges (filter test xs) (filter test ys)
rearranged_filter test _ _ nothing = nothing
rearranged_filter test _ _ (keeps x xs ys r) = keeps_if (test x) x (filter test xs) (filter test ys) (rearranged_filter test xs ys r)
rearranged_filter test _ _ (exchanges x y xs) = exchanges_if (test x) (test y) x y (filter test xs)
rearranged_filter test _ _ (chains xs ys zs r s) = chains (filter test xs) (filter test ys) (filter test zs) (rearranged_filter test xs ys r) (rearranged_filter test ys zs s)

pub rearranged_length : {A : Type 0} (xs ys : List A) → Rearranges xs ys → length xs ≡ length ys
rearranged_length _ _ nothing = refl
rearranged_length _ _ (keeps x xs ys r) = ap suc (rearranged_length xs ys r)
rearranged_length _ _ (exchanges x y xs) = refl
rearranged_length _ _ (chains xs ys zs r s) = rearranged_length xs ys r ∙ rearranged_length ys zs s

-- a fold whose steps may be exchanged
pub rearranged_fold : {A B : Type 0} (f : B → A → B) → ((b : B) (x y : A) → f (f b x) y ≡ f (f b y) x) → (b : B) (xs ys : List A) → Rearranges xs ys → fold f b xs ≡ fold f b ys
rearranged_fold f free b _ _ nothing = refl
rearranged_fold f free b _ _ (keeps x xs ys r) = rearranged_fold f free (f b x) xs ys r
rearranged_fold f free b _ _ (exchanges x y xs) = ap (λ c. fold f c xs) (free b x y)
rearranged_fold f free b _ _ (chains xs ys zs r s) = rearranged_fold f free b xs ys r ∙ rearranged_fold f free b ys zs s

-- Both lack something, or both are there and one is the other in another order.
pub data BothRearrange {A : Type 0} : Option (List A) → Option (List A) → Type 0 where
  neither : BothRearrange None None
  both : (xs ys : List A) → Rearranges xs ys → BothRearrange (Some xs) (Some ys)
