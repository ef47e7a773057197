-- The first of several refusals.
use Rattle.std.proofs.Common.{◌≡◌, List, [], ◌∷◌, ◌++◌, Option, Some, None, refl, ap, sym, ◌∙◌}
use Rattle.std.specs.Option.{option_or}
use Rattle.tt_plain.specs.refusal.{first_some}

pub first_append : {A : Type 0} (xs ys : List (Option A)) → first_some (xs ++ ys) ≡ option_or (first_some xs) (first_some ys)
first_append [] ys = refl
first_append (None ∷ xs) ys = first_append xs ys
first_append (Some x ∷ xs) ys = refl

pub first_three : {A : Type 0} (a b c : Option A) → option_or (option_or a b) c ≡ first_some (a ∷ b ∷ c ∷ [])
first_three (Some a) b c = refl
first_three None (Some b) c = refl
first_three None None (Some c) = refl
first_three None None None = refl

pub first_four : {A : Type 0} (a b c d : Option A) → option_or (option_or (option_or a b) c) d ≡ first_some (a ∷ b ∷ c ∷ d ∷ [])
first_four (Some a) b c d = refl
first_four None (Some b) c d = refl
first_four None None (Some c) d = refl
first_four None None None (Some d) = refl
first_four None None None None = refl

-- where the first group has none, those behind it decide
pub behind_none : {A : Type 0} (xs ys : List (Option A)) → first_some xs ≡ None → first_some (xs ++ ys) ≡ first_some ys
behind_none xs ys none = first_append xs ys ∙ ap (λ r. option_or r (first_some ys)) none

pub in_front : {A : Type 0} (xs ys : List (Option A)) (x : A) → first_some xs ≡ Some x → first_some (xs ++ ys) ≡ Some x
in_front xs ys x found = first_append xs ys ∙ ap (λ r. option_or r (first_some ys)) found

pub three_groups : {A : Type 0} (xs ys zs : List (Option A)) → option_or (option_or (first_some xs) (first_some ys)) (first_some zs) ≡ first_some (xs ++ ys ++ zs)
three_groups xs ys zs = sym (first_append (xs ++ ys) zs ∙ ap (λ r. option_or r (first_some zs)) (first_append xs ys))

pub first_none : {A : Type 0} (x : Option A) (xs : List (Option A)) → x ≡ None → first_some xs ≡ first_some (x ∷ xs)
first_none x xs none = ap (λ y. first_some (y ∷ xs)) (sym none)
