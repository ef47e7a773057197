-- Lists that are sieved, once and twice.
use Rattle.std.specs.Prelude.{Bool, List, [], cond, false, filter, refl, true, ◌∷◌, ◌≡◌}
use Rattle.std.proofs.Common.{ap, sym, ◌∙◌}
use Rattle.std.proofs.lemmas.Bool.{false≢true}
use Rattle.tt_plain.specs.law.Lists.{Every}

-- what passes the first test passes the other too
pub filter_keeps : {A : Type 0} (p q : A → Bool) (xs : List A) → ((x : A) → p x ≡ true → q x ≡ true) → filter p (filter q xs) ≡ filter p xs
filter_keeps p q [] all = refl
filter_keeps p q (x ∷ xs) all = by (filter_keeps p q xs all) (p x) refl (q x) refl
  where
    by : filter p (filter q xs) ≡ filter p xs → (a : Bool) → p x ≡ a → (b : Bool) → q x ≡ b → filter p (cond b (x ∷ filter q xs) (filter q xs)) ≡ cond a (x ∷ filter p xs) (filter p xs)
    by rest true e true f = ap (λ a. cond a (x ∷ filter p (filter q xs)) (filter p (filter q xs))) e ∙ ap (λ ys. x ∷ ys) rest
    by rest true e false f = absurd (false≢true (sym f ∙ all x e))
    by rest false e true f = ap (λ a. cond a (x ∷ filter p (filter q xs)) (filter p (filter q xs))) e ∙ rest
    by rest false e false f = rest

-- what passes the first test does not pass the other
pub filter_none : {A : Type 0} (p q : A → Bool) (xs : List A) → ((x : A) → p x ≡ true → q x ≡ false) → filter p (filter q xs) ≡ []
filter_none p q [] all = refl
filter_none p q (x ∷ xs) all = by (filter_none p q xs all) (q x) refl (p x) refl
  where
    by : filter p (filter q xs) ≡ [] → (b : Bool) → q x ≡ b → (a : Bool) → p x ≡ a → filter p (cond b (x ∷ filter q xs) (filter q xs)) ≡ []
    by rest true f true e = absurd (false≢true (sym (all x e) ∙ f))
    by rest true f false e = ap (λ a. cond a (x ∷ filter p (filter q xs)) (filter p (filter q xs))) e ∙ rest
    by rest false f a e = rest

-- all pass, and none does
pub filter_all : {A : Type 0} (p : A → Bool) (xs : List A) → Every (λ x. p x ≡ true) xs → filter p xs ≡ xs
filter_all p [] all = refl
filter_all p (x ∷ xs) all = ap (λ b. cond b (x ∷ filter p xs) (filter p xs)) all.0 ∙ ap (λ ys. x ∷ ys) (filter_all p xs all.1)

pub filter_out : {A : Type 0} (p : A → Bool) (xs : List A) → Every (λ x. p x ≡ false) xs → filter p xs ≡ []
filter_out p [] all = refl
filter_out p (x ∷ xs) all = ap (λ b. cond b (x ∷ filter p xs) (filter p xs)) all.0 ∙ filter_out p xs all.1
