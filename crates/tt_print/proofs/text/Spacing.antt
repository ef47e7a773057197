-- Words with blanks in front of them.
use Rattle.std.proofs.Common.{◌≡◌, ℕ, List, [], ◌∷◌, ◌++◌, refl, ap, ◌∙◌, sym, map, take, length, ◌≤◌, append_assoc}
use Rattle.std.proofs.lemmas.List.{take_all}
use Rattle.std.proofs.lemmas.List.Concat.{flat_map-append}
use Rattle.std.specs.List.{flat_map}
use Rattle.tt_print.specs.text.Words.{spaced, separated}

pub spaced-append : (a b : List (List ℕ)) → spaced (a ++ b) ≡ spaced a ++ spaced b
unfolding spaced
spaced-append a b = flat_map-append (λ word. 32 ∷ word) a b

pub spaced_all : {X : Type 0} (f : X → List (List ℕ)) (xs : List X) → spaced (flat_map f xs) ≡ flat_map (λ x. spaced (f x)) xs
unfolding spaced
spaced_all f [] = refl
spaced_all f (x ∷ xs) = spaced-append (f x) (flat_map f xs) ∙ ap (λ rest. spaced (f x) ++ rest) (spaced_all f xs)

pub flat_map-map : {X Y Z : Type 0} (f : Y → List Z) (g : X → Y) (xs : List X) → flat_map f (map g xs) ≡ flat_map (λ x. f (g x)) xs
flat_map-map f g [] = refl
flat_map-map f g (x ∷ xs) = ap (λ rest. f (g x) ++ rest) (flat_map-map f g xs)

-- A list of things was written behind `head`, each by its words.
pub listed_written : {X : Type 0} (f : X → List (List ℕ)) (head words : List (List ℕ)) (xs ys : List X) (i : ℕ) (old mid new : List ℕ)
    → words ≡ head ++ flat_map f xs → mid ≡ old ++ spaced head → ys ≡ xs → length ys ≤ i
    → new ≡ mid ++ flat_map (λ x. spaced (f x)) (take i ys) → new ≡ old ++ spaced words
listed_written f head words xs ys i old mid new are before same all here =
    let taken : take i ys ≡ xs = take_all i ys all ∙ same in
    here ∙ ap (λ l. mid ++ flat_map (λ x. spaced (f x)) l) taken ∙ ap (λ m. m ++ flat_map (λ x. spaced (f x)) xs) before
    ∙ append_assoc old (spaced head) (flat_map (λ x. spaced (f x)) xs)
    ∙ ap (λ l. old ++ (spaced head ++ l)) (sym (spaced_all f xs)) ∙ ap (λ l. old ++ l) (sym (spaced-append head (flat_map f xs)))
    ∙ ap (λ l. old ++ spaced l) (sym are)

-- Some words were written, and then others behind them.
pub behind : (old mid new : List ℕ) (first others : List (List ℕ)) → mid ≡ old ++ spaced first → new ≡ mid ++ spaced others → new ≡ old ++ spaced (first ++ others)
behind old mid new first others before here =
    here ∙ ap (λ m. m ++ spaced others) before ∙ append_assoc old (spaced first) (spaced others) ∙ ap (λ l. old ++ l) (sym (spaced-append first others))

-- A list of things was written, with a word between any two.
pub separated_written : {X : Type 0} (f : X → List (List ℕ)) (between : List ℕ) (xs others : List X) (first : X) (i : ℕ) (old mid new : List ℕ)
    → xs ≡ first ∷ others → mid ≡ old ++ spaced (f first) → length others ≤ i
    → new ≡ mid ++ flat_map (λ x. spaced (between ∷ f x)) (take i others) → new ≡ old ++ spaced (separated between (map f xs))
separated_written f between xs others first i old mid new are before all here =
    listed_written (λ x. between ∷ f x) (f first) (separated between (map f xs)) others others i old mid new
    (ap (λ l. separated between (map f l)) are ∙ ap (λ l. f first ++ l) (flat_map-map (λ words. between ∷ words) f others))
    before refl all here

-- A list of things was written, each by its words.
pub all_written : {X : Type 0} (f : X → List (List ℕ)) (xs : List X) (i : ℕ) (old new : List ℕ) → length xs ≤ i
    → new ≡ old ++ flat_map (λ x. spaced (f x)) (take i xs) → new ≡ old ++ spaced (flat_map f xs)
all_written f xs i old new all here =
    here ∙ ap (λ l. old ++ flat_map (λ x. spaced (f x)) l) (take_all i xs all) ∙ ap (λ l. old ++ l) (sym (spaced_all f xs))
