-- Lists that change item by item.
use Rattle.std.proofs.Common.{◌≡◌, ℕ, zero, suc, ◌+◌, ◌<◌, ◌≤◌, Bool, true, false, cond, List, [], ◌∷◌, ◌++◌, length, map, take, drop, get_or, set, refl, ap, sym, ◌∙◌, arith, append-nil}
use Rattle.std.specs.List.{filter}
use Rattle.std.specs.Prelude.{fold}

-- ---- in place: the items in front are changed, those behind are as before

abbrev pub part_mapped : {A : Type 0} → (A → A) → List A → ℕ → List A
part_mapped f old i = map f (take i old) ++ drop i old

pub none_mapped : {A : Type 0} (f : A → A) (old : List A) → old ≡ part_mapped f old 0
none_mapped f [] = refl
none_mapped f (x ∷ old) = refl

pub mapped_get : {A : Type 0} (f : A → A) (old : List A) (i : ℕ) (d : A) → get_or (part_mapped f old i) i d ≡ get_or old i d
mapped_get f [] zero d = refl
mapped_get f [] (suc i) d = refl
mapped_get f (x ∷ old) zero d = refl
mapped_get f (x ∷ old) (suc i) d = mapped_get f old i d

pub mapped_length : {A : Type 0} (f : A → A) (old : List A) (i : ℕ) → length (part_mapped f old i) ≡ length old
mapped_length f [] zero = refl
mapped_length f [] (suc i) = refl
mapped_length f (x ∷ old) zero = refl
mapped_length f (x ∷ old) (suc i) = ap suc (mapped_length f old i)

mapped_suc : {A : Type 0} (f : A → A) (old : List A) (i : ℕ) (d : A) → i < length old → set (part_mapped f old i) i (f (get_or old i d)) ≡ part_mapped f old (suc i)
mapped_suc f [] i d below = absurd (omega arith)
mapped_suc f (x ∷ old) zero d below = refl
mapped_suc f (x ∷ old) (suc i) d below = ap (λ xs. f x ∷ xs) (mapped_suc f old i d (omega arith))

-- one more item is changed
pub mapped_next : {A : Type 0} (f : A → A) (old now : List A) (i : ℕ) (d : A) → i < length old → now ≡ part_mapped f old i → set now i (f (get_or now i d)) ≡ part_mapped f old (i + 1)
mapped_next f old now i d below is =
    ap (λ xs. set xs i (f (get_or xs i d))) is
    ∙ ap (λ x. set (part_mapped f old i) i (f x)) (mapped_get f old i d)
    ∙ mapped_suc f old i d below
    ∙ ap (part_mapped f old) (next i)
  where
    next : (i : ℕ) → suc i ≡ i + 1
    next i = omega arith

pub all_mapped : {A : Type 0} (f : A → A) (old : List A) (i : ℕ) → length old ≤ i → part_mapped f old i ≡ map f old
all_mapped f [] zero past = refl
all_mapped f [] (suc i) past = refl
all_mapped f (x ∷ old) zero past = absurd (omega arith)
all_mapped f (x ∷ old) (suc i) past = ap (λ xs. f x ∷ xs) (all_mapped f old i (omega arith))

-- ---- one more at the end

pub filter_one : {A : Type 0} (test : A → Bool) (xs : List A) (x : A) → filter test (xs ++ x ∷ []) ≡ filter test xs ++ cond (test x) (x ∷ []) []
filter_one test [] x = by (test x) refl
  where
    by : (b : Bool) → test x ≡ b → filter test (x ∷ []) ≡ cond (test x) (x ∷ []) []
    by true h = rw h refl
    by false h = rw h refl
filter_one test (y ∷ xs) x = by (test y) refl (filter_one test xs x)
  where
    by : (b : Bool) → test y ≡ b → filter test (xs ++ x ∷ []) ≡ filter test xs ++ cond (test x) (x ∷ []) [] → filter test (y ∷ (xs ++ x ∷ [])) ≡ filter test (y ∷ xs) ++ cond (test x) (x ∷ []) []
    by true h later = rw h (ap (λ ys. y ∷ ys) later)
    by false h later = rw h later

pub filter_kept : {A : Type 0} (test : A → Bool) (xs : List A) (x : A) (kept : List A) → test x ≡ true → kept ≡ filter test xs → kept ++ x ∷ [] ≡ filter test (xs ++ x ∷ [])
filter_kept test xs x kept h is = sym (filter_one test xs x ∙ ap (λ b. filter test xs ++ cond b (x ∷ []) []) h ∙ ap (λ ys. ys ++ x ∷ []) (sym is))

pub filter_left : {A : Type 0} (test : A → Bool) (xs : List A) (x : A) (kept : List A) → test x ≡ false → kept ≡ filter test xs → kept ≡ filter test (xs ++ x ∷ [])
filter_left test xs x kept h is = is ∙ sym (filter_one test xs x ∙ ap (λ b. filter test xs ++ cond b (x ∷ []) []) h ∙ append-nil (filter test xs))

pub fold_one : {A B : Type 0} (f : B → A → B) (start : B) (xs : List A) (x : A) → fold f start (xs ++ x ∷ []) ≡ f (fold f start xs) x
fold_one f start [] x = refl
fold_one f start (y ∷ xs) x = fold_one f (f start y) xs x

pub map_one : {A B : Type 0} (f : A → B) (xs : List A) (x : A) → map f (xs ++ x ∷ []) ≡ map f xs ++ f x ∷ []
map_one f [] x = refl
map_one f (y ∷ xs) x = ap (λ ys. f y ∷ ys) (map_one f xs x)
