-- Lists: tests over what was mapped or filtered, the least of some numbers, and the run of one key.
use Rattle.std.proofs.Common.{◌≡◌, ℕ, zero, suc, ◌+◌, ◌<◌, ◌≤◌, Bool, true, false, ◌==◌, ◌&&◌, ◌||◌, min, List, [], ◌∷◌, ◌++◌, length, map, filter, cond, take, drop, get_or, slice_index_or, Some, None, unwrap_or, refl, ap, sym, ◌∙◌, inl, inr, arith}
use Rattle.std.specs.List.{list_any, fold}
use Rattle.std.proofs.lemmas.List.{map-append, map_more}
use Rattle.std.proofs.lemmas.List.Elements.{filter_more}
use Rattle.std.proofs.lemmas.List.Folds.{list_any_more}
use Rattle.std.specs.List.Sorted.{IsNonDecreasing}
use Rattle.std.proofs.lemmas.Bool.{cases_order, eq-eqb, ne_eqb, eqb-true, or_cases}
use Rattle.tt_layout.specs.Numbers.{has, AscendsFrom}
use Rattle.tt_layout.specs.Owners.{least_or}
use Rattle.tt_owner.specs.Holders.{least_of}

pub list_any-map : {X Y : Type 0} (f : Y → Bool) (g : X → Y) (xs : List X) → list_any f (map g xs) ≡ list_any (λ x. f (g x)) xs
list_any-map f g [] = refl
list_any-map f g (x ∷ xs) = ap (λ (b : Bool). f (g x) || b) (list_any-map f g xs)

pub list_any-filter : {X : Type 0} (f q : X → Bool) (xs : List X) → list_any f (filter q xs) ≡ list_any (λ x. q x && f x) xs
list_any-filter f q [] = refl
list_any-filter f q (x ∷ xs) = step (q x) ∙ ap (λ (b : Bool). (q x && f x) || b) (list_any-filter f q xs)
  where
    step : (b : Bool) → list_any f (cond b (x ∷ filter q xs) (filter q xs)) ≡ ((b && f x) || list_any f (filter q xs))
    step true = refl
    step false = refl

pub has-mapped : {X : Type 0} (q : X → Bool) (n : X → ℕ) (xs : List X) (k : ℕ) → has (map n (filter q xs)) k ≡ list_any (λ x. q x && (n x == k)) xs
has-mapped q n xs k = list_any-map (λ m. m == k) n (filter q xs) ∙ list_any-filter (λ x. n x == k) q xs

-- ---- the least of some numbers

then_true : (a : Bool) → (a || true) ≡ true
then_true true = refl
then_true false = refl

pub least_in : (n : ℕ) (ns : List ℕ) → has (n ∷ ns) (fold min n ns) ≡ true
least_in n [] = ap (λ (b : Bool). b || false) (eq-eqb n n refl)
least_in n (m ∷ ms) =
    elim (or_cases (min n m == fold min (min n m) ms) (has ms (fold min (min n m) ms)) (least_in (min n m) ms)) [
      | inl here ↦ first (fold min (min n m) ms) (eqb-true (min n m) (fold min (min n m) ms) here)
      | inr later ↦ ap (λ (b : Bool). (n == fold min (min n m) ms) || ((m == fold min (min n m) ms) || b)) later ∙ any (n == fold min (min n m) ms) (m == fold min (min n m) ms)
    ]
  where
    any : (a b : Bool) → (a || (b || true)) ≡ true
    any true b = refl
    any false true = refl
    any false false = refl

    first : (k : ℕ) → min n m ≡ k → has (n ∷ m ∷ ms) k ≡ true
    first k e =
        elim (cases_order n m) [
          | inl same ↦ ap (λ (b : Bool). b || has (m ∷ ms) k) (eq-eqb n k (omega arith))
          | inr (inl below) ↦ ap (λ (b : Bool). b || has (m ∷ ms) k) (eq-eqb n k (omega arith))
          | inr (inr above) ↦ ap (λ (b : Bool). (n == k) || (b || has ms k)) (eq-eqb m k (omega arith)) ∙ then_true (n == k)
        ]

least_low : (n : ℕ) (ns : List ℕ) (k : ℕ) → has (n ∷ ns) k ≡ true → fold min n ns ≤ k
least_low n [] k h =
    elim (or_cases (n == k) false h) [
      | inl here ↦ omega (arith, eqb-true n k here)
      | inr later ↦ absurd (cc)
    ]
least_low n (m ∷ ms) k h =
    let low : fold min (min n m) ms ≤ min n m = least_low (min n m) ms (min n m) (ap (λ (b : Bool). b || has ms (min n m)) (eq-eqb (min n m) (min n m) refl)) in
    elim (or_cases (n == k) (has (m ∷ ms) k) h) [
      | inl here ↦ omega (arith, eqb-true n k here, low)
      | inr more ↦ elim (or_cases (m == k) (has ms k) more) [
        | inl here ↦ omega (arith, eqb-true m k here, low)
        | inr later ↦ least_low (min n m) ms k (ap (λ (b : Bool). (min n m == k) || b) later ∙ then_true (min n m == k))
      ]
    ]

pub same_least : (xs ys : List ℕ) → ((k : ℕ) → has xs k ≡ has ys k) → least_of xs ≡ least_of ys
same_least [] [] same = refl
same_least [] (y ∷ ys) same = let none : false ≡ true = same (fold min y ys) ∙ least_in y ys in absurd (cc)
same_least (x ∷ xs) [] same = let none : false ≡ true = sym (same (fold min x xs)) ∙ least_in x xs in absurd (cc)
same_least (x ∷ xs) (y ∷ ys) same =
    let up : fold min y ys ≤ fold min x xs = least_low y ys (fold min x xs) (sym (same (fold min x xs)) ∙ least_in x xs) in
    let down : fold min x xs ≤ fold min y ys = least_low x xs (fold min y ys) (same (fold min y ys) ∙ least_in y ys) in
    ap Some (omega (arith, up, down))

pub least_more : (ns : List ℕ) (k : ℕ) → least_of (ns ++ k ∷ []) ≡ elim (least_of ns) [ None ↦ Some k | Some n ↦ Some (min n k) ]
least_more [] k = refl
least_more (n ∷ ns) k = ap Some (go n ns)
  where
    go : (n : ℕ) (ns : List ℕ) → fold min n (ns ++ k ∷ []) ≡ min (fold min n ns) k
    go n [] = refl
    go n (m ∷ ms) = go (min n m) ms

pub least_or_is : (other : ℕ) (ns : List ℕ) → unwrap_or (least_of ns) other ≡ least_or other ns
least_or_is other [] = refl
least_or_is other (n ∷ ns) = refl

-- ---- lists that ascend

low_in : (ns : List ℕ) (low : ℕ) → AscendsFrom low ns → (k d : ℕ) → k < length ns → low ≤ get_or ns k d
low_in [] low up k d h = absurd (omega arith)
low_in (n ∷ ns) low up zero d h = up.0
low_in (n ∷ ns) low up (suc k) d h = omega (arith, up.0, low_in ns (n + 1) up.1 k d (omega arith))

pub rises : (ns : List ℕ) (low : ℕ) → AscendsFrom low ns → IsNonDecreasing ns
rises [] low up i j d h k = absurd (omega arith)
rises (n ∷ ns) low up zero zero d h k = omega arith
rises (n ∷ ns) low up zero (suc j) d h k = omega (arith, low_in ns (n + 1) up.1 j d (omega arith))
rises (n ∷ ns) low up (suc i) zero d h k = absurd (omega arith)
rises (n ∷ ns) low up (suc i) (suc j) d h k = rises ns (n + 1) up.1 i j d (omega arith) (omega arith)

-- ---- the run of one key

pub run_bounds : {X : Type 0} (n : X → ℕ) (xs : List X) (key begin end : ℕ) (d : X) → begin ≤ length xs
    → ((k : ℕ) (d : X) → 0 ≤ k → k < begin → n (slice_index_or xs k d) < key)
    → ((k : ℕ) (d : X) → end ≤ k → k < length xs → key < n (slice_index_or xs k d)) → begin ≤ end
run_bounds n xs key begin end d inside below above =
    elim (cases_order begin end) [
      | inl same ↦ omega arith
      | inr (inl less) ↦ omega arith
      | inr (inr more) ↦ absurd (omega (arith, below end d (omega arith) more, above end d (omega arith) (omega arith)))
    ]

pub run_is : {X : Type 0} (n : X → ℕ) (xs : List X) (key begin end : ℕ)
    → begin ≤ length xs → end ≤ length xs
    → ((k : ℕ) (d : X) → 0 ≤ k → k < begin → n (slice_index_or xs k d) < key)
    → ((k : ℕ) (d : X) → begin ≤ k → k < length xs → key ≤ n (slice_index_or xs k d))
    → ((k : ℕ) (d : X) → 0 ≤ k → k < end → n (slice_index_or xs k d) ≤ key)
    → ((k : ℕ) (d : X) → end ≤ k → k < length xs → key < n (slice_index_or xs k d))
    → drop begin (take end xs) ≡ filter (λ x. n x == key) xs
run_is n [] key zero zero b e below later up_to above = refl
run_is n [] key zero (suc end) b e below later up_to above = absurd (omega arith)
run_is n [] key (suc begin) end b e below later up_to above = absurd (omega arith)
run_is n (x ∷ xs) key (suc begin) (suc end) b e below later up_to above =
    run_is n xs key begin end (omega arith) (omega arith)
    (λ k d h i. below (suc k) d (omega arith) (omega arith)) (λ k d h i. later (suc k) d (omega arith) (omega arith))
    (λ k d h i. up_to (suc k) d (omega arith) (omega arith)) (λ k d h i. above (suc k) d (omega arith) (omega arith))
    ∙ sym (ap (λ (t : Bool). cond t (x ∷ filter (λ x. n x == key) xs) (filter (λ x. n x == key) xs)) (ne_eqb (n x) key (λ same. omega (arith, below 0 x (omega arith) (omega arith)))))
run_is {X = X} n (x ∷ xs) key zero (suc end) b e below later up_to above =
    ap (λ (l : List X). x ∷ l)
    (run_is n xs key zero end (omega arith) (omega arith)
    (λ k d h i. absurd (omega arith)) (λ k d h i. later (suc k) d (omega arith) (omega arith))
    (λ k d h i. up_to (suc k) d (omega arith) (omega arith)) (λ k d h i. above (suc k) d (omega arith) (omega arith)))
    ∙ sym (ap (λ (t : Bool). cond t (x ∷ filter (λ x. n x == key) xs) (filter (λ x. n x == key) xs))
    (eq-eqb (n x) key (omega (arith, later 0 x (omega arith) (omega arith), up_to 0 x (omega arith) (omega arith)))))
run_is n (x ∷ xs) key zero zero b e below later up_to above =
    run_is n xs key zero zero (omega arith) (omega arith)
    (λ k d h i. absurd (omega arith)) (λ k d h i. later (suc k) d (omega arith) (omega arith))
    (λ k d h i. absurd (omega arith)) (λ k d h i. above (suc k) d (omega arith) (omega arith))
    ∙ sym (ap (λ (t : Bool). cond t (x ∷ filter (λ x. n x == key) xs) (filter (λ x. n x == key) xs)) (ne_eqb (n x) key (λ same. omega (arith, above 0 x (omega arith) (omega arith)))))
run_is n (x ∷ xs) key (suc begin) zero b e below later up_to above =
    absurd (omega (arith, below 0 x (omega arith) (omega arith), above 0 x (omega arith) (omega arith)))

-- ---- one more, as a loop goes on

pub any_more : {X : Type 0} (q : X → Bool) (items xs : List X) (i : ℕ) (x : X) (old new : Bool) → items ≡ xs → x ≡ get_or items i x → i < length items
    → new ≡ (old || q x) → old ≡ list_any q (take i xs) → new ≡ list_any q (take (i + 1) xs)
any_more {X = X} q items xs i x old new same is inside e f =
    e ∙ ap (λ (b : Bool). b || q x) f
    ∙ ap (λ (y : X). list_any q (take i xs) || q y) (is ∙ ap (λ (l : List X). get_or l i x) same)
    ∙ sym (list_any_more q xs i x (omega (arith, ap length same)))

pub mapped_more : {X Y : Type 0} (f : X → Y) (q : X → Bool) (items xs : List X) (i : ℕ) (x : X) (old new : List Y) → items ≡ xs → x ≡ get_or items i x → i < length items
    → new ≡ old ++ cond (q x) (f x ∷ []) [] → old ≡ map f (filter q (take i xs)) → new ≡ map f (filter q (take (i + 1) xs))
mapped_more {X = X} {Y = Y} f q items xs i x old new same is inside e g =
    let here : x ≡ get_or xs i x = is ∙ ap (λ (l : List X). get_or l i x) same in
    e
    ∙ ap (λ (ys : List Y). ys ++ cond (q x) (f x ∷ []) []) g
    ∙ ap (λ (ys : List Y). map f (filter q (take i xs)) ++ ys) (one (q x) x)
    ∙ ap (λ (y : X). map f (filter q (take i xs)) ++ map f (cond (q y) (y ∷ []) [])) here
    ∙ sym (map-append f (filter q (take i xs)) (cond (q (get_or xs i x)) (get_or xs i x ∷ []) []))
    ∙ ap (map f) (sym (filter_more q xs i x (omega (arith, ap length same))))
  where
    one : (b : Bool) (x : X) → cond b (f x ∷ []) [] ≡ map f (cond b (x ∷ []) [])
    one true x = refl
    one false x = refl

pub item_more : {X Y : Type 0} (f : X → Y) (items xs : List X) (i : ℕ) (d : X) (old new : List Y) (y : Y) → items ≡ xs → i < length items
    → new ≡ old ++ y ∷ [] → y ≡ f (get_or items i d) → old ≡ map f (take i xs) → new ≡ map f (take (i + 1) xs)
item_more {X = X} {Y = Y} f items xs i d old new y same inside e is g =
    e
    ∙ ap (λ (z : Y). old ++ z ∷ []) (is ∙ ap (λ (l : List X). f (get_or l i d)) same)
    ∙ ap (λ (ys : List Y). ys ++ f (get_or xs i d) ∷ []) g
    ∙ sym (map_more f xs i d (omega (arith, ap length same)))
