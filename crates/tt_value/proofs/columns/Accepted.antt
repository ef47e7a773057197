-- What reading accepts is spelled so: the bytes that are read are those of what they gave, and what stands behind them is the rest.
use Rattle.std.proofs.Common.{◌≡◌, ℕ, zero, suc, ◌+◌, ◌-◌, ◌*◌, ◌^◌, ◌≤◌, ◌<◌, Bool, true, false, not, cond, ltb, ◌&&◌, ◌||◌, List, [], ◌∷◌, ◌++◌, length, take, drop, map, replicate, get_or, Option, Some, None, Result, Ok, Err, refl, sym, ap, subst, ◌∙◌, append_assoc, length-append, arith, Ordering, ◌⊎◌, inl, inr}
use Rattle.std.specs.declared.cmp.Ordering.TheVariants.{Less, Equal, Greater}
use Rattle.std.specs.Prelude.{fold, ◌==◌, if◌then◌else◌, slice_get}
use Rattle.std.specs.Cmp.{IsTotalOrder}
use Rattle.std.specs.Ordering.{is_eq, is_lt}
use Rattle.std.specs.Option.{option_map, option_and_then}
use Rattle.std.specs.List.{AllByRecursion, list_any, flat_map}
use Rattle.std.specs.Int.{w16, w32, w64, to_le_bytes, from_le_bytes}
use Rattle.std.proofs.lemmas.Bool.{ltb-true, ltb-false, eqb-true}
use Rattle.std.proofs.lemmas.Bool.Decides.{nat_tests}
use Rattle.std.proofs.lemmas.List.{append-nil, nil_from_length, take-append-drop, length-replicate}
use Rattle.std.proofs.lemmas.Cmp.{tied_itself}
use Rattle.std.proofs.lemmas.Nat.{le_bytes_2, le_bytes_4, le_bytes_8}
use Rattle.std.proofs.lemmas.Option.{slice_get_within, get_or_from_slice_get}
use Rattle.tt_value.specs.values.Order.{TiesAreSame}
use Rattle.tt_value.specs.columns.Packing.{joined, digits, packed, bytes_for, width_of}
use Rattle.tt_value.specs.columns.Body.{word, is_same, runs_after, runs_of, run_bytes, run_body, distinct, index_in, dictionary_body, null_flags, has_null, present, bitmap_of}
use Rattle.tt_value.specs.columns.Reading.{◌>>=◌, checked, in_column, number_at, packed_at, ended, is_count, count_at, values_at, is_new, is_length, run_at, runs_at, run_values_at, is_next, entry_at, entries_at, uses_each, values_of, found, looked_up, dictionary_values_at, has_flag, flags_at, present_count, spread}
use Rattle.tt_value.proofs.columns.Distinct.{Above, Ascends, has, above_more, distinct_ascends, has_distinct, same_ascending}
use Rattle.tt_value.proofs.columns.Indexes.{found_index, member_at, place_of}
use Rattle.tt_value.proofs.columns.Packing.{Fit, length-digits, digits-fit, packed_takes}

-- ---- reading one part after the other

pub same_ok : {A F : Type 0} (x y : A) → (◌≡◌ {A = Result A F} (Ok x) (Ok y)) → x ≡ y
same_ok x y e = cc

-- both parts were read
pub bound : {A B F : Type 0} (r : Result A F) (f : A → Result B F) (y : B) → (r >>= f) ≡ Ok y → (x : A) × (r ≡ Ok x) × (f x ≡ Ok y)
bound (Ok x) f y e = (x, refl, e)
bound (Err place) f y e = absurd cc

-- the rule held
pub held : {A F : Type 0} (b : Bool) (place : F) (x y : A) → checked b place x ≡ Ok y → (b ≡ true) × (x ≡ y)
held true place x y e = (refl, same_ok x y e)
held false place x y e = absurd cc

-- what was read in a column
pub in_column_taken : {A : Type 0} (r : Result A ℕ) (x : A) → in_column r ≡ Ok x → r ≡ Ok x
in_column_taken (Ok y) x e = ap Ok (same_ok y x e)
in_column_taken (Err place) x e = absurd cc

-- enough bytes were there
pub enough : {A : Type 0} (b : Bool) (place : ℕ) (r : Result A ℕ) (y : A) → cond b (Err place) r ≡ Ok y → (b ≡ false) × (r ≡ Ok y)
enough true place r y e = absurd cc
enough false place r y e = (refl, e)

pub fit_front : (w : ℕ) (xs ys : List ℕ) → Fit w (xs ++ ys) → Fit w xs
fit_front w [] ys fit = tt
fit_front w (x ∷ xs) ys fit = (fit.0, fit_front w xs ys fit.1)

pub fit_behind : (w : ℕ) (xs ys : List ℕ) → Fit w (xs ++ ys) → Fit w ys
fit_behind w [] ys fit = fit
fit_behind w (x ∷ xs) ys fit = fit_behind w xs ys fit.1

-- what stands behind a part that was read
pub fit_rest : (bs front rest : List ℕ) → Fit 8 bs → bs ≡ front ++ rest → Fit 8 rest
fit_rest bs front rest fit e = fit_behind 8 front rest (subst (Fit 8) e fit)

fit_take : (n : ℕ) (bs : List ℕ) → Fit 8 bs → Fit 8 (take n bs)
fit_take n bs fit = fit_front 8 (take n bs) (drop n bs) (subst (Fit 8) (sym (take-append-drop n bs)) fit)

fit_at : (bs : List ℕ) (i : ℕ) → Fit 8 bs → get_or bs i 0 < 256
fit_at [] i fit = omega arith
fit_at (b ∷ bs) zero fit = fit.0
fit_at (b ∷ bs) (suc i) fit = fit_at bs i fit.1

length_take : (n : ℕ) (bs : List ℕ) → n ≤ length bs → length (take n bs) ≡ n
length_take zero bs le = refl
length_take (suc n) [] le = absurd (omega arith)
length_take (suc n) (b ∷ bs) le = ap suc (length_take n bs (omega arith))

-- ---- numbers

pub short_taken : (end : ℕ) (bs : List ℕ) (x : ℕ × List ℕ) → Fit 8 bs → number_at w16 end bs ≡ Ok x → bs ≡ to_le_bytes w16 x.0 ++ x.1
short_taken end bs x fit e =
    let t : List ℕ = take 2 bs in
    let read = enough (ltb (length bs) 2) end (Ok (from_le_bytes w16 t, drop 2 bs)) x e in
    let back : to_le_bytes w16 (from_le_bytes w16 t) ≡ t = le_bytes_2 t (from_le_bytes w16 t) (length_take 2 bs (ltb-false (length bs) 2 read.0)) (λ i. fit_at t i (fit_take 2 bs fit)) refl in
    subst (λ (x : ℕ × List ℕ). bs ≡ to_le_bytes w16 x.0 ++ x.1) (same_ok (from_le_bytes w16 t, drop 2 bs) x read.1) (sym (ap (λ (s : List ℕ). s ++ drop 2 bs) back ∙ take-append-drop 2 bs))

pub word_taken : (end : ℕ) (bs : List ℕ) (x : ℕ × List ℕ) → Fit 8 bs → number_at w32 end bs ≡ Ok x → bs ≡ word x.0 ++ x.1
word_taken end bs x fit e =
    let t : List ℕ = take 4 bs in
    let read = enough (ltb (length bs) 4) end (Ok (from_le_bytes w32 t, drop 4 bs)) x e in
    let back : to_le_bytes w32 (from_le_bytes w32 t) ≡ t = le_bytes_4 t (from_le_bytes w32 t) (length_take 4 bs (ltb-false (length bs) 4 read.0)) (λ i. fit_at t i (fit_take 4 bs fit)) refl in
    subst (λ (x : ℕ × List ℕ). bs ≡ word x.0 ++ x.1) (same_ok (from_le_bytes w32 t, drop 4 bs) x read.1) (sym (ap (λ (s : List ℕ). s ++ drop 4 bs) back ∙ take-append-drop 4 bs))

pub long_taken : (end : ℕ) (bs : List ℕ) (x : ℕ × List ℕ) → Fit 8 bs → number_at w64 end bs ≡ Ok x → bs ≡ to_le_bytes w64 x.0 ++ x.1
long_taken end bs x fit e =
    let t : List ℕ = take 8 bs in
    let read = enough (ltb (length bs) 8) end (Ok (from_le_bytes w64 t, drop 8 bs)) x e in
    let back : to_le_bytes w64 (from_le_bytes w64 t) ≡ t = le_bytes_8 t (from_le_bytes w64 t) (length_take 8 bs (ltb-false (length bs) 8 read.0)) (λ i. fit_at t i (fit_take 8 bs fit)) refl in
    subst (λ (x : ℕ × List ℕ). bs ≡ to_le_bytes w64 x.0 ++ x.1) (same_ok (from_le_bytes w64 t, drop 8 bs) x read.1) (sym (ap (λ (s : List ℕ). s ++ drop 8 bs) back ∙ take-append-drop 8 bs))

-- the bytes are those of the packed numbers, of which there are so many, each of that width
abbrev pub ArePacked : ℕ → ℕ → List ℕ → List ℕ × List ℕ → Type 0
ArePacked w count bs x = (bs ≡ packed w x.0 ++ x.1) × (length x.0 ≡ count) × Fit w x.0

pub packed_taken : (end w count : ℕ) (bs : List ℕ) (x : List ℕ × List ℕ) → Fit 8 bs → packed_at end w count bs ≡ Ok x → ArePacked w count bs x
unfolding packed_at
packed_taken end w count bs x fit e =
    let size : ℕ = bytes_for (count * w) in
    let t : List ℕ = take size bs in
    let ns : List ℕ = digits w count (joined 8 t) in
    let read = enough (ltb (length bs) size) end (checked (ltb (joined 8 t) (2 ^ (count * w))) (end - length bs) (ns, drop size bs)) x e in
    let low = held (ltb (joined 8 t) (2 ^ (count * w))) (end - length bs) (ns, drop size bs) x read.1 in
    let back : packed w ns ≡ t = packed_takes w count t (fit_take size bs fit) (length_take size bs (ltb-false (length bs) size read.0)) (ltb-true (joined 8 t) (2 ^ (count * w)) low.0) in
    subst (λ (x : List ℕ × List ℕ). ArePacked w count bs x) low.1
    (sym (ap (λ (s : List ℕ). s ++ drop size bs) back ∙ take-append-drop size bs), length-digits w count (joined 8 t), digits-fit w count (joined 8 t))

-- a number of runs or of distinct values: 0 of no values, else from 1 to one for each
pub count_taken : (end most : ℕ) (bs : List ℕ) (x : ℕ × List ℕ) → Fit 8 bs → count_at end most bs ≡ Ok x → (bs ≡ word x.0 ++ x.1) × (x.0 ≤ most) × ((most ≡ 0) ⊎ (0 < x.0))
unfolding count_at
count_taken end most bs x fit e =
    let one = bound (number_at w32 end bs) (λ n. checked (is_count most n.0) (end - length bs) n) x e in
    let two = held (is_count most one.0.0) (end - length bs) one.0 x one.2 in
    subst (λ (x : ℕ × List ℕ). (bs ≡ word x.0 ++ x.1) × (x.0 ≤ most) × ((most ≡ 0) ⊎ (0 < x.0))) two.1 (word_taken end bs one.0 fit one.1, few one.0.0 two.0, some one.0.0 two.0)
  where
    few : (n : ℕ) → is_count most n ≡ true → n ≤ most
    few n h = grind (arith, nat_tests)

    some : (n : ℕ) → is_count most n ≡ true → (most ≡ 0) ⊎ (0 < n)
    some zero h = inl (none h)
      where
        none : is_count most 0 ≡ true → most ≡ 0
        none h = grind (arith, nat_tests)
    some (suc n) h = inr (omega arith)

-- the part ends the bytes
pub ended_taken : {A : Type 0} (end : ℕ) (x : A × List ℕ) (y : A) → ended end x ≡ Ok y → (x.1 ≡ []) × (x.0 ≡ y)
ended_taken end x y e = go (length x.1 == 0) refl e
  where
    go : (b : Bool) → (length x.1 == 0) ≡ b → cond b (Ok x.0) (Err (end - length x.1)) ≡ Ok y → (x.1 ≡ []) × (x.0 ≡ y)
    go true t h = (nil_from_length x.1 (eqb-true (length x.1) 0 t), same_ok x.0 y h)
    go false t h = absurd cc

-- ---- values

-- each run so many times
abbrev pub repeated : {V : Type 0} → List (V × ℕ) → List V
repeated runs = flat_map (λ run. replicate run.1 run.0) runs

-- values, each of a kind, and the bytes of them
module _ {V : Type 0} (spell : V → List ℕ) (Valid : V → Type 0) where
  abbrev pub AreValues : ℕ → List ℕ → List V × List ℕ → Type 0
  AreValues count bs x = (bs ≡ flat_map spell x.0 ++ x.1) × (length x.0 ≡ count) × AllByRecursion Valid x.0

all_repeated : {V : Type 0} (Valid : V → Type 0) (v : V) (n : ℕ) (vs : List V) → Valid v → AllByRecursion Valid vs → AllByRecursion Valid (replicate n v ++ vs)
all_repeated Valid v zero vs valid all = all
all_repeated Valid v (suc n) vs valid all = (valid, all_repeated Valid v n vs valid all)

module _ {V : Type 0} (spell : V → List ℕ) (read : ℕ → List ℕ → Result (V × List ℕ) ℕ) (cmp : V → V → Ordering) (Valid : V → Type 0)
    (taken : (end : ℕ) (bs : List ℕ) (x : V × List ℕ) → Fit 8 bs → read end bs ≡ Ok x → (bs ≡ spell x.0 ++ x.1) × Valid x.0) where
  pub values_taken : (end count : ℕ) (bs : List ℕ) (x : List V × List ℕ) → Fit 8 bs → values_at read cmp end count bs ≡ Ok x → AreValues spell Valid count bs x
  unfolding values_at
  values_taken end zero bs x fit e = subst (λ (x : List V × List ℕ). AreValues spell Valid 0 bs x) (same_ok ([], bs) x e) (refl, refl, tt)
  values_taken end (suc count) bs x fit e =
      let one = bound (read end bs) (λ first. values_at read cmp end count first.1 >>= λ others. Ok (first.0 ∷ others.0, others.1)) x e in
      let first : V × List ℕ = one.0 in
      let two = bound (values_at read cmp end count first.1) (λ others. Ok (first.0 ∷ others.0, others.1)) x one.2 in
      let others : List V × List ℕ = two.0 in
      let head = taken end bs first fit one.1 in
      let ih = values_taken end count first.1 others (fit_rest bs (spell first.0) first.1 fit head.0) two.1 in
      subst (λ (x : List V × List ℕ). AreValues spell Valid (suc count) bs x) (same_ok (first.0 ∷ others.0, others.1) x two.2)
      (head.0 ∙ ap (λ t. spell first.0 ++ t) ih.0 ∙ sym (append_assoc (spell first.0) (flat_map spell others.0) others.1), ap suc ih.1, (head.1, ih.2))

  -- ---- runs

  -- each run has another value than the one before it
  abbrev pub Differ : Option V → List (V × ℕ) → Type 0
  Differ before [] = Unit {0}
  Differ before (run ∷ runs) = (is_new read cmp before run.0 ≡ true) × (0 < run.1) × Differ (Some run.0) runs

  abbrev pub IsRun : ℕ → ℕ → Option V → List ℕ → (V × ℕ) × List ℕ → Type 0
  IsRun later left before bs x = (bs ≡ run_bytes spell cmp x.0 ++ x.1) × Valid x.0.0 × (is_new read cmp before x.0.0 ≡ true) × (0 < x.0.1) × (x.0.1 ≤ left) × ((0 < later) ⊎ (x.0.1 ≡ left))

  length_is : (later left n : ℕ) → is_length read cmp left later n ≡ true → (0 < n) × (n ≤ left) × ((0 < later) ⊎ (n ≡ left))
  length_is zero left n h = (grind (arith, nat_tests), grind (arith, nat_tests), inr (grind (arith, nat_tests)))
  length_is (suc later) left n h = (grind (arith, nat_tests), grind (arith, nat_tests), inl (omega arith))

  pub run_taken : (end later left : ℕ) (before : Option V) (bs : List ℕ) (x : (V × ℕ) × List ℕ) → Fit 8 bs → run_at read cmp end later left before bs ≡ Ok x → IsRun later left before bs x
  unfolding run_at
  run_taken end later left before bs x fit e =
      let one = bound (read end bs) (λ value. checked (is_new read cmp before value.0) (end - length bs) value >>= λ fresh. number_at w32 end fresh.1 >>= λ size. checked (is_length read cmp left later size.0) (end - length fresh.1) ((fresh.0, size.0), size.1)) x e in
      let value : V × List ℕ = one.0 in
      let two = bound (checked (is_new read cmp before value.0) (end - length bs) value) (λ fresh. number_at w32 end fresh.1 >>= λ size. checked (is_length read cmp left later size.0) (end - length fresh.1) ((fresh.0, size.0), size.1)) x one.2 in
      let new = held (is_new read cmp before value.0) (end - length bs) value two.0 two.1 in
      run_parts end later left before bs value x fit one.1 new.0 (subst (λ (fresh : V × List ℕ). (number_at w32 end fresh.1 >>= λ size. checked (is_length read cmp left later size.0) (end - length fresh.1) ((fresh.0, size.0), size.1)) ≡ Ok x) (sym new.1) two.2)
    where
      run_parts : (end later left : ℕ) (before : Option V) (bs : List ℕ) (value : V × List ℕ) (x : (V × ℕ) × List ℕ) → Fit 8 bs → read end bs ≡ Ok value → is_new read cmp before value.0 ≡ true
          → (number_at w32 end value.1 >>= λ size. checked (is_length read cmp left later size.0) (end - length value.1) ((value.0, size.0), size.1)) ≡ Ok x → IsRun later left before bs x
      run_parts end later left before bs value x fit e new h =
          let three = bound (number_at w32 end value.1) (λ size. checked (is_length read cmp left later size.0) (end - length value.1) ((value.0, size.0), size.1)) x h in
          let size : ℕ × List ℕ = three.0 in
          let long = held (is_length read cmp left later size.0) (end - length value.1) ((value.0, size.0), size.1) x three.2 in
          let front = taken end bs value fit e in
          let behind : value.1 ≡ word size.0 ++ size.1 = word_taken end value.1 size (fit_rest bs (spell value.0) value.1 fit front.0) three.1 in
          let is = length_is later left size.0 long.0 in
          subst (λ (x : (V × ℕ) × List ℕ). IsRun later left before bs x) long.1
          (front.0 ∙ ap (λ t. spell value.0 ++ t) behind ∙ sym (append_assoc (spell value.0) (word size.0) size.1), front.1, new, is.0, is.1, is.2)

  abbrev pub AreRuns : ℕ → ℕ → Option V → List ℕ → List V × List ℕ → Type 0
  AreRuns count left before bs x = (runs : List (V × ℕ)) × (bs ≡ flat_map (run_bytes spell cmp) runs ++ x.1) × (length runs ≡ count) × (x.0 ≡ repeated runs) × Differ before runs
      × (((count ≡ 0) × (length x.0 ≡ 0)) ⊎ (length x.0 ≡ left)) × AllByRecursion Valid x.0

  pub runs_taken : (end count left : ℕ) (before : Option V) (bs : List ℕ) (x : List V × List ℕ) → Fit 8 bs → runs_at read cmp end count left before bs ≡ Ok x → AreRuns count left before bs x
  unfolding runs_at
  runs_taken end zero left before bs x fit e = subst (λ (x : List V × List ℕ). AreRuns 0 left before bs x) (same_ok ([], bs) x e) ([], refl, refl, refl, tt, inl (refl, refl), tt)
  runs_taken end (suc count) left before bs x fit e =
      let one = bound (run_at read cmp end count left before bs) (λ run. runs_at read cmp end count (left - run.0.1) (Some run.0.0) run.1 >>= λ others. Ok (replicate run.0.1 run.0.0 ++ others.0, others.1)) x e in
      let run : (V × ℕ) × List ℕ = one.0 in
      let two = bound (runs_at read cmp end count (left - run.0.1) (Some run.0.0) run.1) (λ others. Ok (replicate run.0.1 run.0.0 ++ others.0, others.1)) x one.2 in
      let others : List V × List ℕ = two.0 in
      let head = run_taken end count left before bs run fit one.1 in
      let ih = runs_taken end count (left - run.0.1) (Some run.0.0) run.1 others (fit_rest bs (run_bytes spell cmp run.0) run.1 fit head.0) two.1 in
      let len : length (replicate run.0.1 run.0.0 ++ others.0) ≡ left = whole (length others.0) (length (replicate run.0.1 run.0.0 ++ others.0)) run.0.1 (length-append (replicate run.0.1 run.0.0) others.0 ∙ ap (λ n. n + length others.0) (length-replicate run.0.1 run.0.0)) head.4 head.5 ih.5 in
      subst (λ (x : List V × List ℕ). AreRuns (suc count) left before bs x) (same_ok (replicate run.0.1 run.0.0 ++ others.0, others.1) x two.2) (
        run.0 ∷ ih.0,
        head.0 ∙ ap (λ t. run_bytes spell cmp run.0 ++ t) ih.1 ∙ sym (append_assoc (run_bytes spell cmp run.0) (flat_map (run_bytes spell cmp) ih.0) others.1),
        ap suc ih.2,
        ap (λ t. replicate run.0.1 run.0.0 ++ t) ih.3,
        (head.2, head.3, ih.4),
        inr len,
        all_repeated Valid run.0.0 run.0.1 others.0 head.1 ih.6,
      )
    where
      whole : (m total n : ℕ) → total ≡ n + m → n ≤ left → ((0 < count) ⊎ (n ≡ left)) → (((count ≡ 0) × (m ≡ 0)) ⊎ (m ≡ left - n)) → total ≡ left
      whole m total n t le (inl more) (inl none) = absurd (let z = none.0 in omega arith)
      whole m total n t le (inl more) (inr all) = omega arith
      whole m total n t le (inr e) (inl none) = let z = none.1 in omega arith
      whole m total n t le (inr e) (inr all) = omega arith

  -- ---- entries

  -- each stands above the one before it
  abbrev pub Rise : Option V → List V → Type 0
  Rise before [] = Unit {0}
  Rise before (v ∷ vs) = (is_next read cmp before v ≡ true) × Rise (Some v) vs

  abbrev pub AreEntries : ℕ → Option V → List ℕ → List V × List ℕ → Type 0
  AreEntries count before bs x = (bs ≡ flat_map spell x.0 ++ x.1) × (length x.0 ≡ count) × Rise before x.0 × AllByRecursion Valid x.0

  pub entries_taken : (end count : ℕ) (before : Option V) (bs : List ℕ) (x : List V × List ℕ) → Fit 8 bs → entries_at read cmp end count before bs ≡ Ok x → AreEntries count before bs x
  unfolding entries_at entry_at
  entries_taken end zero before bs x fit e = subst (λ (x : List V × List ℕ). AreEntries 0 before bs x) (same_ok ([], bs) x e) (refl, refl, tt, tt)
  entries_taken end (suc count) before bs x fit e =
      let one = bound (read end bs >>= λ value. checked (is_next read cmp before value.0) (end - length bs) value) (λ first. entries_at read cmp end count (Some first.0) first.1 >>= λ others. Ok (first.0 ∷ others.0, others.1)) x e in
      let first : V × List ℕ = one.0 in
      let value = bound (read end bs) (λ value. checked (is_next read cmp before value.0) (end - length bs) value) first one.1 in
      let next = held (is_next read cmp before value.0.0) (end - length bs) value.0 first value.2 in
      let head = taken end bs value.0 fit value.1 in
      let front : (bs ≡ spell first.0 ++ first.1) × Valid first.0 × (is_next read cmp before first.0 ≡ true) = subst (λ (y : V × List ℕ). (bs ≡ spell y.0 ++ y.1) × Valid y.0 × (is_next read cmp before y.0 ≡ true)) next.1 (head.0, head.1, next.0) in
      let two = bound (entries_at read cmp end count (Some first.0) first.1) (λ others. Ok (first.0 ∷ others.0, others.1)) x one.2 in
      let others : List V × List ℕ = two.0 in
      let ih = entries_taken end count (Some first.0) first.1 others (fit_rest bs (spell first.0) first.1 fit front.0) two.1 in
      subst (λ (x : List V × List ℕ). AreEntries (suc count) before bs x) (same_ok (first.0 ∷ others.0, others.1) x two.2)
      (front.0 ∙ ap (λ t. spell first.0 ++ t) ih.0 ∙ sym (append_assoc (spell first.0) (flat_map spell others.0) others.1), ap suc ih.1, (front.2, ih.2), (front.1, ih.3))

-- ---- the runs and the dictionary of a list are the ones that were read

both_ways : (a b : Bool) → (a ≡ true → b ≡ true) → (b ≡ true → a ≡ true) → a ≡ b
both_ways true true f g = refl
both_ways true false f g = absurd (let h = f refl in cc)
both_ways false true f g = absurd (let h = g refl in cc)
both_ways false false f g = refl

is_not : (b : Bool) → not b ≡ true → b ≡ false
is_not true h = absurd cc
is_not false h = refl

is_less : (o : Ordering) → is_lt o ≡ true → o ≡ Less
is_less Less h = refl
is_less Equal h = absurd cc
is_less Greater h = absurd cc

module _ {V : Type 0} (spell : V → List ℕ) (read : ℕ → List ℕ → Result (V × List ℕ) ℕ) (cmp : V → V → Ordering) (Valid : V → Type 0)
    (taken : (end : ℕ) (bs : List ℕ) (x : V × List ℕ) → Fit 8 bs → read end bs ≡ Ok x → (bs ≡ spell x.0 ++ x.1) × Valid x.0) (total : IsTotalOrder cmp) (ties : TiesAreSame cmp) where
  abbrev Apart : Option V → List (V × ℕ) → Type 0
  Apart before runs = Differ spell read cmp Valid taken before runs

  joins_run : (v : V) (n k : ℕ) (vs : List V) → runs_after cmp v n (replicate k v ++ vs) ≡ runs_after cmp v (n + k) vs
  joins_run v n zero vs = ap (λ m. runs_after cmp v m vs) (let e : n ≡ n + 0 = omega arith in e)
  joins_run v n (suc k) vs = let t = tied_itself total v in rw t (joins_run v (n + 1) k vs ∙ ap (λ m. runs_after cmp v m vs) (let e : n + 1 + k ≡ n + suc k = omega arith in e))

  runs_behind : (v : V) (n : ℕ) (runs : List (V × ℕ)) → Apart (Some v) runs → runs_after cmp v n (repeated runs) ≡ (v, n) ∷ runs
  runs_behind v n [] apart = refl
  runs_behind v n (run ∷ runs) apart = go run.0 run.1 (is_not (is_same cmp v run.0) apart.0) apart.1 (runs_behind run.0 run.1 runs apart.2)
    where
      go : (u : V) (k : ℕ) → is_same cmp v u ≡ false → 0 < k → runs_after cmp u k (repeated runs) ≡ (u, k) ∷ runs → runs_after cmp v n (replicate k u ++ repeated runs) ≡ (v, n) ∷ (u, k) ∷ runs
      go u zero new some ih = absurd (omega arith)
      go u (suc k) new some ih = rw new (ap (λ t. (v, n) ∷ t) (joins_run u 1 k (repeated runs) ∙ ap (λ m. runs_after cmp u m (repeated runs)) (let e : 1 + k ≡ suc k = omega arith in e) ∙ ih))

  pub runs_of_repeated : (runs : List (V × ℕ)) → Apart None runs → runs_of cmp (repeated runs) ≡ runs
  runs_of_repeated [] apart = refl
  runs_of_repeated (run ∷ runs) apart = go run.0 run.1 apart.1 (runs_behind run.0 run.1 runs apart.2)
    where
      go : (u : V) (k : ℕ) → 0 < k → runs_after cmp u k (repeated runs) ≡ (u, k) ∷ runs → runs_of cmp (replicate k u ++ repeated runs) ≡ (u, k) ∷ runs
      go u zero some ih = absurd (omega arith)
      go u (suc k) some ih = joins_run u 1 k (repeated runs) ∙ ap (λ m. runs_after cmp u m (repeated runs)) (let e : 1 + k ≡ suc k = omega arith in e) ∙ ih

  pub run_values_taken : (end most : ℕ) (bs : List ℕ) (x : List V × List ℕ) → Fit 8 bs → run_values_at read cmp end most bs ≡ Ok x → (bs ≡ run_body spell cmp x.0 ++ x.1) × (length x.0 ≡ most) × AllByRecursion Valid x.0
  unfolding run_values_at
  run_values_taken end most bs x fit e =
      let one = bound (count_at end most bs) (λ count. runs_at read cmp end count.0 most None count.1) x e in
      let count : ℕ × List ℕ = one.0 in
      let head = count_taken end most bs count fit one.1 in
      let are = runs_taken spell read cmp Valid taken end count.0 most None count.1 x (fit_rest bs (word count.0) count.1 fit head.0) one.2 in
      let same : runs_of cmp x.0 ≡ are.0 = ap (runs_of cmp) are.3 ∙ runs_of_repeated are.0 are.4 in
      let written : bs ≡ (word (length are.0) ++ flat_map (run_bytes spell cmp) are.0) ++ x.1
      = head.0 ∙ ap (λ t. word count.0 ++ t) are.1 ∙ sym (append_assoc (word count.0) (flat_map (run_bytes spell cmp) are.0) x.1) ∙ ap (λ n. (word n ++ flat_map (run_bytes spell cmp) are.0) ++ x.1) (sym are.2) in
      (written ∙ ap (λ (runs : List (V × ℕ)). (word (length runs) ++ flat_map (run_bytes spell cmp) runs) ++ x.1) (sym same), long (length x.0) count.0 head.2 are.5, are.6)
    where
      long : (m n : ℕ) → ((most ≡ 0) ⊎ (0 < n)) → (((n ≡ 0) × (m ≡ 0)) ⊎ (m ≡ most)) → m ≡ most
      long m n some (inr all) = all
      long m n (inl none) (inl p) = p.1 ∙ sym none
      long m n (inr more) (inl p) = absurd (let z = p.0 in omega arith)

  -- ---- dictionaries

  above_rise : (v : V) (ds : List V) → Rise spell read cmp Valid taken (Some v) ds → Above cmp total ties v ds
  above_rise v [] rise = tt
  above_rise v (d ∷ ds) rise = let lt : cmp v d ≡ Less = is_less (cmp v d) rise.0 in (lt, above_more cmp total ties v d ds lt (above_rise d ds rise.1))

  ascends_rise : (v : V) (ds : List V) → Rise spell read cmp Valid taken (Some v) ds → Ascends cmp total ties ds
  ascends_rise v [] rise = tt
  ascends_rise v (d ∷ ds) rise = (above_rise d ds rise.1, ascends_rise d ds rise.1)

  ascends : (ds : List V) → Rise spell read cmp Valid taken None ds → Ascends cmp total ties ds
  ascends [] rise = tt
  ascends (d ∷ ds) rise = (above_rise d ds rise.1, ascends_rise d ds rise.1)

  valid_at : (ds : List V) (n : ℕ) (v : V) → AllByRecursion Valid ds → slice_get ds n ≡ Some v → Valid v
  valid_at [] n v all e = absurd cc
  valid_at (d ∷ ds) zero v all e = subst (λ u. Valid u) (let h : d ≡ v = cc in h) all.0
  valid_at (d ∷ ds) (suc n) v all e = valid_at ds n v all.1 e

  -- values that were looked up, and where they stand
  abbrev AreFound : List V → List ℕ → List V → Type 0
  AreFound ds ns vs = (map (index_in cmp ds) vs ≡ ns) × (length vs ≡ length ns) × AllByRecursion (λ v. has cmp total ties v ds ≡ true) vs × AllByRecursion Valid vs

  some_of : {A B C : Type 0} (o : Option A) (p : Option B) (f : A → B → C) (y : C) → option_and_then (λ a. option_map (f a) p) o ≡ Some y → (a : A) × (b : B) × (o ≡ Some a) × (p ≡ Some b) × (f a b ≡ y)
  some_of None p f y e = absurd cc
  some_of (Some a) None f y e = absurd cc
  some_of (Some a) (Some b) f y e = (a, b, refl, refl, cc)

  found_all : (ds : List V) (ns : List ℕ) (vs : List V) → Ascends cmp total ties ds → AllByRecursion Valid ds → values_of ds ns ≡ Some vs → AreFound ds ns vs
  found_all ds [] vs up valid e = subst (λ (vs : List V). AreFound ds [] vs) (let h : [] ≡ vs = cc in h) (refl, refl, tt, tt)
  found_all ds (n ∷ ns) vs up valid e =
      let at = some_of (slice_get ds n) (values_of ds ns) (λ (v : V) (us : List V). v ∷ us) vs e in
      let v : V = at.0 in
      let lt : n < length ds = slice_get_within ds n v at.2 in
      let here : get_or ds n v ≡ v = get_or_from_slice_get ds n v v at.2 in
      let tie : cmp (get_or ds n v) v ≡ Equal = ap (λ u. cmp u v) here ∙ tied_itself total v in
      let index : index_in cmp ds v ≡ n = found_index cmp total ties ds v n v up lt tie in
      let member : has cmp total ties v ds ≡ true = ap (λ u. has cmp total ties u ds) (sym here) ∙ member_at cmp total ties ds n v lt in
      let ih = found_all ds ns at.1 up valid at.3 in
      subst (λ (vs : List V). AreFound ds (n ∷ ns) vs) at.4 (ap (λ (m : ℕ). m ∷ map (index_in cmp ds) at.1) index ∙ ap (λ (ms : List ℕ). n ∷ ms) ih.0, ap suc ih.1, (member, ih.2), (valid_at ds n v valid at.2, ih.3))

  or_true : (b : Bool) {c : Bool} → c ≡ true → (b || c) ≡ true
  or_true true e = refl
  or_true false e = e

  or_either : (b c : Bool) → (b || c) ≡ true → (b ≡ true) ⊎ (c ≡ true)
  or_either true c e = inl refl
  or_either false c e = inr e

  and_first : (b c : Bool) → (b && c) ≡ true → (b ≡ true) × (c ≡ true)
  and_first true c e = (refl, e)
  and_first false c e = absurd cc

  is_equal : (o : Ordering) → is_eq o ≡ true → o ≡ Equal
  is_equal Less h = absurd cc
  is_equal Equal h = refl
  is_equal Greater h = absurd cc

  -- an entry that an index names is among the values
  used_has : (ds : List V) (ns : List ℕ) (vs : List V) (i : ℕ) (u : V) → values_of ds ns ≡ Some vs → ((d : V) → cmp u (get_or ds i d) ≡ Equal) → list_any (λ n. n == i) ns ≡ true → has cmp total ties u vs ≡ true
  used_has ds [] vs i u e tie used = absurd cc
  used_has ds (n ∷ ns) vs i u e tie used =
      let at = some_of (slice_get ds n) (values_of ds ns) (λ (v : V) (us : List V). v ∷ us) vs e in
      subst (λ (vs : List V). has cmp total ties u vs ≡ true) at.4 (go at.0 at.1 at.2 (λ h. used_has ds ns at.1 i u at.3 tie h) (or_either (n == i) (list_any (λ n. n == i) ns) used))
    where
      go : (v : V) (us : List V) → slice_get ds n ≡ Some v → (list_any (λ n. n == i) ns ≡ true → has cmp total ties u us ≡ true) → ((n == i) ≡ true) ⊎ (list_any (λ n. n == i) ns ≡ true) → has cmp total ties u (v ∷ us) ≡ true
      go v us got ih (inl h) =
          let same : n ≡ i = eqb-true n i h in
          let here : get_or ds i v ≡ v = ap (λ m. get_or ds m v) (sym same) ∙ get_or_from_slice_get ds n v v got in
          ap (λ w. is_eq (cmp u w) || has cmp total ties u us) (sym here) ∙ ap (λ o. is_eq o || has cmp total ties u us) (tie v)
      go v us got ih (inr h) = or_true (is_eq (cmp u v)) (ih h)

  each_used : (count i : ℕ) (ns : List ℕ) → uses_each count ns ≡ true → i < count → list_any (λ n. n == i) ns ≡ true
  each_used zero i ns used lt = absurd (omega arith)
  each_used (suc count) i ns used lt = go (i == count) refl (each_used count i ns (and_first (list_any (λ n. n == count) ns) (uses_each count ns) used).1)
    where
      go : (b : Bool) → (i == count) ≡ b → (i < count → list_any (λ n. n == i) ns ≡ true) → list_any (λ n. n == i) ns ≡ true
      go true h ih = ap (λ m. list_any (λ n. n == m) ns) (eqb-true i count h) ∙ (and_first (list_any (λ n. n == count) ns) (uses_each count ns) used).0
      go false h ih = ih (less h)
        where
          less : (i == count) ≡ false → i < count
          less h = grind (arith, nat_tests)

  -- a value that ties with a value of the list is a member of what has all of the list's
  has_from : (ds vs : List V) (u : V) → AllByRecursion (λ v. has cmp total ties v ds ≡ true) vs → has cmp total ties u vs ≡ true → has cmp total ties u ds ≡ true
  has_from ds [] u all e = absurd cc
  has_from ds (v ∷ vs) u all e = go (or_either (is_eq (cmp u v)) (has cmp total ties u vs) e) (λ h. has_from ds vs u all.1 h)
    where
      go : (is_eq (cmp u v) ≡ true) ⊎ (has cmp total ties u vs ≡ true) → (has cmp total ties u vs ≡ true → has cmp total ties u ds ≡ true) → has cmp total ties u ds ≡ true
      go (inl h) ih = ap (λ w. has cmp total ties w ds) (ties u v (is_equal (cmp u v) h)) ∙ all.0
      go (inr h) ih = ih h

  distinct_found : (ds : List V) (ns : List ℕ) (vs : List V) → Ascends cmp total ties ds → AllByRecursion (λ v. has cmp total ties v ds ≡ true) vs → values_of ds ns ≡ Some vs → uses_each (length ds) ns ≡ true → distinct cmp vs ≡ ds
  distinct_found ds ns vs up inside e used =
      same_ascending cmp total ties (distinct cmp vs) ds (distinct_ascends cmp total ties vs) up
      (λ u. has_distinct cmp total ties u vs ∙ both_ways (has cmp total ties u vs) (has cmp total ties u ds) (has_from ds vs u inside)
      (λ h. let p = place_of cmp total ties ds u h in used_has ds ns vs p.0 u e p.2 (each_used (length ds) p.0 ns used p.1)))

  looked_up_taken : (place : ℕ) (ds : List V) (ns : List ℕ) (vs : List V) → looked_up place ds ns ≡ Ok vs → (values_of ds ns ≡ Some vs) × (uses_each (length ds) ns ≡ true)
  unfolding looked_up
  looked_up_taken place ds ns vs e = go (values_of ds ns) refl e
    where
      go : (o : Option (List V)) → values_of ds ns ≡ o → (found place o >>= λ us. checked (uses_each (length ds) ns) place us) ≡ Ok vs → (values_of ds ns ≡ Some vs) × (uses_each (length ds) ns ≡ true)
      go None o-is h = absurd cc
      go (Some us) o-is h = let all = held (uses_each (length ds) ns) place us vs h in (o-is ∙ ap (λ (t : List V). Some t) all.1, all.0)

  pub dictionary_values_taken : (end most : ℕ) (bs : List ℕ) (x : List V × List ℕ) → Fit 8 bs → dictionary_values_at read cmp end most bs ≡ Ok x → (bs ≡ dictionary_body spell cmp x.0 ++ x.1) × (length x.0 ≡ most) × AllByRecursion Valid x.0
  unfolding dictionary_values_at
  dictionary_values_taken end most bs x fit e =
      let one = bound (count_at end most bs) (λ count. entries_at read cmp end count.0 None count.1 >>= λ entries. packed_at end (width_of (count.0 - 1)) most entries.1 >>= λ indexes. looked_up (end - length entries.1) entries.0 indexes.0 >>= λ vs. Ok (vs, indexes.1)) x e in
      let count : ℕ × List ℕ = one.0 in
      let head = count_taken end most bs count fit one.1 in
      let fit_one = fit_rest bs (word count.0) count.1 fit head.0 in
      let two = bound (entries_at read cmp end count.0 None count.1) (λ entries. packed_at end (width_of (count.0 - 1)) most entries.1 >>= λ indexes. looked_up (end - length entries.1) entries.0 indexes.0 >>= λ vs. Ok (vs, indexes.1)) x one.2 in
      let entries : List V × List ℕ = two.0 in
      let rise = entries_taken spell read cmp Valid taken end count.0 None count.1 entries fit_one two.1 in
      let fit_two = fit_rest count.1 (flat_map spell entries.0) entries.1 fit_one rise.0 in
      let three = bound (packed_at end (width_of (count.0 - 1)) most entries.1) (λ indexes. looked_up (end - length entries.1) entries.0 indexes.0 >>= λ vs. Ok (vs, indexes.1)) x two.2 in
      let indexes : List ℕ × List ℕ = three.0 in
      let are = packed_taken end (width_of (count.0 - 1)) most entries.1 indexes fit_two three.1 in
      let four = bound (looked_up (end - length entries.1) entries.0 indexes.0) (λ vs. Ok (vs, indexes.1)) x three.2 in
      let vs : List V = four.0 in
      let got = looked_up_taken (end - length entries.1) entries.0 indexes.0 vs four.1 in
      let up : Ascends cmp total ties entries.0 = ascends entries.0 rise.2 in
      let all = found_all entries.0 indexes.0 vs up rise.3 got.0 in
      let ds : distinct cmp vs ≡ entries.0 = distinct_found entries.0 indexes.0 vs up all.2 got.0 got.1 in
      subst (λ (x : List V × List ℕ). (bs ≡ dictionary_body spell cmp x.0 ++ x.1) × (length x.0 ≡ most) × AllByRecursion Valid x.0) (same_ok (vs, indexes.1) x four.2)
      (written count.0 entries.0 indexes.0 vs bs count.1 entries.1 indexes.1 head.0 rise.0 are.0 rise.1 all.0 ds, all.1 ∙ are.1, all.3)
    where
      written : (count : ℕ) (ds : List V) (ns : List ℕ) (vs : List V) (bs first second rest : List ℕ) → bs ≡ word count ++ first → first ≡ flat_map spell ds ++ second → second ≡ packed (width_of (count - 1)) ns ++ rest
          → length ds ≡ count → map (index_in cmp ds) vs ≡ ns → distinct cmp vs ≡ ds → bs ≡ dictionary_body spell cmp vs ++ rest
      written count ds ns vs bs first second rest a b c len indexes same =
          let w : ℕ = width_of (length ds - 1) in
          let wide : width_of (count - 1) ≡ w = ap (λ n. width_of (n - 1)) (sym len) in
          let e : bs ≡ word (length ds) ++ (flat_map spell ds ++ (packed w (map (index_in cmp ds) vs) ++ rest))
          = a ∙ ap (λ n. word n ++ first) (sym len) ∙ ap (λ t. word (length ds) ++ t) (b ∙ ap (λ t. flat_map spell ds ++ t) (c ∙ ap (λ n. packed n ns ++ rest) wide ∙ ap (λ t. packed w t ++ rest) (sym indexes))) in
          let f : bs ≡ (word (length ds) ++ (flat_map spell ds ++ packed w (map (index_in cmp ds) vs))) ++ rest
          = e ∙ ap (λ t. word (length ds) ++ t) (sym (append_assoc (flat_map spell ds) (packed w (map (index_in cmp ds) vs)) rest)) ∙ sym (append_assoc (word (length ds)) (flat_map spell ds ++ packed w (map (index_in cmp ds) vs)) rest) in
          f ∙ ap (λ (es : List V). (word (length es) ++ (flat_map spell es ++ packed (width_of (length es - 1)) (map (index_in cmp es) vs))) ++ rest) (sym same)

-- ---- NULLs

zeros_fit : (n : ℕ) → Fit 1 (replicate n 0)
zeros_fit zero = tt
zeros_fit (suc n) = (omega arith, zeros_fit n)

no_flag : (n : ℕ) → has_flag (replicate n 0) ≡ false
no_flag zero = refl
no_flag (suc n) = no_flag n

-- the bitmap is that of the flags, of which there is one for each row
abbrev pub AreFlags : ℕ → Bool → List ℕ → List ℕ → Type 0
AreFlags rows nulls bitmap flags = (bitmap ≡ (if nulls then packed 1 flags else [])) × (length flags ≡ rows) × Fit 1 flags × (has_flag flags ≡ nulls)

pub flags_taken : (rows : ℕ) (nulls : Bool) (bitmap flags : List ℕ) → Fit 8 bitmap → flags_at rows nulls bitmap ≡ Ok flags → AreFlags rows nulls bitmap flags
unfolding flags_at
flags_taken rows false bitmap flags fit e =
    let none = held (length bitmap == 0) 0 (replicate rows 0) flags e in
    subst (λ (flags : List ℕ). AreFlags rows false bitmap flags) none.1 (nil_from_length bitmap (eqb-true (length bitmap) 0 none.0), length-replicate rows 0, zeros_fit rows, no_flag rows)
flags_taken rows true bitmap flags fit e =
    let one = bound (packed_at (length bitmap) 1 rows bitmap) (λ flags. checked (has_flag flags.0) 0 flags >>= λ seen. ended (length bitmap) seen) flags e in
    let are = packed_taken (length bitmap) 1 rows bitmap one.0 fit one.1 in
    let two = bound (checked (has_flag one.0.0) 0 one.0) (λ seen. ended (length bitmap) seen) flags one.2 in
    let seen = held (has_flag one.0.0) 0 one.0 two.0 two.1 in
    let last = ended_taken (length bitmap) one.0 flags (subst (λ (x : List ℕ × List ℕ). ended (length bitmap) x ≡ Ok flags) (sym seen.1) two.2) in
    let all : bitmap ≡ packed 1 one.0.0 = are.0 ∙ ap (λ t. packed 1 one.0.0 ++ t) last.0 ∙ append-nil (packed 1 one.0.0) in
    subst (λ (flags : List ℕ). AreFlags rows true bitmap flags) last.1 (all, are.1, are.2, seen.0)

zeros_more : (flags : List ℕ) (k : ℕ) → fold (λ a flag. a + cond (flag == 0) 1 0) k flags ≡ k + present_count flags
zeros_more [] k = omega arith
zeros_more (flag ∷ flags) k = let a = zeros_more flags (k + cond (flag == 0) 1 0) in let b = zeros_more flags (0 + cond (flag == 0) 1 0) in a ∙ omega (arith, b)

module _ {V : Type 0} where
  -- the rows of flags and values: one row for each flag, NULL where the flag is 1, and the values in order
  pub rows_spread : (flags : List ℕ) (vs : List V) → Fit 1 flags → length vs ≡ present_count flags → (null_flags (spread flags vs) ≡ flags) × (present (spread flags vs) ≡ vs)
  rows_spread [] vs fit len = (refl, sym (nil_from_length vs len))
  rows_spread (zero ∷ flags) [] fit len = absurd (let e = zeros_more flags 1 in omega arith)
  rows_spread (zero ∷ flags) (v ∷ vs) fit len =
      let ih = rows_spread flags vs fit.1 (let e = zeros_more flags 1 in omega arith) in
      (ap (λ (t : List ℕ). 0 ∷ t) ih.0, ap (λ (t : List V). v ∷ t) ih.1)
  rows_spread (suc zero ∷ flags) [] fit len = let ih = rows_spread flags [] fit.1 (let e = zeros_more flags 0 in omega arith) in (ap (λ (t : List ℕ). 1 ∷ t) ih.0, ih.1)
  rows_spread (suc zero ∷ flags) (v ∷ vs) fit len = let ih = rows_spread flags (v ∷ vs) fit.1 (let e = zeros_more flags 0 in omega arith) in (ap (λ (t : List ℕ). 1 ∷ t) ih.0, ih.1)
  rows_spread (suc (suc flag) ∷ flags) vs fit len = absurd (let lt = fit.0 in omega arith)

  flags_tell : (rows : List (Option V)) → has_flag (null_flags rows) ≡ has_null rows
  flags_tell [] = refl
  flags_tell (None ∷ rows) = refl
  flags_tell (Some v ∷ rows) = flags_tell rows

  length-flags : (rows : List (Option V)) → length (null_flags rows) ≡ length rows
  length-flags [] = refl
  length-flags (row ∷ rows) = ap suc (length-flags rows)

  -- the bitmap and the flag of NULLs of the rows are the ones that were read
  pub rows_taken : (rows : ℕ) (nulls : Bool) (bitmap flags : List ℕ) (vs : List V) → Fit 8 bitmap → flags_at rows nulls bitmap ≡ Ok flags → length vs ≡ present_count flags
      → (bitmap ≡ bitmap_of (spread flags vs)) × (nulls ≡ has_null (spread flags vs)) × (present (spread flags vs) ≡ vs) × (length (spread flags vs) ≡ rows)
  rows_taken rows nulls bitmap flags vs fit e len =
      let are = flags_taken rows nulls bitmap flags fit e in
      let spread_is = rows_spread flags vs are.2 len in
      let null : nulls ≡ has_null (spread flags vs) = sym are.3 ∙ ap has_flag (sym spread_is.0) ∙ flags_tell (spread flags vs) in
      let bytes : bitmap ≡ (if nulls then packed 1 (null_flags (spread flags vs)) else []) = are.0 ∙ ap (λ (t : List ℕ). if nulls then packed 1 t else []) (sym spread_is.0) in
      (bytes ∙ ap (λ b. if b then packed 1 (null_flags (spread flags vs)) else []) null, null, spread_is.1, sym (length-flags (spread flags vs)) ∙ ap length spread_is.0 ∙ are.1)
