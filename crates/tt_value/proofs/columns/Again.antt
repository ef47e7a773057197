-- What is spelled is read again.
use Rattle.std.proofs.Common.{◌≡◌, ℕ, zero, suc, ◌+◌, ◌-◌, ◌*◌, ◌^◌, ◌≤◌, ◌<◌, Bool, true, false, not, cond, ltb, ◌&&◌, ◌||◌, List, [], ◌∷◌, ◌++◌, length, map, replicate, get_or, Option, Some, None, Result, Ok, refl, sym, ap, subst, ◌∙◌, add-one, eq-eqb, append_assoc, arith, Ordering, ◌⊎◌, inl, inr}
use Rattle.std.specs.declared.cmp.Ordering.TheVariants.{Less, Equal, Greater}
use Rattle.std.specs.Prelude.{fold, ◌==◌, if◌then◌else◌, slice_get}
use Rattle.std.specs.Cmp.{IsTotalOrder}
use Rattle.std.specs.Ordering.{is_eq, is_lt, match_ordering}
use Rattle.std.specs.List.{AllByRecursion, list_any, flat_map}
use Rattle.std.specs.Int.{Width, byte_len, w32, w64, to_le_bytes, from_le_bytes}
use Rattle.std.proofs.lemmas.Bool.{le-ltb, lt-ltb}
use Rattle.std.proofs.lemmas.Bool.Decides.{nat_tests}
use Rattle.std.proofs.lemmas.List.{append-nil, take_at, drop_at, length-append, length-map, replicate_more}
use Rattle.std.proofs.lemmas.Cmp.{tied_back}
use Rattle.std.proofs.lemmas.Nat.{from_le_bytes-to_le_bytes_4, from_le_bytes-to_le_bytes_8}
use Rattle.tt_value.specs.values.Order.{TiesAreSame}
use Rattle.tt_value.specs.columns.Packing.{joined, digits, packed, bytes_for, width_of}
use Rattle.tt_value.specs.columns.Body.{word, is_same, runs_after, runs_of, run_bytes, run_body, distinct, with_value, index_in, dictionary_body, null_flag, null_flags, has_null, present, bitmap_of}
use Rattle.tt_value.specs.columns.Reading.{number_at, packed_at, is_count, count_at, values_at, is_new, is_length, run_at, runs_at, run_values_at, is_next, entry_at, entries_at, uses_each, values_of, looked_up, dictionary_values_at, has_flag, flags_at, present_count, spread}
use Rattle.tt_value.proofs.columns.Runs.{runs_le, length-runs_after}
use Rattle.tt_value.proofs.columns.Distinct.{Ascends, has, has_head, distinct_ascends, has_distinct}
use Rattle.tt_value.proofs.columns.Indexes.{found_index, member_at, index_below, distinct_le}
use Rattle.tt_value.proofs.columns.Packing.{Fit, length-packed, numbers_again, packed_is_low, width_holds}

-- ---- numbers

wide_again : (w : Width) (end n : ℕ) (rest : List ℕ) → length (to_le_bytes w n) ≡ byte_len w → from_le_bytes w (to_le_bytes w n) ≡ n → number_at w end (to_le_bytes w n ++ rest) ≡ Ok (n, rest)
wide_again w end n rest len back =
    let long : ltb (length (to_le_bytes w n ++ rest)) (byte_len w) ≡ false = le-ltb _ _ (omega (arith, length-append (to_le_bytes w n) rest)) in
    rw (long, take_at (to_le_bytes w n) rest (byte_len w) len, drop_at (to_le_bytes w n) rest (byte_len w) len, back) refl

pub word_again : (end n : ℕ) (rest : List ℕ) → n < 2 ^ 32 → number_at w32 end (word n ++ rest) ≡ Ok (n, rest)
word_again end n rest lt = wide_again w32 end n rest refl (from_le_bytes-to_le_bytes_4 n lt)

pub long_again : (end n : ℕ) (rest : List ℕ) → n < 2 ^ 64 → number_at w64 end (to_le_bytes w64 n ++ rest) ≡ Ok (n, rest)
long_again end n rest lt = wide_again w64 end n rest refl (from_le_bytes-to_le_bytes_8 n lt)

pub packed_again : (end w count : ℕ) (ns rest : List ℕ) → Fit w ns → length ns ≡ count → packed_at end w count (packed w ns ++ rest) ≡ Ok (ns, rest)
unfolding packed_at
packed_again end w count ns rest fit len =
    let size : length (packed w ns) ≡ bytes_for (count * w) = length-packed w ns ∙ ap (λ n. bytes_for (n * w)) len in
    let long : ltb (length (packed w ns ++ rest)) (bytes_for (count * w)) ≡ false = le-ltb _ _ (omega (arith, length-append (packed w ns) rest)) in
    let low : ltb (joined 8 (packed w ns)) (2 ^ (count * w)) ≡ true = lt-ltb _ _ (subst (λ n. joined 8 (packed w ns) < 2 ^ (n * w)) len (packed_is_low w ns fit)) in
    let numbers : digits w count (joined 8 (packed w ns)) ≡ ns = ap (λ n. digits w n (joined 8 (packed w ns))) (sym len) ∙ numbers_again w ns fit in
    rw (long, take_at (packed w ns) rest (bytes_for (count * w)) size, drop_at (packed w ns) rest (bytes_for (count * w)) size, low, numbers) refl

pub count_again : (end most n : ℕ) (rest : List ℕ) → n < 2 ^ 32 → n ≤ most → (most ≡ 0) ⊎ (0 < n) → count_at end most (word n ++ rest) ≡ Ok (n, rest)
unfolding count_at
count_again end most n rest lt le some =
    let t : is_count most n ≡ true = tested some in
    rw (word_again end n rest lt, t) refl
  where
    tested : (most ≡ 0) ⊎ (0 < n) → is_count most n ≡ true
    tested (inl e) = grind (arith, nat_tests)
    tested (inr e) = grind (arith, nat_tests)

module _ {V : Type 0} (spell : V → List ℕ) (read : ℕ → List ℕ → Result (V × List ℕ) ℕ) (cmp : V → V → Ordering) (Valid : V → Type 0)
    (again : (v : V) → Valid v → (end : ℕ) (rest : List ℕ) → read end (spell v ++ rest) ≡ Ok (v, rest)) where
  pub values_again : (vs : List V) → AllByRecursion Valid vs → (end : ℕ) (rest : List ℕ) → values_at read cmp end (length vs) (flat_map spell vs ++ rest) ≡ Ok (vs, rest)
  unfolding values_at
  values_again [] valid end rest = refl
  values_again (v ∷ vs) valid end rest =
      rw (append_assoc (spell v) (flat_map spell vs) rest, again v valid.0 end (flat_map spell vs ++ rest), values_again vs valid.1 end rest) refl

  -- ---- runs

  -- runs of so many values, behind another value
  abbrev pub AreRuns : ℕ → Option V → List (V × ℕ) → Type 0
  AreRuns left before [] = left ≡ 0
  AreRuns left before (run ∷ runs) = Valid run.0 × (is_new read cmp before run.0 ≡ true) × (0 < run.1) × (run.1 ≤ left) × (run.1 < 2 ^ 32) × AreRuns (left - run.1) (Some run.0) runs

  abbrev pub expanded : List (V × ℕ) → List V
  expanded runs = flat_map (λ run. replicate run.1 run.0) runs

  last_left : (left n : ℕ) (v : V) (runs : List (V × ℕ)) → n ≤ left → AreRuns (left - n) (Some v) runs → (0 < length runs) ⊎ (n ≡ left)
  last_left left n v [] le h = inr (omega arith)
  last_left left n v (run ∷ runs) le h = inl (omega arith)

  length_tested : (left later n : ℕ) → 0 < n → n ≤ left → (0 < later) ⊎ (n ≡ left) → is_length read cmp left later n ≡ true
  length_tested left later n some le (inl more) = grind (arith, nat_tests)
  length_tested left later n some le (inr all) = grind (arith, nat_tests)

  pub runs_again : (runs : List (V × ℕ)) (left : ℕ) (before : Option V) → AreRuns left before runs → (end : ℕ) (rest : List ℕ)
      → runs_at read cmp end (length runs) left before (flat_map (run_bytes spell cmp) runs ++ rest) ≡ Ok (expanded runs, rest)
  unfolding runs_at run_at
  runs_again [] left before are end rest = refl
  runs_again (run ∷ runs) left before are end rest =
      let behind : List ℕ = flat_map (run_bytes spell cmp) runs ++ rest in
      let grouped : flat_map (run_bytes spell cmp) (run ∷ runs) ++ rest ≡ spell run.0 ++ (word run.1 ++ behind)
      = append_assoc (run_bytes spell cmp run) (flat_map (run_bytes spell cmp) runs) rest ∙ append_assoc (spell run.0) (word run.1) behind in
      let t : is_length read cmp left (length runs) run.1 ≡ true = length_tested left (length runs) run.1 are.2 are.3 (last_left left run.1 run.0 runs are.3 are.5) in
      ap (runs_at read cmp end (suc (length runs)) left before) grouped
      ∙ rw (again run.0 are.0 end (word run.1 ++ behind), are.1, word_again end run.1 behind are.4, t, runs_again runs (left - run.1) (Some run.0) are.5 end rest) refl

  -- ---- entries

  abbrev pub AreEntries : Option V → List V → Type 0
  AreEntries before [] = Unit {0}
  AreEntries before (v ∷ vs) = Valid v × (is_next read cmp before v ≡ true) × AreEntries (Some v) vs

  pub entries_again : (ds : List V) (before : Option V) → AreEntries before ds → (end : ℕ) (rest : List ℕ) → entries_at read cmp end (length ds) before (flat_map spell ds ++ rest) ≡ Ok (ds, rest)
  unfolding entries_at entry_at
  entries_again [] before are end rest = refl
  entries_again (v ∷ vs) before are end rest =
      ap (entries_at read cmp end (suc (length vs)) before) (append_assoc (spell v) (flat_map spell vs) rest)
      ∙ rw (again v are.0 end (flat_map spell vs ++ rest), are.1, entries_again vs (Some v) are.2 end rest) refl

-- ---- runs and dictionaries of a list

module _ {V : Type 0} (spell : V → List ℕ) (read : ℕ → List ℕ → Result (V × List ℕ) ℕ) (cmp : V → V → Ordering) (Valid : V → Type 0)
    (again : (v : V) → Valid v → (end : ℕ) (rest : List ℕ) → read end (spell v ++ rest) ≡ Ok (v, rest)) (total : IsTotalOrder cmp) (ties : TiesAreSame cmp) where
  abbrev pub Runs : ℕ → Option V → List (V × ℕ) → Type 0
  Runs left before runs = AreRuns spell read cmp Valid again left before runs

  new_if : (v x : V) → is_same cmp v x ≡ false → is_new read cmp (Some v) x ≡ true
  new_if v x e = ap not e

  runs_are : (v : V) (n : ℕ) (xs : List V) (before : Option V) → Valid v → AllByRecursion Valid xs → is_new read cmp before v ≡ true → 0 < n → n + length xs < 2 ^ 32 → Runs (n + length xs) before (runs_after cmp v n xs)
  runs_are v n [] before v_valid valid fresh some few = (v_valid, fresh, some, omega arith, omega arith, omega arith)
  runs_are v n (x ∷ xs) before v_valid valid fresh some few = go (is_same cmp v x) refl
      (let h = runs_are v (n + 1) xs before v_valid valid.1 fresh (omega arith) (omega arith) in let e : n + 1 + length xs ≡ n + suc (length xs) = omega arith in rw e at h)
      (λ new. let h = runs_are x 1 xs (Some v) valid.0 valid.1 new (omega arith) (omega arith) in let e : 1 + length xs ≡ n + suc (length xs) - n = omega arith in rw e at h)
    where
      go : (b : Bool) → is_same cmp v x ≡ b → Runs (n + suc (length xs)) before (runs_after cmp v (n + 1) xs) → (is_new read cmp (Some v) x ≡ true → Runs (n + suc (length xs) - n) (Some v) (runs_after cmp x 1 xs))
          → Runs (n + suc (length xs)) before (if b then runs_after cmp v (n + 1) xs else (v, n) ∷ runs_after cmp x 1 xs)
      go true e joined apart = joined
      go false e joined apart = (v_valid, fresh, some, omega arith, omega arith, apart (new_if v x e))

  pub runs_of_are : (vs : List V) → AllByRecursion Valid vs → length vs < 2 ^ 32 → Runs (length vs) None (runs_of cmp vs)
  runs_of_are [] valid few = refl
  runs_of_are (v ∷ vs) valid few = let h = runs_are v 1 vs None valid.0 valid.1 refl (omega arith) (omega arith) in let e : 1 + length vs ≡ suc (length vs) = omega arith in rw e at h

  abbrev pub expand : List (V × ℕ) → List V
  expand runs = expanded spell read cmp Valid again runs

  expand_after : (v : V) (n : ℕ) (xs : List V) → expand (runs_after cmp v n xs) ≡ replicate n v ++ xs
  expand_after v n [] = refl
  expand_after v n (x ∷ xs) = go (is_same cmp v x) refl (expand_after v (n + 1) xs) (expand_after x 1 xs)
    where
      go : (b : Bool) → is_same cmp v x ≡ b → expand (runs_after cmp v (n + 1) xs) ≡ replicate (n + 1) v ++ xs → expand (runs_after cmp x 1 xs) ≡ replicate 1 x ++ xs → expand (if b then runs_after cmp v (n + 1) xs else (v, n) ∷ runs_after cmp x 1 xs) ≡ replicate n v ++ x ∷ xs
      go true e joined apart = joined ∙ ap (λ t. t ++ xs) (sym (replicate_more n v)) ∙ append_assoc (replicate n v) (v ∷ []) xs ∙ ap (λ y. replicate n v ++ y ∷ xs) (ties v x (equal (cmp v x) e))
        where
          equal : (o : Ordering) → is_eq o ≡ true → o ≡ Equal
          equal Less h = absurd cc
          equal Equal h = refl
          equal Greater h = absurd cc
      go false e joined apart = ap (λ t. replicate n v ++ t) apart

  pub expand_runs : (vs : List V) → expand (runs_of cmp vs) ≡ vs
  expand_runs [] = refl
  expand_runs (v ∷ vs) = expand_after v 1 vs

  pub run_values_again : (vs : List V) → AllByRecursion Valid vs → length vs < 2 ^ 32 → (end : ℕ) (rest : List ℕ) → run_values_at read cmp end (length vs) (run_body spell cmp vs ++ rest) ≡ Ok (vs, rest)
  unfolding run_values_at
  run_values_again vs valid few end rest =
      let runs : List (V × ℕ) = runs_of cmp vs in
      let behind : List ℕ = flat_map (run_bytes spell cmp) runs ++ rest in
      let le = runs_le cmp vs in
      let read_all : runs_at read cmp end (length runs) (length vs) None behind ≡ Ok (vs, rest) = runs_again spell read cmp Valid again runs (length vs) None (runs_of_are vs valid few) end rest ∙ ap (λ t. Ok (t, rest)) (expand_runs vs) in
      ap (run_values_at read cmp end (length vs)) (append_assoc (word (length runs)) (flat_map (run_bytes spell cmp) runs) rest)
      ∙ rw (count_again end (length vs) (length runs) behind (omega arith) le (some vs), read_all) refl
    where
      some : (vs : List V) → (length vs ≡ 0) ⊎ (0 < length (runs_of cmp vs))
      some [] = inl refl
      some (v ∷ vs) = inr (omega (arith, length-runs_after cmp v 1 vs))

  -- ---- dictionaries

  next_of : (v : V) (ds : List V) → Ascends cmp total ties (v ∷ ds) → AllByRecursion Valid ds → AreEntries spell read cmp Valid again (Some v) ds
  next_of v [] up valid = tt
  next_of v (d ∷ ds) up valid = (valid.0, ap is_lt up.0.0, next_of d ds up.1 valid.1)

  entries_are : (ds : List V) → Ascends cmp total ties ds → AllByRecursion Valid ds → AreEntries spell read cmp Valid again None ds
  entries_are [] up valid = tt
  entries_are (d ∷ ds) up valid = (valid.0, refl, next_of d ds up valid.1)

  valid_with : (v : V) (ds : List V) → Valid v → AllByRecursion Valid ds → AllByRecursion Valid (with_value cmp v ds)
  valid_with v [] p q = (p, tt)
  valid_with v (d ∷ ds) p q = go (cmp v d) (valid_with v ds p q.1)
    where
      go : (o : Ordering) → AllByRecursion Valid (with_value cmp v ds) → AllByRecursion Valid (match_ordering o (v ∷ d ∷ ds) (d ∷ ds) (d ∷ with_value cmp v ds))
      go Less h = (p, q)
      go Equal h = q
      go Greater h = (q.0, h)

  valid_distinct : (vs : List V) → AllByRecursion Valid vs → AllByRecursion Valid (distinct cmp vs)
  valid_distinct [] valid = tt
  valid_distinct (v ∷ vs) valid = valid_with v (distinct cmp vs) valid.0 (valid_distinct vs valid.1)

  -- the value at the place of a value
  at_index : (ds : List V) (v : V) → has cmp total ties v ds ≡ true → slice_get ds (index_in cmp ds v) ≡ Some v
  at_index [] v e = absurd cc
  at_index (d ∷ ds) v e = go (cmp v d) refl (λ h. at_index ds v h) e
    where
      same_of : (o : Ordering) → cmp v d ≡ o → o ≡ Equal → slice_get (d ∷ ds) (if is_same cmp d v then 0 else index_in cmp ds v + 1) ≡ Some v
      same_of o o-is eq = let t : cmp d v ≡ Equal = tied_back total v d (o-is ∙ eq) in rw (t) (ap (λ y. Some y) (ties d v t))

      later : (b : Bool) → is_same cmp d v ≡ b → slice_get ds (index_in cmp ds v) ≡ Some v → slice_get (d ∷ ds) (if b then 0 else index_in cmp ds v + 1) ≡ Some v
      later true b-is h = ap (λ y. Some y) (ties d v (equal (cmp d v) b-is))
        where
          equal : (o : Ordering) → is_eq o ≡ true → o ≡ Equal
          equal Less h = absurd cc
          equal Equal h = refl
          equal Greater h = absurd cc
      later false b-is h = rw (add-one (index_in cmp ds v)) h

      go : (o : Ordering) → cmp v d ≡ o → (has cmp total ties v ds ≡ true → slice_get ds (index_in cmp ds v) ≡ Some v) → (is_eq o || has cmp total ties v ds) ≡ true → slice_get (d ∷ ds) (if is_same cmp d v then 0 else index_in cmp ds v + 1) ≡ Some v
      go Less o-is ih e = later (is_same cmp d v) refl (ih e)
      go Equal o-is ih e = same_of Equal o-is refl
      go Greater o-is ih e = later (is_same cmp d v) refl (ih e)

  looked : (ds : List V) (vs : List V) → AllByRecursion (λ v. has cmp total ties v ds ≡ true) vs → values_of ds (map (index_in cmp ds) vs) ≡ Some vs
  looked ds [] all = refl
  looked ds (v ∷ vs) all = rw (at_index ds v all.0, looked ds vs all.1) refl

  members : (vs us : List V) → ((u : V) → has cmp total ties u us ≡ true → has cmp total ties u vs ≡ true) → AllByRecursion (λ v. has cmp total ties v vs ≡ true) us
  members vs [] sub = tt
  members vs (u ∷ us) sub = (sub u (has_head cmp total ties u us), members vs us (λ w h. sub w (or_true (is_eq (cmp w u)) h)))
    where
      or_true : (b : Bool) {c : Bool} → c ≡ true → (b || c) ≡ true
      or_true true e = refl
      or_true false e = e

  -- each entry is used
  used_at : (ds vs : List V) (k : ℕ) (d : V) → Ascends cmp total ties ds → k < length ds → has cmp total ties (get_or ds k d) vs ≡ true → list_any (λ index. index == k) (map (index_in cmp ds) vs) ≡ true
  used_at ds [] k d up lt e = absurd cc
  used_at ds (v ∷ vs) k d up lt e = go (cmp (get_or ds k d) v) refl (λ h. used_at ds vs k d up lt h) e
    where
      or_true : (b : Bool) {c : Bool} → c ≡ true → (b || c) ≡ true
      or_true true e = refl
      or_true false e = e

      here : cmp (get_or ds k d) v ≡ Equal → (index_in cmp ds v == k) ≡ true
      here t = eq-eqb (index_in cmp ds v) k (found_index cmp total ties ds v k d up lt t)

      go : (o : Ordering) → cmp (get_or ds k d) v ≡ o → (has cmp total ties (get_or ds k d) vs ≡ true → list_any (λ index. index == k) (map (index_in cmp ds) vs) ≡ true) → (is_eq o || has cmp total ties (get_or ds k d) vs) ≡ true
          → ((index_in cmp ds v == k) || list_any (λ index. index == k) (map (index_in cmp ds) vs)) ≡ true
      go Less o-is ih e = or_true (index_in cmp ds v == k) (ih e)
      go Equal o-is ih e = ap (λ b. b || list_any (λ index. index == k) (map (index_in cmp ds) vs)) (here o-is)
      go Greater o-is ih e = or_true (index_in cmp ds v == k) (ih e)

  uses : (ds vs : List V) (n : ℕ) → V → Ascends cmp total ties ds → n ≤ length ds → ((u : V) → has cmp total ties u ds ≡ true → has cmp total ties u vs ≡ true) → uses_each n (map (index_in cmp ds) vs) ≡ true
  uses ds vs zero d up le sub = refl
  uses ds vs (suc n) d up le sub =
      ap (λ b. b && uses_each n (map (index_in cmp ds) vs)) (used_at ds vs n d up (omega arith) (sub (get_or ds n d) (member_at cmp total ties ds n d (omega arith))))
      ∙ uses ds vs n d up (omega arith) sub

  fit_indexes : (ds us : List V) → length ds ≤ 2 ^ 64 → AllByRecursion (λ v. has cmp total ties v ds ≡ true) us → Fit (width_of (length ds - 1)) (map (index_in cmp ds) us)
  fit_indexes ds [] few all = tt
  fit_indexes ds (u ∷ us) few all =
      (let below = index_below cmp total ties ds u all.0 in let holds = width_holds (length ds - 1) (omega arith) in omega arith, fit_indexes ds us few all.1)

  pub dictionary_values_again : (vs : List V) → AllByRecursion Valid vs → length vs < 2 ^ 32 → (end : ℕ) (rest : List ℕ) → dictionary_values_at read cmp end (length vs) (dictionary_body spell cmp vs ++ rest) ≡ Ok (vs, rest)
  unfolding dictionary_values_at looked_up
  dictionary_values_again vs valid few end rest =
      let ds : List V = distinct cmp vs in
      let ns : List ℕ = map (index_in cmp ds) vs in
      let w : ℕ = width_of (length ds - 1) in
      let up : Ascends cmp total ties ds = distinct_ascends cmp total ties vs in
      let le : length ds ≤ length vs = distinct_le cmp total ties vs in
      let inside : AllByRecursion (λ v. has cmp total ties v ds ≡ true) vs = members ds vs (λ u h. has_distinct cmp total ties u vs ∙ h) in
      let behind : List ℕ = packed w ns ++ rest in
      let grouped : dictionary_body spell cmp vs ++ rest ≡ word (length ds) ++ (flat_map spell ds ++ behind) = append_assoc (word (length ds)) (flat_map spell ds ++ packed w ns) rest ∙ ap (λ t. word (length ds) ++ t) (append_assoc (flat_map spell ds) (packed w ns) rest) in
      let fit : Fit w ns = fit_indexes ds vs (omega arith) inside in
      let used : uses_each (length ds) ns ≡ true = all_used vs le in
      ap (dictionary_values_at read cmp end (length vs)) grouped
      ∙ rw (count_again end (length vs) (length ds) (flat_map spell ds ++ behind) (omega arith) le (some vs), entries_again spell read cmp Valid again ds None (entries_are ds up (valid_distinct vs valid)) end behind, packed_again end w (length vs) ns rest fit (length-map vs (index_in cmp ds)), looked ds vs inside, used) refl
    where
      some : (vs : List V) → (length vs ≡ 0) ⊎ (0 < length (distinct cmp vs))
      some [] = inl refl
      some (v ∷ vs) = inr (let below = index_below cmp total ties (distinct cmp (v ∷ vs)) v (has_distinct cmp total ties v (v ∷ vs) ∙ has_head cmp total ties v vs) in omega arith)

      all_used : (vs : List V) → length (distinct cmp vs) ≤ length vs → uses_each (length (distinct cmp vs)) (map (index_in cmp (distinct cmp vs)) vs) ≡ true
      all_used [] le = refl
      all_used (v ∷ vs) le = uses (distinct cmp (v ∷ vs)) (v ∷ vs) (length (distinct cmp (v ∷ vs))) v (distinct_ascends cmp total ties (v ∷ vs)) (omega arith) (λ u h. sym (has_distinct cmp total ties u (v ∷ vs)) ∙ h)

-- ---- NULLs

flags_say : {V : Type 0} (rows : List (Option V)) → has_flag (null_flags rows) ≡ has_null rows
flags_say [] = refl
flags_say (None ∷ rows) = refl
flags_say (Some v ∷ rows) = flags_say rows

flags_none : {V : Type 0} (rows : List (Option V)) → has_null rows ≡ false → replicate (length rows) 0 ≡ null_flags rows
flags_none [] e = refl
flags_none (None ∷ rows) e = absurd cc
flags_none (Some v ∷ rows) e = ap (λ (t : List ℕ). 0 ∷ t) (flags_none rows e)

flags_are_bits : {V : Type 0} (rows : List (Option V)) → Fit 1 (null_flags rows)
flags_are_bits [] = tt
flags_are_bits (None ∷ rows) = (omega arith, flags_are_bits rows)
flags_are_bits (Some v ∷ rows) = (omega arith, flags_are_bits rows)

pub flags_again : {V : Type 0} (rows : List (Option V)) → flags_at (length rows) (has_null rows) (bitmap_of rows) ≡ Ok (null_flags rows)
unfolding flags_at
flags_again rows = go (has_null rows) refl
  where
    go : (b : Bool) → has_null rows ≡ b → flags_at (length rows) b (if b then packed 1 (null_flags rows) else []) ≡ Ok (null_flags rows)
    go false e = ap (λ t. Ok t) (flags_none rows e)
    go true e =
        let flags : List ℕ = null_flags rows in
        let read : packed_at (length (packed 1 flags)) 1 (length rows) (packed 1 flags) ≡ Ok (flags, []) = ap (packed_at (length (packed 1 flags)) 1 (length rows)) (sym (append-nil (packed 1 flags))) ∙ packed_again (length (packed 1 flags)) 1 (length rows) flags [] (flags_are_bits rows) (length-map rows null_flag) in
        rw (read, flags_say rows ∙ e) refl

counted : {V : Type 0} (rows : List (Option V)) (k : ℕ) → fold (λ a flag. a + cond (flag == 0) 1 0) k (null_flags rows) ≡ k + length (present rows)
counted [] k = omega arith
counted (None ∷ rows) k = ap (λ n. fold (λ a flag. a + cond (flag == 0) 1 0) n (null_flags rows)) (let e : k + 0 ≡ k = omega arith in e) ∙ counted rows k
counted (Some v ∷ rows) k = counted rows (k + 1) ∙ omega arith

pub present_count_again : {V : Type 0} (rows : List (Option V)) → present_count (null_flags rows) ≡ length (present rows)
present_count_again rows = counted rows 0 ∙ omega arith

pub spread_again : {V : Type 0} (rows : List (Option V)) → spread (null_flags rows) (present rows) ≡ rows
spread_again [] = refl
spread_again (None ∷ rows) = go (present rows) (spread_again rows)
  where
    go : {V : Type 0} {rows : List (Option V)} (vs : List V) → spread (null_flags rows) vs ≡ rows → spread (1 ∷ null_flags rows) vs ≡ None ∷ rows
    go [] h = ap (λ t. None ∷ t) h
    go (v ∷ vs) h = ap (λ t. None ∷ t) h
spread_again (Some v ∷ rows) = ap (λ t. Some v ∷ t) (spread_again rows)
