-- Counting runs.
use Rattle.std.proofs.Common.{◌≡◌, ℕ, suc, ◌+◌, ◌≤◌, Bool, true, false, List, [], ◌∷◌, length, refl, arith, Ordering}
use Rattle.std.specs.Prelude.{if◌then◌else◌}
use Rattle.tt_value.specs.columns.Body.{runs_after, runs_of, is_same}

module _ {V : Type 0} (cmp : V → V → Ordering) where
  -- how often a value differs from the one before
  abbrev pub breaks : V → List V → ℕ
  breaks v [] = 0
  breaks v (x ∷ xs) = if is_same cmp v x then breaks v xs else breaks x xs + 1

  pub length-runs_after : (v : V) (count : ℕ) (xs : List V) → length (runs_after cmp v count xs) ≡ breaks v xs + 1
  length-runs_after v count [] = refl
  length-runs_after v count (x ∷ xs) = go (length-runs_after v (count + 1) xs) (length-runs_after x 1 xs) (is_same cmp v x)
    where
      go : length (runs_after cmp v (count + 1) xs) ≡ breaks v xs + 1 → length (runs_after cmp x 1 xs) ≡ breaks x xs + 1 → (b : Bool)
          → length (if b then runs_after cmp v (count + 1) xs else (v, count) ∷ runs_after cmp x 1 xs) ≡ (if b then breaks v xs else breaks x xs + 1) + 1
      go same other true = same
      go same other false = omega (arith, other)

  pub breaks_le : (v : V) (xs : List V) → breaks v xs ≤ length xs
  breaks_le v [] = omega arith
  breaks_le v (x ∷ xs) = go (breaks_le v xs) (breaks_le x xs) (is_same cmp v x)
    where
      go : breaks v xs ≤ length xs → breaks x xs ≤ length xs → (b : Bool) → (if b then breaks v xs else breaks x xs + 1) ≤ suc (length xs)
      go p q true = omega arith
      go p q false = omega arith

  pub count_start : (v v' : V) (others values : List V) → v' ≡ v → values ≡ v ∷ others → 1 + breaks v' others ≡ length (runs_of cmp values)
  count_start v v' others values same values_is = rw (same, values_is) (let e = length-runs_after v 1 others in omega arith)

  pub runs_le : (vs : List V) → length (runs_of cmp vs) ≤ length vs
  runs_le [] = omega arith
  runs_le (v ∷ vs) = omega (arith, length-runs_after v 1 vs, breaks_le v vs)
