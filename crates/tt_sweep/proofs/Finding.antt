-- Looking a number up in a list that does not fall.
use Rattle.std.proofs.Common.{◌≡◌, ℕ, ◌<◌, ◌≤◌, ◌==◌, List, length, get_or, Result, Ok, Err, is_ok, inl, inr, arith}
use Rattle.std.specs.Ordering.{nat_cmp}
use Rattle.std.specs.List.Sorted.{IsBinarySearchResult, IsNonDecreasing}
use Rattle.std.proofs.lemmas.Bool.{cases_order, eq-eqb, ne_eqb}
use Rattle.std.proofs.lemmas.List.Folds.{list_any_at, list_any_none}
use Rattle.std.proofs.lemmas.List.Sorted.{searched}
use Rattle.std.proofs.lemmas.Grind.{get_or_default_zero}
use Rattle.tt_layout.specs.Numbers.{has}

pub found : (xs : List ℕ) (x : ℕ) (r : Result ℕ ℕ) → IsBinarySearchResult (λ y. nat_cmp y x) xs r → IsNonDecreasing xs → has xs x ≡ is_ok r
found xs x (Ok i) search up =
    let at : (i < length xs) × (get_or xs i 0 ≡ x) = searched xs x (Ok i) search (λ i j h k. up i j 0 h k) in
    list_any_at (λ m. m == x) xs i 0 at.0 (eq-eqb (get_or xs i 0) x at.1)
found xs x (Err i) search up =
    let at : (i ≤ length xs) × ((k : ℕ) → k < i → get_or xs k 0 < x) × ((k : ℕ) → i ≤ k → k < length xs → x < get_or xs k 0) =
    searched xs x (Err i) search (λ i j h k. up i j 0 h k) in
    list_any_none (λ m. m == x) xs (λ k d h. ne_eqb (get_or xs k d) x (λ e. elim (cases_order k i) [
      | inl same ↦ omega (arith, at.2 k (omega arith) h, get_or_default_zero xs k d h)
      | inr (inl below) ↦ omega (arith, at.1 k below, get_or_default_zero xs k d h)
      | inr (inr above) ↦ omega (arith, at.2 k (omega arith) h, get_or_default_zero xs k d h)
    ]))
