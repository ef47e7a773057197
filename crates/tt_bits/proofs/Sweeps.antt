-- A walk over words that changes each by what stands at its place in others.
use Rattle.std.proofs.Common.{◌≡◌, ℕ, ◌+◌, ◌<◌, ◌≤◌, inl, inr, List, length, get_or, set, refl, sym, ap, ◌∙◌, arith}
use Rattle.std.proofs.lemmas.Bool.{cases_eq}
use Rattle.std.proofs.lemmas.List.{get_or-set_same, get_or-set_other, length-set}

-- the first i of the old words are changed by f
pub record IsSwept (f : ℕ → ℕ → ℕ) (old others now : List ℕ) (i : ℕ) : Type 0 where
  pub long : length now ≡ length old
  pub done : (k : ℕ) → k < i → get_or now k 0 ≡ f (get_or old k 0) (get_or others k 0)
  pub rest : (k : ℕ) → i ≤ k → get_or now k 0 ≡ get_or old k 0

pub IsSwept-none : (f : ℕ → ℕ → ℕ) (old others : List ℕ) → IsSwept f old others old 0
IsSwept-none f old others = record { long = refl; done = λ k h. absurd (omega arith); rest = λ k h. refl }

pub IsSwept-more : (f : ℕ → ℕ → ℕ) (old others now : List ℕ) (i v : ℕ) → IsSwept f old others now i → i < length now
    → v ≡ f (get_or now i 0) (get_or others i 0) → IsSwept f old others (set now i v) (i + 1)
IsSwept-more f old others now i v swept h is = record {
  long = length-set now i v ∙ swept.long;
  done = λ k b. elim (cases_eq k i) [
    | inl e ↦
        ap (λ j. get_or (set now i v) j 0) e ∙ get_or-set_same now i v 0 h ∙ is
        ∙ ap (λ w. f w (get_or others i 0)) (swept.rest i (omega arith))
        ∙ sym (ap (λ j. f (get_or old j 0) (get_or others j 0)) e)
    | inr n ↦ get_or-set_other now i k v 0 n ∙ swept.done k (omega arith)
  ];
  rest = λ k b. let apart : k ≡ i → ⊥ = λ e. absurd (omega arith) in get_or-set_other now i k v 0 apart ∙ swept.rest k (omega arith);
}
