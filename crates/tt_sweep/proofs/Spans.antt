-- Spans by their place.
use Rattle.std.proofs.Common.{◌≡◌, ℕ, zero, suc, ◌<◌, ◌≤◌, List, [], ◌∷◌, length, get_or, Option, Some, refl, ap, arith}
use Rattle.tt_layout.specs.Chain.{FollowFrom, layout_at, numbers_at, begun_at}
use Rattle.tt_layout.specs.Spans.{spans_of}
use Rattle.tt_layout.proofs.FoundLayouts.{layout_at_is}
use Rattle.tt_sweep.specs.Claims.{end_at}

pub length-spans : (ls : List (ℕ × List ℕ)) (dropped : Option ℕ) → length (spans_of ls dropped) ≡ length ls
length-spans [] dropped = refl
length-spans (l ∷ []) dropped = refl
length-spans (l ∷ m ∷ ms) dropped = ap suc (length-spans (m ∷ ms) dropped)

pub span_at : (ls : List (ℕ × List ℕ)) (dropped : Option ℕ) (place : ℕ) (d : List ℕ × Option ℕ) → place < length ls
    → get_or (spans_of ls dropped) place d ≡ (numbers_at ls place, end_at ls dropped place)
span_at [] dropped place d h = absurd (omega arith)
span_at (l ∷ []) dropped zero d h = refl
span_at (l ∷ []) dropped (suc place) d h = absurd (omega arith)
span_at (l ∷ m ∷ ms) dropped zero d h = refl
span_at (l ∷ m ∷ ms) dropped (suc place) d h = span_at (m ∷ ms) dropped place d (omega arith)

pub end_inside : (ls : List (ℕ × List ℕ)) (dropped : Option ℕ) (place : ℕ) → suc place < length ls → end_at ls dropped place ≡ Some (begun_at ls (suc place))
end_inside [] dropped place h = absurd (omega arith)
end_inside (l ∷ []) dropped place h = absurd (omega arith)
end_inside (l ∷ m ∷ ms) dropped zero h = refl
end_inside (l ∷ m ∷ ms) dropped (suc place) h = end_inside (m ∷ ms) dropped place (omega arith)

pub end_last : (ls : List (ℕ × List ℕ)) (dropped : Option ℕ) (place : ℕ) → length ls ≤ suc place → end_at ls dropped place ≡ dropped
end_last [] dropped place h = refl
end_last (l ∷ []) dropped place h = refl
end_last (l ∷ m ∷ ms) dropped zero h = absurd (omega arith)
end_last (l ∷ m ∷ ms) dropped (suc place) h = end_last (m ∷ ms) dropped place (omega arith)

-- ---- the layout at a moment at which one began, and no later one did

begun_from : (begun : ℕ) (ls : List (ℕ × List ℕ)) (place : ℕ) → FollowFrom begun ls → place < length ls → begun ≤ begun_at ls place
begun_from begun [] place order h = absurd (omega arith)
begun_from begun (l ∷ ls) zero order h = order.0
begun_from begun (l ∷ ls) (suc place) order h = omega (arith, order.0, begun_from l.0 ls place order.2 (omega arith))

pub begun_up : (begun : ℕ) (ls : List (ℕ × List ℕ)) (i j : ℕ) → FollowFrom begun ls → i ≤ j → j < length ls → begun_at ls i ≤ begun_at ls j
begun_up begun [] i j order up h = absurd (omega arith)
begun_up begun (l ∷ ls) zero zero order up h = omega arith
begun_up begun (l ∷ ls) zero (suc j) order up h = begun_from l.0 ls j order.2 (omega arith)
begun_up begun (l ∷ ls) (suc i) zero order up h = absurd (omega arith)
begun_up begun (l ∷ ls) (suc i) (suc j) order up h = begun_up l.0 ls i j order.2 (omega arith) (omega arith)

pub fresh_layout : (ls : List (ℕ × List ℕ)) (place : ℕ) → FollowFrom 0 ls → place < length ls
    → (suc place < length ls → begun_at ls (suc place) ≡ begun_at ls place → ⊥)
    → layout_at ls (begun_at ls place) ≡ Some (numbers_at ls place)
fresh_layout ls place order h new =
    layout_at_is ls (suc place) (begun_at ls place) (omega arith) (λ k low. begun_up 0 ls k place order (omega arith) h)
    (λ k low high. later k low high)
  where
    later : (k : ℕ) → suc place ≤ k → k < length ls → begun_at ls place < begun_at ls k
    later k low high =
        let next : begun_at ls place ≤ begun_at ls (suc place) = begun_up 0 ls place (suc place) order (omega arith) (omega arith) in
        let up : begun_at ls (suc place) ≤ begun_at ls k = begun_up 0 ls (suc place) k order low high in
        let other : begun_at ls (suc place) ≡ begun_at ls place → ⊥ = new (omega arith) in
        omega (arith, other)
