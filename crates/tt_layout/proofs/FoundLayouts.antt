-- The last layout that began by a moment.
use Rattle.std.proofs.Common.{◌≡◌, ℕ, zero, suc, ◌-◌, ◌<◌, ◌≤◌, nat_le, Bool, List, [], ◌∷◌, length, filter, cond, Option, Some, None, option_map, refl, ap, sym, ◌∙◌, arith}
use Rattle.std.proofs.lemmas.Bool.{le-leb, lt-leb}
use Rattle.tt_layout.specs.declared.piece.Piece.{Piece}
use Rattle.tt_layout.specs.Chain.{last_of, layout_at, layouts_from, numbers_at, begun_at}
use Rattle.tt_layout.proofs.ChainLaws.{length-layouts}

-- of so many layouts from the front on the last one
abbrev pub found : List (ℕ × List ℕ) → ℕ → Option (List ℕ)
found ls zero = None
found ls (suc place) = Some (numbers_at ls place)

none_begun : (ls : List (ℕ × List ℕ)) (moment : ℕ) → ((k : ℕ) → k < length ls → moment < begun_at ls k)
    → filter (λ (l : ℕ × List ℕ). nat_le l.0 moment) ls ≡ []
none_begun [] moment later = refl
none_begun (l ∷ ls) moment later =
    ap (λ (b : Bool). cond b (l ∷ filter (λ (l : ℕ × List ℕ). nat_le l.0 moment) ls) (filter (λ (l : ℕ × List ℕ). nat_le l.0 moment) ls))
    (lt-leb l.0 moment (later 0 (omega arith)))
    ∙ none_begun ls moment (λ k h. later (suc k) (omega arith))

last_behind : (x : ℕ × List ℕ) (xs : List (ℕ × List ℕ)) (ns : List ℕ) → option_map (λ (l : ℕ × List ℕ). l.1) (last_of xs) ≡ Some ns
    → option_map (λ (l : ℕ × List ℕ). l.1) (last_of (x ∷ xs)) ≡ Some ns
last_behind x [] ns h = absurd (cc)
last_behind x (y ∷ ys) ns h = h

pub layout_at_is : (ls : List (ℕ × List ℕ)) (place moment : ℕ) → place ≤ length ls → ((k : ℕ) → k < place → begun_at ls k ≤ moment)
    → ((k : ℕ) → place ≤ k → k < length ls → moment < begun_at ls k) → layout_at ls moment ≡ found ls place
layout_at_is ls zero moment bound begun later =
    ap (λ (xs : List (ℕ × List ℕ)). option_map (λ (l : ℕ × List ℕ). l.1) (last_of xs)) (none_begun ls moment (λ k h. later k (omega arith) h))
layout_at_is [] (suc place) moment bound begun later = absurd (omega arith)
layout_at_is (l ∷ ls) (suc zero) moment bound begun later =
    ap (λ (b : Bool). option_map (λ (l : ℕ × List ℕ). l.1) (last_of (cond b (l ∷ filter (λ (l : ℕ × List ℕ). nat_le l.0 moment) ls) (filter (λ (l : ℕ × List ℕ). nat_le l.0 moment) ls))))
    (le-leb l.0 moment (begun 0 (omega arith)))
    ∙ ap (λ (xs : List (ℕ × List ℕ)). option_map (λ (l : ℕ × List ℕ). l.1) (last_of (l ∷ xs))) (none_begun ls moment (λ k h. later (suc k) (omega arith) (omega arith)))
layout_at_is (l ∷ ls) (suc (suc place)) moment bound begun later =
    ap (λ (b : Bool). option_map (λ (l : ℕ × List ℕ). l.1) (last_of (cond b (l ∷ filter (λ (l : ℕ × List ℕ). nat_le l.0 moment) ls) (filter (λ (l : ℕ × List ℕ). nat_le l.0 moment) ls))))
    (le-leb l.0 moment (begun 0 (omega arith)))
    ∙ last_behind l (filter (λ (l : ℕ × List ℕ). nat_le l.0 moment) ls) (numbers_at ls place)
    (layout_at_is ls (suc place) moment (omega arith) (λ k h. begun (suc k) (omega arith)) (λ k h i. later (suc k) (omega arith) (omega arith)))

-- the same of a chain
pub none_found : (ps : List (ℕ × Piece)) (ls : List (ℕ × List ℕ)) (place moment : ℕ) → layouts_from [] ps ≡ ls → place ≡ 0 → place ≤ length ps
    → ((k : ℕ) → k < place → begun_at (layouts_from [] ps) k ≤ moment)
    → ((k : ℕ) → place ≤ k → k < length ps → moment < begun_at (layouts_from [] ps) k) → None ≡ layout_at ls moment
none_found ps ls place moment e none bound begun later =
    sym (ap (λ (xs : List (ℕ × List ℕ)). layout_at xs moment) (sym e)
    ∙ layout_at_is (layouts_from [] ps) 0 moment (omega arith) (λ k h. absurd (omega arith)) (λ k h i. later k (omega arith) (omega (arith, length-layouts [] ps))))

pub some_found : (ps : List (ℕ × Piece)) (ls : List (ℕ × List ℕ)) (place moment : ℕ) (ns : List ℕ) → layouts_from [] ps ≡ ls → (place ≡ 0 → ⊥) → place ≤ length ps
    → ((k : ℕ) → k < place → begun_at (layouts_from [] ps) k ≤ moment)
    → ((k : ℕ) → place ≤ k → k < length ps → moment < begun_at (layouts_from [] ps) k)
    → ns ≡ numbers_at (layouts_from [] ps) (place - 1) → Some ns ≡ layout_at ls moment
some_found ps ls place moment ns e some bound begun later same =
    ap Some same
    ∙ sym (ap (λ (xs : List (ℕ × List ℕ)). layout_at xs moment) (sym e)
    ∙ layout_at_is (layouts_from [] ps) (suc (place - 1)) moment (omega (arith, length-layouts [] ps)) (λ k h. begun k (omega arith)) (λ k h i. later k (omega arith) (omega (arith, length-layouts [] ps))))
