-- Changes of a chain put together, from one full list on.
use Rattle.std.proofs.Common.{◌≡◌, ℕ, suc, ◌+◌, ◌%◌, ◌-◌, ◌<◌, ◌≤◌, not, List, [], ◌∷◌, length, slice_index_or, refl, ap, sym, subst, ◌∙◌, arith, add-one}
use Rattle.tt_layout.specs.declared.piece.Piece.{Piece}
use Rattle.tt_layout.specs.declared.piece.Piece.TheVariants.{Full, Change}
use Rattle.tt_layout.specs.Numbers.{IsAscending, has, without, joined, changed}
use Rattle.tt_layout.specs.Chain.{IsChain, layouts_from, numbers_at}
use Rattle.tt_layout.proofs.Ascending.{ascends-filter, ascends-joined}
use Rattle.tt_layout.proofs.Changes.{changed_back, changed_twice}
use Rattle.tt_layout.proofs.ChainLaws.{chain_full, chain_change, ascends_at, length-layouts}

-- what is gone, and what was added, in the layout behind this place
abbrev pub gone_behind : List (ℕ × Piece) → ℕ → List ℕ
gone_behind ps at = without (numbers_at (layouts_from [] ps) (suc at)) (numbers_at (layouts_from [] ps) at)

abbrev pub added_behind : List (ℕ × Piece) → ℕ → List ℕ
added_behind ps at = without (numbers_at (layouts_from [] ps) at) (numbers_at (layouts_from [] ps) (suc at))

not_full : (first at place : ℕ) → first % 64 ≡ 0 → first ≤ at → at < place → place < first + 64 → suc at % 64 ≡ 0 → ⊥
not_full first at place full low high near h = omega arith

pub change_at : (ps : List (ℕ × Piece)) (first at place : ℕ) (x : ℕ × Piece) → IsChain ps → place < length ps → first % 64 ≡ 0 → first ≤ at
    → at < place → place < first + 64 → x ≡ slice_index_or ps (at + 1) x → x.1 ≡ Change (gone_behind ps at) (added_behind ps at)
change_at ps first at place x chain bound full low high near e =
    ap (λ (p : ℕ × Piece). p.1) (e ∙ ap (λ (k : ℕ). slice_index_or ps k x) (add-one at))
    ∙ chain_change ps at x chain (omega arith) (not_full first at place full low high near)

pub full_at : (ps : List (ℕ × Piece)) (place : ℕ) (x : ℕ × Piece) → IsChain ps → place < length ps
    → x ≡ slice_index_or ps (place - place % 64) x → x.1 ≡ Full (numbers_at (layouts_from [] ps) (place - place % 64))
full_at ps place x chain bound e =
    ap (λ (p : ℕ × Piece). p.1) e ∙ chain_full ps (place - place % 64) x chain (omega arith) (omega arith)

pub change_parts : (p : Piece) (g a h b : List ℕ) → p ≡ Change g a → p ≡ Change h b → (g ≡ h) × (a ≡ b)
change_parts p g a h b e f = (cc, cc)

pub numbers_ascend : (ps : List (ℕ × Piece)) (at : ℕ) → IsChain ps → at < length ps → IsAscending (numbers_at (layouts_from [] ps) at)
numbers_ascend ps at chain h = ascends_at 0 (layouts_from [] ps) at chain.order.1 (omega (arith, length-layouts [] ps))

pub gone_ascends : (ps : List (ℕ × Piece)) (at : ℕ) → IsChain ps → suc at < length ps → IsAscending (gone_behind ps at)
gone_ascends ps at chain h =
    ascends-filter (λ (n : ℕ). not (has (numbers_at (layouts_from [] ps) (suc at)) n)) (numbers_at (layouts_from [] ps) at) 0 (numbers_ascend ps at chain (omega arith))

pub added_ascends : (ps : List (ℕ × Piece)) (at : ℕ) → IsChain ps → suc at < length ps → IsAscending (added_behind ps at)
added_ascends ps at chain h =
    ascends-filter (λ (n : ℕ). not (has (numbers_at (layouts_from [] ps) at) n)) (numbers_at (layouts_from [] ps) (suc at)) 0 (numbers_ascend ps (suc at) chain h)

-- one more change
pub net_step : (ps : List (ℕ × Piece)) (first at : ℕ) (gone added gone' added' : List ℕ) → IsChain ps → first ≤ at → suc at < length ps
    → IsAscending added
    → changed (numbers_at (layouts_from [] ps) first) gone added ≡ numbers_at (layouts_from [] ps) at
    → gone' ≡ joined gone (gone_behind ps at) → added' ≡ joined (without (gone_behind ps at) added) (added_behind ps at)
    → changed (numbers_at (layouts_from [] ps) first) gone' added' ≡ numbers_at (layouts_from [] ps) (at + 1)
net_step ps first at gone added gone' added' chain low bound up before p q =
    let base : List ℕ = numbers_at (layouts_from [] ps) first in
    ap (λ (l : List ℕ). changed base l added') p
    ∙ ap (λ (l : List ℕ). changed base (joined gone (gone_behind ps at)) l) q
    ∙ sym (changed_twice base gone added (gone_behind ps at) (added_behind ps at) (numbers_ascend ps first chain (omega arith)) up (added_ascends ps at chain bound))
    ∙ ap (λ (l : List ℕ). changed l (gone_behind ps at) (added_behind ps at)) before
    ∙ changed_back (numbers_at (layouts_from [] ps) at) (numbers_at (layouts_from [] ps) (suc at)) (numbers_ascend ps at chain (omega arith)) (numbers_ascend ps (suc at) chain bound)
    ∙ ap (numbers_at (layouts_from [] ps)) (sym (add-one at))

-- the changes so far and one more are one change of the full list
pub one_more : (base before gone added less more gone' added' : List ℕ) → IsAscending base → IsAscending added → IsAscending more
    → changed base gone added ≡ before
    → gone' ≡ joined gone less → added' ≡ joined (without less added) more
    → changed base gone' added' ≡ changed before less more
one_more base before gone added less more gone' added' high up ascends e p q =
    ap (λ (l : List ℕ). changed base l added') p
    ∙ ap (λ (l : List ℕ). changed base (joined gone less) l) q
    ∙ sym (changed_twice base gone added less more high up ascends)
    ∙ ap (λ (l : List ℕ). changed l less more) e

-- no change
without_none : (ns : List ℕ) → without [] ns ≡ ns
without_none [] = refl
without_none (n ∷ ns) = ap (λ (l : List ℕ). n ∷ l) (without_none ns)

pub unchanged : (ns gone added : List ℕ) → gone ≡ [] → added ≡ [] → changed ns gone added ≡ ns
unchanged ns gone added p q =
    ap (λ (l : List ℕ). changed ns l added) p ∙ ap (λ (l : List ℕ). changed ns [] l) q ∙ without_none ns

pub ascends_both : (gone less after : List ℕ) → IsAscending gone → IsAscending less → after ≡ joined gone less → IsAscending after
ascends_both gone less after up right e = subst IsAscending (sym e) (ascends-joined less gone 0 up right)

pub ascends_more : (added less more after : List ℕ) → IsAscending added → IsAscending more → after ≡ joined (without less added) more → IsAscending after
ascends_more added less more after up right e =
    subst IsAscending (sym e) (ascends-joined more (without less added) 0 (ascends-filter (λ (n : ℕ). not (has less n)) added 0 up) right)

pub full_part : (p : Piece) (ns ms : List ℕ) → p ≡ Full ns → p ≡ Full ms → ns ≡ ms
full_part p ns ms e f = cc
