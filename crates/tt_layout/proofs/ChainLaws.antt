-- Chains and the layouts for which they stand: place by place, and as one is put behind the others or taken back.
use Rattle.std.proofs.Common.{◌≡◌, ℕ, zero, suc, ◌+◌, ◌%◌, ◌<◌, ◌≤◌, ◌==◌, Bool, List, [], ◌∷◌, ◌++◌, length, slice_index_or, refl, ap, sym, subst, ◌∙◌, inl, inr, arith}
use Rattle.std.proofs.lemmas.Bool.{cases_Bool, eq-eqb, ne_eqb}
use Rattle.tt_layout.specs.declared.piece.Piece.{Piece}
use Rattle.tt_layout.specs.declared.piece.Piece.TheVariants.{Full, Change}
use Rattle.tt_layout.specs.Numbers.{IsAscending, HasAll, HasNone, without, changed}
use Rattle.tt_layout.specs.Chain.{current_of, last_begun, FollowFrom, IsChain, piece_at, piece_given, pieces_from, numbers_of, layouts_from, numbers_at, begun_at}
use Rattle.tt_layout.proofs.Changes.{gone_again, added_again, changed_back}

-- ---- the last layout

-- the numbers of the last layout, and before the first one those that are given
abbrev pub tail_numbers : List ℕ → List (ℕ × List ℕ) → List ℕ
tail_numbers before [] = before
tail_numbers before (l ∷ ls) = tail_numbers l.1 ls

abbrev pub tail_begun : ℕ → List (ℕ × List ℕ) → ℕ
tail_begun before [] = before
tail_begun before (l ∷ ls) = tail_begun l.0 ls

current_behind : (l : ℕ × List ℕ) (ls : List (ℕ × List ℕ)) → current_of (l ∷ ls) ≡ tail_numbers l.1 ls
current_behind l [] = refl
current_behind l (m ∷ ms) = current_behind m ms

pub current_is : (ls : List (ℕ × List ℕ)) → current_of ls ≡ tail_numbers [] ls
current_is [] = refl
current_is (l ∷ ls) = current_behind l ls

begun_behind : (l : ℕ × List ℕ) (ls : List (ℕ × List ℕ)) → last_begun (l ∷ ls) ≡ tail_begun l.0 ls
begun_behind l [] = refl
begun_behind l (m ∷ ms) = begun_behind m ms

pub last_begun_is : (ls : List (ℕ × List ℕ)) → last_begun ls ≡ tail_begun 0 ls
last_begun_is [] = refl
last_begun_is (l ∷ ls) = begun_behind l ls

pub numbers_at_last : (ls : List (ℕ × List ℕ)) (place : ℕ) → place + 1 ≡ length ls → numbers_at ls place ≡ current_of ls
numbers_at_last [] place e = absurd (omega arith)
numbers_at_last (l ∷ []) zero e = refl
numbers_at_last (l ∷ []) (suc place) e = absurd (omega arith)
numbers_at_last (l ∷ m ∷ ms) zero e = absurd (omega arith)
numbers_at_last (l ∷ m ∷ ms) (suc place) e = numbers_at_last (m ∷ ms) place (omega arith)

-- ---- lengths

pub length-layouts : (before : List ℕ) (ps : List (ℕ × Piece)) → length (layouts_from before ps) ≡ length ps
length-layouts before [] = refl
length-layouts before (p ∷ ps) = ap suc (length-layouts (numbers_of before p.1) ps)

pub length-pieces : (place : ℕ) (before : List ℕ) (ls : List (ℕ × List ℕ)) → length (pieces_from place before ls) ≡ length ls
length-pieces place before [] = refl
length-pieces place before (l ∷ ls) = ap suc (length-pieces (place + 1) l.1 ls)

-- ---- place by place

-- the numbers of the layout in front of a place
abbrev pub before_at : List ℕ → List (ℕ × List ℕ) → ℕ → List ℕ
before_at before ls zero = before
before_at before [] (suc place) = before
before_at before (l ∷ ls) (suc place) = before_at l.1 ls place

pub before_is : (before : List ℕ) (ls : List (ℕ × List ℕ)) (place : ℕ) → place < length ls → before_at before ls (suc place) ≡ numbers_at ls place
before_is before [] place h = absurd (omega arith)
before_is before (l ∷ ls) zero h = refl
before_is before (l ∷ ls) (suc place) h = before_is l.1 ls place (omega arith)

pub piece_here : (from_ : ℕ) (before : List ℕ) (ls : List (ℕ × List ℕ)) (place : ℕ) (d : ℕ × Piece) → place < length ls
    → (slice_index_or (pieces_from from_ before ls) place d).1 ≡ piece_at (from_ + place) (before_at before ls place) (numbers_at ls place)
piece_here from_ before [] place d h = absurd (omega arith)
piece_here from_ before (l ∷ ls) zero d h = ap (λ (k : ℕ). piece_at k before l.1) (omega arith)
piece_here from_ before (l ∷ ls) (suc place) d h =
    piece_here (from_ + 1) l.1 ls place d (omega arith)
    ∙ ap (λ (k : ℕ). piece_at k (before_at l.1 ls place) (numbers_at ls place)) (omega arith)

pub begun_here : (from_ : ℕ) (before : List ℕ) (ls : List (ℕ × List ℕ)) (place : ℕ) (d : ℕ × Piece) → place < length ls
    → (slice_index_or (pieces_from from_ before ls) place d).0 ≡ begun_at ls place
begun_here from_ before [] place d h = absurd (omega arith)
begun_here from_ before (l ∷ ls) zero d h = refl
begun_here from_ before (l ∷ ls) (suc place) d h = begun_here (from_ + 1) l.1 ls place d (omega arith)

pub full_piece_at : (place : ℕ) (before ns : List ℕ) → place % 64 ≡ 0 → piece_at place before ns ≡ Full ns
full_piece_at place before ns h = rw (eq-eqb (place % 64) 0 h) refl

pub change_piece_at : (place : ℕ) (before ns : List ℕ) → (place % 64 ≡ 0 → ⊥) → piece_at place before ns ≡ Change (without ns before) (without before ns)
change_piece_at place before ns h = rw (ne_eqb (place % 64) 0 h) refl

pub ascends_at : (begun : ℕ) (ls : List (ℕ × List ℕ)) (place : ℕ) → FollowFrom begun ls → place < length ls → IsAscending (numbers_at ls place)
ascends_at begun [] place order h = absurd (omega arith)
ascends_at begun (l ∷ ls) zero order h = order.1
ascends_at begun (l ∷ ls) (suc place) order h = ascends_at l.0 ls place order.2 (omega arith)

-- the piece at a place of a chain
pub chain_piece : (ps : List (ℕ × Piece)) (place : ℕ) (d : ℕ × Piece) → IsChain ps → place < length ps
    → (slice_index_or ps place d).1 ≡ piece_at place (before_at [] (layouts_from [] ps) place) (numbers_at (layouts_from [] ps) place)
chain_piece ps place d chain h =
    let ls : List (ℕ × List ℕ) = layouts_from [] ps in
    ap (λ (qs : List (ℕ × Piece)). (slice_index_or qs place d).1) (sym chain.whole)
    ∙ piece_here 0 [] ls place d (omega (arith, length-layouts [] ps))
    ∙ ap (λ (k : ℕ). piece_at k (before_at [] ls place) (numbers_at ls place)) (omega arith)

pub chain_full : (ps : List (ℕ × Piece)) (place : ℕ) (d : ℕ × Piece) → IsChain ps → place < length ps → place % 64 ≡ 0
    → (slice_index_or ps place d).1 ≡ Full (numbers_at (layouts_from [] ps) place)
chain_full ps place d chain h full =
    chain_piece ps place d chain h ∙ full_piece_at place (before_at [] (layouts_from [] ps) place) (numbers_at (layouts_from [] ps) place) full

pub chain_change : (ps : List (ℕ × Piece)) (place : ℕ) (d : ℕ × Piece) → IsChain ps → suc place < length ps → (suc place % 64 ≡ 0 → ⊥)
    → (slice_index_or ps (suc place) d).1
    ≡ Change (without (numbers_at (layouts_from [] ps) (suc place)) (numbers_at (layouts_from [] ps) place))
    (without (numbers_at (layouts_from [] ps) place) (numbers_at (layouts_from [] ps) (suc place)))
chain_change ps place d chain h change =
    let ls : List (ℕ × List ℕ) = layouts_from [] ps in
    chain_piece ps (suc place) d chain h
    ∙ ap (λ (ns : List ℕ). piece_at (suc place) ns (numbers_at ls (suc place))) (before_is [] ls place (omega (arith, length-layouts [] ps)))
    ∙ change_piece_at (suc place) (numbers_at ls place) (numbers_at ls (suc place)) change

-- ---- one more

pub layouts-more : (before : List ℕ) (ps : List (ℕ × Piece)) (p : ℕ × Piece)
    → layouts_from before (ps ++ p ∷ []) ≡ layouts_from before ps ++ (p.0, numbers_of (tail_numbers before (layouts_from before ps)) p.1) ∷ []
layouts-more before [] p = refl
layouts-more before (q ∷ qs) p =
    ap (λ (ls : List (ℕ × List ℕ)). (q.0, numbers_of before q.1) ∷ ls) (layouts-more (numbers_of before q.1) qs p)

pub pieces-more : (place : ℕ) (before : List ℕ) (ls : List (ℕ × List ℕ)) (l : ℕ × List ℕ)
    → pieces_from place before (ls ++ l ∷ []) ≡ pieces_from place before ls ++ (l.0, piece_at (place + length ls) (tail_numbers before ls) l.1) ∷ []
pieces-more place before [] l =
    ap (λ (k : ℕ). (l.0, piece_at k before l.1) ∷ []) (omega arith)
pieces-more place before (m ∷ ms) l =
    ap (λ (ps : List (ℕ × Piece)). (m.0, piece_at place before m.1) ∷ ps)
    (pieces-more (place + 1) m.1 ms l
    ∙ ap (λ (k : ℕ). pieces_from (place + 1) m.1 ms ++ (l.0, piece_at k (tail_numbers m.1 ms) l.1) ∷ []) (omega arith))

pub follow-more : (begun : ℕ) (ls : List (ℕ × List ℕ)) (l : ℕ × List ℕ) → FollowFrom begun ls → tail_begun begun ls ≤ l.0 → IsAscending l.1
    → FollowFrom begun (ls ++ l ∷ [])
follow-more begun [] l order later up = (later, up, tt)
follow-more begun (m ∷ ms) l order later up = (order.0, order.1, follow-more m.0 ms l order.2 later up)

tail_ascends : (begun : ℕ) (before : List ℕ) (ls : List (ℕ × List ℕ)) → IsAscending before → FollowFrom begun ls → IsAscending (tail_numbers before ls)
tail_ascends begun before [] up order = up
tail_ascends begun before (l ∷ ls) up order = tail_ascends l.0 l.1 ls order.1 order.2

pub current_ascends : (ls : List (ℕ × List ℕ)) → FollowFrom 0 ls → IsAscending (current_of ls)
current_ascends ls order = subst IsAscending (sym (current_is ls)) (tail_ascends 0 [] ls tt order)

-- ---- what is given is what the layouts tell

pub given_is : (place : ℕ) (before gone added : List ℕ) → IsAscending before → IsAscending gone → IsAscending added
    → HasAll before gone → HasNone before added → piece_given place before gone added ≡ piece_at place before (changed before gone added)
given_is place before gone added up left right all none =
    ap (λ (ns : List ℕ). chosen (place % 64 == 0) (Change ns added)) (sym (gone_again before gone added up left right all none))
    ∙ ap (λ (ns : List ℕ). chosen (place % 64 == 0) (Change (without (changed before gone added) before) ns)) (sym (added_again before gone added up left right all none))
  where
    chosen : Bool → Piece → Piece
    chosen b p = Rattle.std.specs.Bool.if◌then◌else◌ b (Full (changed before gone added)) p

pub numbers_again : (place : ℕ) (before ns : List ℕ) → IsAscending before → IsAscending ns → numbers_of before (piece_at place before ns) ≡ ns
numbers_again place before ns up right =
    elim (cases_Bool (place % 64 == 0)) [
      | inl full ↦ rw full refl
      | inr change ↦ rw change (changed_back before ns up right)
    ]

-- ---- the moments

begun_least : (begun : ℕ) (ls : List (ℕ × List ℕ)) (k : ℕ) → FollowFrom begun ls → k < length ls → begun ≤ begun_at ls k
begun_least begun [] k order h = absurd (omega arith)
begun_least begun (l ∷ ls) zero order h = order.0
begun_least begun (l ∷ ls) (suc k) order h = omega (arith, begun_least l.0 ls k order.2 (omega arith), order.0)

pub begun_up : (begun : ℕ) (ls : List (ℕ × List ℕ)) (i j : ℕ) → FollowFrom begun ls → i ≤ j → j < length ls → begun_at ls i ≤ begun_at ls j
begun_up begun [] i j order h k = absurd (omega arith)
begun_up begun (l ∷ ls) zero zero order h k = omega arith
begun_up begun (l ∷ ls) zero (suc j) order h k = begun_least l.0 ls j order.2 (omega arith)
begun_up begun (l ∷ ls) (suc i) zero order h k = absurd (omega arith)
begun_up begun (l ∷ ls) (suc i) (suc j) order h k = begun_up l.0 ls i j order.2 (omega arith) (omega arith)

pub chain_begun : (ps : List (ℕ × Piece)) (place : ℕ) (d : ℕ × Piece) → IsChain ps → place < length ps
    → (slice_index_or ps place d).0 ≡ begun_at (layouts_from [] ps) place
chain_begun ps place d chain h =
    ap (λ (qs : List (ℕ × Piece)). (slice_index_or qs place d).0) (sym chain.whole)
    ∙ begun_here 0 [] (layouts_from [] ps) place d (omega (arith, length-layouts [] ps))

pub chain_up : (ps : List (ℕ × Piece)) → IsChain ps → (i j : ℕ) (d : ℕ × Piece) → i ≤ j → j < length ps
    → (slice_index_or ps i d).0 ≤ (slice_index_or ps j d).0
chain_up ps chain i j d h k =
    omega (arith, chain_begun ps i d chain (omega arith), chain_begun ps j d chain k, begun_up 0 (layouts_from [] ps) i j chain.order.1 h (omega (arith, length-layouts [] ps)))

-- ---- the piece that is given

pub given_full : (place : ℕ) (before gone added : List ℕ) → place % 64 ≡ 0 → piece_given place before gone added ≡ Full (changed before gone added)
given_full place before gone added h = rw (eq-eqb (place % 64) 0 h) refl

pub given_change : (place : ℕ) (before gone added : List ℕ) → (place % 64 ≡ 0 → ⊥) → piece_given place before gone added ≡ Change gone added
given_change place before gone added h = rw (ne_eqb (place % 64) 0 h) refl
