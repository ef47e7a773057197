-- A chain with one more piece, and with its last piece taken back.
use Rattle.std.proofs.Common.{◌≡◌, ℕ, ◌<◌, ◌≤◌, List, [], ◌∷◌, ◌++◌, length, refl, ap, sym, subst, ◌∙◌, arith, length-append, Option, Some, unwrap_or, option_map}
use Rattle.tt_layout.specs.declared.piece.Piece.{Piece}
use Rattle.tt_layout.specs.Numbers.{IsAscending, HasAll, HasNone, changed}
use Rattle.tt_layout.specs.Chain.{last_of, without_last, current_of, last_begun, with_change, FollowFrom, AreLayouts, IsChain, piece_at, piece_given, pieces_of, numbers_of, layouts_from}
use Rattle.tt_layout.proofs.Ascending.{ascends-changed}
use Rattle.tt_layout.proofs.ChainLaws.{tail_numbers, current_is, last_begun_is, current_ascends, length-layouts, layouts-more, pieces-more, follow-more, given_is, numbers_again}

none_behind : {X : Type 0} (xs : List X) (x : X) → [] ≡ xs ++ x ∷ [] → ⊥
none_behind [] x e = cc
none_behind (y ∷ ys) x e = cc

front_of : {X : Type 0} (xs ys : List X) (x y : X) → xs ++ x ∷ [] ≡ ys ++ y ∷ [] → xs ≡ ys
front_of [] [] x y e = refl
front_of [] (z ∷ zs) x y e = let tail : [] ≡ zs ++ y ∷ [] = cc in absurd (none_behind zs y tail)
front_of (z ∷ zs) [] x y e = let tail : [] ≡ zs ++ x ∷ [] = cc in absurd (none_behind zs x tail)
front_of (z ∷ zs) (w ∷ ws) x y e =
    let tail : zs ++ x ∷ [] ≡ ws ++ y ∷ [] = cc in
    let first : z ≡ w = cc in
    let rest : zs ≡ ws = front_of zs ws x y tail in
    cc

pub without_last-more : {X : Type 0} (xs : List X) (x : X) → without_last (xs ++ x ∷ []) ≡ xs
without_last-more [] x = refl
without_last-more (y ∷ []) x = refl
without_last-more (y ∷ z ∷ zs) x = ap (λ (ws : List _). y ∷ ws) (without_last-more (z ∷ zs) x)

follow-front : (begun : ℕ) (ls : List (ℕ × List ℕ)) (l : ℕ × List ℕ) → FollowFrom begun (ls ++ l ∷ []) → FollowFrom begun ls
follow-front begun [] l order = tt
follow-front begun (m ∷ ms) l order = (order.0, order.1, follow-front m.0 ms l order.2)

some_layout : (ls : List (ℕ × List ℕ)) → (ls ≡ [] → ⊥) → 0 < length ls
some_layout [] h = absurd (h refl)
some_layout (l ∷ ls) h = omega arith

not_none : (ls : List (ℕ × List ℕ)) → 0 < length ls → ls ≡ [] → ⊥
not_none [] h e = omega arith
not_none (l ∷ ls) h e = cc

pub chain_some : (ps : List (ℕ × Piece)) → IsChain ps → 0 < length ps
chain_some ps chain = omega (arith, length-layouts [] ps, some_layout (layouts_from [] ps) chain.order.0)

-- ---- taken back

front_pieces : (qs : List (ℕ × Piece)) (p : ℕ × Piece) → IsChain (qs ++ p ∷ []) → pieces_of (layouts_from [] qs) ≡ qs
front_pieces qs p chain =
    let ls : List (ℕ × List ℕ) = layouts_from [] qs in
    front_of (pieces_of ls) qs _ p
    (sym (pieces-more 0 [] ls (p.0, numbers_of (tail_numbers [] ls) p.1)) ∙ sym (ap pieces_of (layouts-more [] qs p)) ∙ chain.whole)

pub chain_front : (qs : List (ℕ × Piece)) (p : ℕ × Piece) → IsChain (qs ++ p ∷ []) → 0 < length qs → IsChain qs
chain_front qs p chain some = record {
  order = (
    not_none (layouts_from [] qs) (omega (arith, length-layouts [] qs)),
    follow-front 0 (layouts_from [] qs) _ (subst (FollowFrom 0) (layouts-more [] qs p) chain.order.1),
  );
  whole = front_pieces qs p chain;
}

pub layouts_front : (qs : List (ℕ × Piece)) (p : ℕ × Piece) → layouts_from [] qs ≡ without_last (layouts_from [] (qs ++ p ∷ []))
layouts_front qs p = sym (ap without_last (layouts-more [] qs p) ∙ without_last-more (layouts_from [] qs) _)

-- ---- one more

-- what is given for one more layout
pub record IsGiven (ls : List (ℕ × List ℕ)) (begun : ℕ) (gone added : List ℕ) (p : Piece) : Type 0 where
  pub later : last_begun ls ≤ begun
  pub gone_ascends : IsAscending gone
  pub added_ascends : IsAscending added
  pub gone_there : HasAll (current_of ls) gone
  pub added_new : HasNone (current_of ls) added
  pub piece : p ≡ piece_given (length ls) (current_of ls) gone added

given_at : (ps : List (ℕ × Piece)) (begun : ℕ) (gone added : List ℕ) (p : Piece) → IsChain ps → IsGiven (layouts_from [] ps) begun gone added p
    → p ≡ piece_at (length (layouts_from [] ps)) (current_of (layouts_from [] ps)) (changed (current_of (layouts_from [] ps)) gone added)
given_at ps begun gone added p chain given =
    let ls : List (ℕ × List ℕ) = layouts_from [] ps in
    given.piece
    ∙ given_is (length ls) (current_of ls) gone added (current_ascends ls chain.order.1) given.gone_ascends given.added_ascends given.gone_there given.added_new

pub layouts_behind : (ps : List (ℕ × Piece)) (begun : ℕ) (gone added : List ℕ) (p : Piece) → IsChain ps → IsGiven (layouts_from [] ps) begun gone added p
    → layouts_from [] (ps ++ (begun, p) ∷ []) ≡ with_change (layouts_from [] ps) begun gone added
layouts_behind ps begun gone added p chain given =
    let ls : List (ℕ × List ℕ) = layouts_from [] ps in
    let up : IsAscending (current_of ls) = current_ascends ls chain.order.1 in
    layouts-more [] ps (begun, p)
    ∙ ap (λ (ns : List ℕ). ls ++ (begun, numbers_of ns p) ∷ []) (sym (current_is ls))
    ∙ ap (λ (q : Piece). ls ++ (begun, numbers_of (current_of ls) q) ∷ []) (given_at ps begun gone added p chain given)
    ∙ ap (λ (ns : List ℕ). ls ++ (begun, ns) ∷ [])
    (numbers_again (length ls) (current_of ls) (changed (current_of ls) gone added) up (ascends-changed (current_of ls) gone added up given.added_ascends))

pieces_behind : (ps : List (ℕ × Piece)) (begun : ℕ) (gone added : List ℕ) (p : Piece) → IsChain ps → IsGiven (layouts_from [] ps) begun gone added p
    → pieces_of (layouts_from [] (ps ++ (begun, p) ∷ [])) ≡ pieces_of (layouts_from [] ps) ++ (begun, p) ∷ []
pieces_behind ps begun gone added p chain given =
    let ls : List (ℕ × List ℕ) = layouts_from [] ps in
    let ns : List ℕ = changed (current_of ls) gone added in
    ap pieces_of (layouts_behind ps begun gone added p chain given)
    ∙ pieces-more 0 [] ls (begun, ns)
    ∙ ap (λ (k : ℕ). pieces_of ls ++ (begun, piece_at k (tail_numbers [] ls) ns) ∷ []) (omega arith)
    ∙ ap (λ (b : List ℕ). pieces_of ls ++ (begun, piece_at (length ls) b ns) ∷ []) (sym (current_is ls))
    ∙ ap (λ (q : Piece). pieces_of ls ++ (begun, q) ∷ []) (sym (given_at ps begun gone added p chain given))

pub pieces_given : (ps : List (ℕ × Piece)) (begun : ℕ) (gone added : List ℕ) (p : Piece) → IsChain ps → IsGiven (layouts_from [] ps) begun gone added p
    → pieces_of (layouts_from [] (ps ++ (begun, p) ∷ []))
    ≡ pieces_of (layouts_from [] ps) ++ (begun, piece_given (length (layouts_from [] ps)) (current_of (layouts_from [] ps)) gone added) ∷ []
pieces_given ps begun gone added p chain given =
    pieces_behind ps begun gone added p chain given
    ∙ ap (λ (q : Piece). pieces_of (layouts_from [] ps) ++ (begun, q) ∷ []) given.piece

pub chain_behind : (ps : List (ℕ × Piece)) (begun : ℕ) (gone added : List ℕ) (p : Piece) → IsChain ps → IsGiven (layouts_from [] ps) begun gone added p
    → IsChain (ps ++ (begun, p) ∷ [])
chain_behind ps begun gone added p chain given =
    let ls : List (ℕ × List ℕ) = layouts_from [] ps in
    let ns : List ℕ = changed (current_of ls) gone added in
    let up : IsAscending (current_of ls) = current_ascends ls chain.order.1 in
    let order : FollowFrom 0 (ls ++ (begun, ns) ∷ []) =
    follow-more 0 ls (begun, ns) chain.order.1 (subst (λ (k : ℕ). k ≤ begun) (last_begun_is ls) given.later) (ascends-changed (current_of ls) gone added up given.added_ascends) in
    record {
      order = subst AreLayouts (sym (layouts_behind ps begun gone added p chain given))
          ((λ e. none_behind ls (begun, ns) (sym e)), order);
      whole = pieces_behind ps begun gone added p chain given
          ∙ ap (λ (qs : List (ℕ × Piece)). qs ++ (begun, p) ∷ []) chain.whole;
    }

pub some_left : (ps qs : List (ℕ × Piece)) (p : ℕ × Piece) → ps ≡ qs ++ p ∷ [] → 1 < length (layouts_from [] ps) → 0 < length qs
some_left ps qs p e h =
    let total : length ps ≡ length (qs ++ p ∷ []) = ap length e in
    omega (arith, length-layouts [] ps, total, length-append qs (p ∷ []))

-- ---- what callers read of the last layout

last_of-more : {X : Type 0} (xs : List X) (x : X) → last_of (xs ++ x ∷ []) ≡ Some x
last_of-more [] x = refl
last_of-more (y ∷ []) x = refl
last_of-more (y ∷ z ∷ zs) x = last_of-more (z ∷ zs) x

pub current-with_change : (ls : List (ℕ × List ℕ)) (begun : ℕ) (gone added : List ℕ)
    → current_of (with_change ls begun gone added) ≡ changed (current_of ls) gone added
current-with_change ls begun gone added =
    ap (λ (o : Option (ℕ × List ℕ)). unwrap_or (option_map (λ (l : ℕ × List ℕ). l.1) o) [])
    (last_of-more ls (begun, changed (current_of ls) gone added))

pub begun-with_change : (ls : List (ℕ × List ℕ)) (begun : ℕ) (gone added : List ℕ) → last_begun (with_change ls begun gone added) ≡ begun
begun-with_change ls begun gone added =
    ap (λ (o : Option (ℕ × List ℕ)). unwrap_or (option_map (λ (l : ℕ × List ℕ). l.0) o) 0)
    (last_of-more ls (begun, changed (current_of ls) gone added))
