-- A walk over the pieces of a chain, with a part in view.
use Rattle.std.proofs.Common.{◌≡◌, ℕ, zero, suc, ◌+◌, ◌%◌, ◌<◌, Bool, true, false, not, ◌&&◌, ◌||◌, List, length, get_or, refl, ap, sym, subst, ◌∙◌, inl, inr, arith, add-one}
use Rattle.std.proofs.lemmas.List.{get_or_default}
use Rattle.std.proofs.lemmas.Bool.{cases_eq}
use Rattle.tt_layout.specs.declared.piece.Piece.{Piece}
use Rattle.tt_layout.specs.Numbers.{IsAscending, has, without, changed}
use Rattle.tt_layout.specs.Chain.{FollowFrom, piece_at, pieces_of, numbers_of, numbers_at}
use Rattle.tt_layout.proofs.Members.{has-changed}
use Rattle.tt_layout.proofs.Ascending.{ascends-filter}
use Rattle.tt_layout.proofs.Changes.{changed_back}
use Rattle.tt_layout.proofs.ChainLaws.{full_piece_at, change_piece_at, ascends_at}
use Rattle.tt_sweep.specs.Claims.{numbers_before}
use Rattle.tt_sweep.proofs.Claiming.{piece_of}
use Rattle.tt_owner.specs.Holders.{PieceAscends}
use Rattle.tt_owner.proofs.Lists.{rises}

pub piece_there : (ls : List (ℕ × List ℕ)) (ps : List (ℕ × Piece)) (place : ℕ) (d : ℕ × Piece) → ps ≡ pieces_of ls → place < length ls → place < length ps
    → (get_or ps place d).1 ≡ piece_at place (numbers_before ls place) (numbers_at ls place)
piece_there ls ps place d e h k = piece_of ls ps place (get_or ps place d) e h (get_or_default ps place d (get_or ps place d) k)

before_ascends : (ls : List (ℕ × List ℕ)) (place : ℕ) → FollowFrom 0 ls → place < length ls → IsAscending (numbers_before ls place)
before_ascends ls zero order h = tt
before_ascends ls (suc place) order h = ascends_at 0 ls place order (omega arith)

pub piece_ascends : (ls : List (ℕ × List ℕ)) (place : ℕ) (p : Piece) → FollowFrom 0 ls → place < length ls
    → p ≡ piece_at place (numbers_before ls place) (numbers_at ls place) → PieceAscends p
piece_ascends ls place p order h is =
    let before : List ℕ = numbers_before ls place in
    let now : List ℕ = numbers_at ls place in
    elim (cases_eq (place % 64) 0) [
      | inl full ↦ subst PieceAscends (sym (is ∙ full_piece_at place before now full)) (rises now 0 (ascends_at 0 ls place order h))
      | inr change ↦ subst PieceAscends (sym (is ∙ change_piece_at place before now change)) (
        rises (without now before) 0 (ascends-filter (λ n. not (has now n)) before 0 (before_ascends ls place order h)),
        rises (without before now) 0 (ascends-filter (λ n. not (has before n)) now 0 (ascends_at 0 ls place order h)),
      )
    ]

numbers_here : (ls : List (ℕ × List ℕ)) (place : ℕ) (p : Piece) → FollowFrom 0 ls → place < length ls
    → p ≡ piece_at place (numbers_before ls place) (numbers_at ls place) → numbers_of (numbers_before ls place) p ≡ numbers_at ls place
numbers_here ls place p order h is =
    let before : List ℕ = numbers_before ls place in
    let now : List ℕ = numbers_at ls place in
    elim (cases_eq (place % 64) 0) [
      | inl full ↦ ap (numbers_of before) (is ∙ full_piece_at place before now full)
      | inr change ↦ ap (numbers_of before) (is ∙ change_piece_at place before now change)
          ∙ changed_back before now (before_ascends ls place order h) (ascends_at 0 ls place order h)
    ]

-- whether the part is in the layout at a place
pub inside_here : (ls : List (ℕ × List ℕ)) (place part : ℕ) (p : Piece) (before now : Bool) → FollowFrom 0 ls → place < length ls
    → p ≡ piece_at place (numbers_before ls place) (numbers_at ls place) → before ≡ has (numbers_before ls place) part
    → ((ns : List ℕ) → before ≡ has ns part → now ≡ has (numbers_of ns p) part) → now ≡ has (numbers_at ls place) part
inside_here ls place part p before now order h is e f =
    f (numbers_before ls place) e ∙ ap (λ (ns : List ℕ). has ns part) (numbers_here ls place p order h is)

pub next_place : (ls : List (ℕ × List ℕ)) (place part : ℕ) → has (numbers_at ls place) part ≡ has (numbers_before ls (place + 1)) part
next_place ls place part = ap (λ (k : ℕ). has (numbers_before ls k) part) (sym (add-one place))

-- ---- a change of a layout

pub was_added : (before gone added : List ℕ) (part : ℕ) → has added part ≡ true → true ≡ has (changed before gone added) part
was_added before gone added part h =
    sym (has-changed before gone added part ∙ ap (λ (b : Bool). (has before part && not (has gone part)) || b) h ∙ any (has before part && not (has gone part)))
  where
    any : (a : Bool) → (a || true) ≡ true
    any true = refl
    any false = refl

pub is_gone : (before gone added : List ℕ) (part : ℕ) → has added part ≡ false → has gone part ≡ true → false ≡ has (changed before gone added) part
is_gone before gone added part h k =
    sym (has-changed before gone added part ∙ ap (λ (b : Bool). (has before part && not (has gone part)) || b) h
    ∙ ap (λ (b : Bool). (has before part && not b) || false) k ∙ none (has before part))
  where
    none : (a : Bool) → ((a && false) || false) ≡ false
    none true = refl
    none false = refl

pub has_stayed : (before gone added : List ℕ) (part : ℕ) (inside : Bool) → inside ≡ has before part → has added part ≡ false → has gone part ≡ false
    → inside ≡ has (changed before gone added) part
has_stayed before gone added part inside e h k =
    e ∙ sym (has-changed before gone added part ∙ ap (λ (b : Bool). (has before part && not (has gone part)) || b) h
    ∙ ap (λ (b : Bool). (has before part && not b) || false) k ∙ same (has before part))
  where
    same : (a : Bool) → ((a && true) || false) ≡ a
    same true = refl
    same false = refl
