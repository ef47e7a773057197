-- The layouts of a table, each with the moment at which it begins, and the chain of pieces that stands for them.
use Rattle.std.specs.Prelude.{◌≡◌, ℕ, zero, suc, ◌+◌, ◌%◌, ◌≤◌, ◌==◌, Bool, true, false, nat_le, if◌then◌else◌, List, [], ◌∷◌, ◌++◌, filter, Option, Some, None, unwrap_or, ⊤}
use Rattle.std.specs.Option.{option_map}
use Rattle.tt_layout.specs.declared.piece.Piece.{Piece}
use Rattle.tt_layout.specs.declared.piece.Piece.TheVariants.{Full, Change}
use Rattle.tt_layout.specs.Numbers.{IsAscending, without, changed}

-- the last item
abbrev pub last_of : {X : Type 0} → List X → Option X
last_of [] = None
last_of (x ∷ []) = Some x
last_of (_ ∷ y ∷ ys) = last_of (y ∷ ys)

-- all items but the last one
abbrev pub without_last : {X : Type 0} → List X → List X
without_last [] = []
without_last (x ∷ []) = []
without_last (x ∷ y ∷ ys) = x ∷ without_last (y ∷ ys)

-- the numbers of the last layout
abbrev pub current_of : List (ℕ × List ℕ) → List ℕ
current_of layouts = unwrap_or (option_map (λ l. l.1) (last_of layouts)) []

-- the moment at which the last layout begins
abbrev pub last_begun : List (ℕ × List ℕ) → ℕ
last_begun layouts = unwrap_or (option_map (λ l. l.0) (last_of layouts)) 0

-- the numbers of the last layout that began by a moment
abbrev pub layout_at : List (ℕ × List ℕ) → ℕ → Option (List ℕ)
layout_at layouts moment = option_map (λ l. l.1) (last_of (filter (λ l. nat_le l.0 moment) layouts))

-- one more layout behind the others: the last one without what is gone and with what was added
abbrev pub with_change : List (ℕ × List ℕ) → ℕ → List ℕ → List ℕ → List (ℕ × List ℕ)
with_change layouts begun gone added =
    layouts ++ (begun, changed (current_of layouts) gone added) ∷ []

-- the numbers of each layout ascend, and none begins before the one in front of it
abbrev pub FollowFrom : ℕ → List (ℕ × List ℕ) → Type 0
FollowFrom begun [] = ⊤
FollowFrom begun (l ∷ ls) = (begun ≤ l.0) × IsAscending l.1 × FollowFrom l.0 ls

-- what is so of every table's layouts: there is one, and they are in order
abbrev pub AreLayouts : List (ℕ × List ℕ) → Type 0
AreLayouts layouts = (layouts ≡ [] → ⊥) × FollowFrom 0 layouts

-- the piece at a place, counted from 0: at each 64th the full list, and else what changed since the layout before
abbrev pub piece_at : ℕ → List ℕ → List ℕ → Piece
piece_at place before ns =
    if place % 64 == 0 then Full ns else Change (without ns before) (without before ns)

abbrev pub pieces_from : ℕ → List ℕ → List (ℕ × List ℕ) → List (ℕ × Piece)
pieces_from place before [] = []
pieces_from place before (l ∷ ls) = (l.0, piece_at place before l.1) ∷ pieces_from (place + 1) l.1 ls

-- the chain of some layouts
abbrev pub pieces_of : List (ℕ × List ℕ) → List (ℕ × Piece)
pieces_of layouts = pieces_from 0 [] layouts

-- the piece of one more layout at a place: at each 64th its numbers, and else what is given
abbrev pub piece_given : ℕ → List ℕ → List ℕ → List ℕ → Piece
piece_given place before gone added =
    if place % 64 == 0 then Full (changed before gone added) else Change gone added

abbrev pub is_full : Piece → Bool
is_full (Full ns) = true
is_full (Change gone added) = false

-- the numbers for which a piece stands, behind the layout before it
abbrev pub numbers_of : List ℕ → Piece → List ℕ
numbers_of before (Full ns) = ns
numbers_of before (Change gone added) = changed before gone added

-- the layouts for which a chain stands
abbrev pub layouts_from : List ℕ → List (ℕ × Piece) → List (ℕ × List ℕ)
layouts_from before [] = []
layouts_from before (p ∷ ps) = (p.0, numbers_of before p.1) ∷ layouts_from (numbers_of before p.1) ps

-- a chain is the one of the layouts for which it stands, and these are in order
pub record IsChain (pieces : List (ℕ × Piece)) : Type 0 where
  pub order : AreLayouts (layouts_from [] pieces)
  pub whole : pieces_of (layouts_from [] pieces) ≡ pieces

-- the numbers of the layout at a place, counted from 0
abbrev pub numbers_at : List (ℕ × List ℕ) → ℕ → List ℕ
numbers_at [] place = []
numbers_at (l ∷ ls) zero = l.1
numbers_at (l ∷ ls) (suc place) = numbers_at ls place

-- the moment at which it begins
abbrev pub begun_at : List (ℕ × List ℕ) → ℕ → ℕ
begun_at [] place = 0
begun_at (l ∷ ls) zero = l.0
begun_at (l ∷ ls) (suc place) = begun_at ls place
