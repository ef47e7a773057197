-- The rule of the lock, and what its steps tell.
use Rattle.std.specs.Prelude.{◌≡◌, ◌≢◌, ◌⊎◌, ℕ, ◌+◌, ◌*◌, ◌<◌, ◌≤◌, Bool, true, false, List, [], ◌∷◌, length, slice_index, Contains, Option, Some, None}
use mathlib.Core.List.{IsPrefix}
use mathlib.Core.Option.{some}
use lib.ListN.{get_elem?}
use Rattle.atomic_table.specs.Table.{State, Me, Step, rest}
use Rattle.tt_seatlock.specs.declared.view.View.{View}
use Rattle.tt_seatlock.specs.History.{made_by}
use Rattle.tt_seatlock.specs.Views.{with_turn, after_turn}

-- What the seat j knows is so: of the history, the ground, how many numbers were made, those that are kept, and whose turn it is
pub record SeatOk {E G : Type 0} (number : E → ℕ) (log : List E) (place : G) (made : ℕ) (kept : List (ℕ × List E)) (held : Bool) (holder j : ℕ) (v : View E G) : Type 0 where
  pub below : v.number < made
  pub same_ground : v.place ≡ Some place
  pub seen_is : IsPrefix v.seen log
  pub shown_is : IsPrefix v.shown v.seen
  pub mine_is : made_by number v.number log ≡ v.mine
  pub not_kept : (m : List E) → Contains kept (v.number, m) → ⊥
  pub turn_is : v.turn ≡ true → (held ≡ true) × (j ≡ holder) × (v.base ≡ log)
  pub chief : v.number ≡ 0 → (v.made ≡ made) × (v.kept ≡ kept)

-- one of the seats in use has this number
abbrev pub HasSeat : {E G : Type 0} → List (View E G) → ℕ → Type 0
HasSeat {E} {G} views n = (j : ℕ) × (v : View E G) × (get_elem? views j ≡ some v) × (v.live ≡ true) × (v.number ≡ n)

-- the number is kept, with its entries
abbrev pub IsKept : {E : Type 0} → List (ℕ × List E) → ℕ → Type 0
IsKept {E} kept n = (m : List E) × Contains kept (n, m)

-- There is one history, `log`, of one ground. While the word is even the book is at home with that history, and the word is twice its length.
-- While it is odd one seat has the turn. Each number below `made` has a seat or is kept, and never both
pub record Ruled {B E G : Type 0} (entries : B → List E) (number : E → ℕ) (ground_of : B → G) (s : State (Option B) (View E G)) : Type 0 where
  pub log : List E
  pub place : G
  pub made : ℕ
  pub kept : List (ℕ × List E)
  pub held : Bool
  pub holder : ℕ
  pub one_word : length s.words ≡ 1
  pub one_slot : length s.homes ≡ 1
  pub even : held ≡ false → slice_index s.words 0 ≡ 2 * length log
  pub home : held ≡ false → (b : B) × (get_elem? s.homes 0 ≡ some (some (Some b))) × (entries b ≡ log) × (ground_of b ≡ place)
  pub odd : held ≡ true → slice_index s.words 0 ≡ 2 * length log + 1
  pub away : held ≡ true → (v : View E G) × (get_elem? s.views holder ≡ some v) × (v.live ≡ true) × (v.turn ≡ true)
  pub seats : (j : ℕ) (v : View E G) → get_elem? s.views j ≡ some v → v.live ≡ true → SeatOk number log place made kept held holder j v
  pub apart : (i j : ℕ) (v w : View E G) → get_elem? s.views i ≡ some v → get_elem? s.views j ≡ some w → v.live ≡ true → w.live ≡ true → v.number ≡ w.number → i ≡ j
  pub kept_are : (n : ℕ) (m : List E) → Contains kept (n, m) → (0 < n) × (n < made) × (made_by number n log ≡ m)
  pub unmade : (n : ℕ) → made ≤ n → made_by number n log ≡ []
  pub present : (n : ℕ) → n < made → HasSeat s.views n ⊎ IsKept kept n

-- the history of the book in a slot
abbrev pub log_in : {B E : Type 0} → (B → List E) → Option B → List E
log_in entries None = []
log_in entries (Some b) = entries b

-- the history of the book in the slot that was taken last
abbrev pub taken_log : {B E : Type 0} → (B → List E) → List (ℕ × Option B) → List E
taken_log entries [] = []
taken_log entries (x ∷ xs) = log_in entries x.1

module _ {B E G : Type 0} (entries : B → List E) (number : E → ℕ) where
  -- the seat has the turn and a book, which goes on from all that the seat has seen, and has just its entries of its number
  pub record Won (ground_of : B → G) (m n : Me (Option B) (View E G)) : Type 0 where
    pub book : B
    pub now : n ≡ (with_turn m.0 (entries book), (0, Some book) ∷ m.1)
    pub goes_on : IsPrefix m.0.seen (entries book)
    pub own : made_by number m.0.number (entries book) ≡ m.0.mine
    pub same_ground : m.0.place ≡ Some (ground_of book)

  -- a turn is won where the word was as expected, and else nothing changes
  abbrev pub won : (B → G) → Step (Option B) → Me (Option B) (View E G) → ℕ → Me (Option B) (View E G) → Type 0
  won ground_of st m r n = (r ≡ st.first → Won ground_of m n) × (r ≢ st.first → n ≡ m)

  -- the turn ended, with the history of the book that was put back
  abbrev pub released : Step (Option B) → Me (Option B) (View E G) → ℕ → Me (Option B) (View E G) → Type 0
  released st m r n = n ≡ (after_turn number m.0 (taken_log entries m.1), rest m.1)

-- nothing changes, and what was shown last begins what is seen
abbrev pub compared : {S E G : Type 0} → Step S → Me S (View E G) → ℕ → Me S (View E G) → Type 0
compared st m r n = (n ≡ m) × IsPrefix m.0.shown m.0.seen
