-- What clauses read of a lock, a pass and a held book.
use Rattle.std.specs.Prelude.{◌≡◌, ℕ, ◌+◌, ◌<◌, List, [], ◌∷◌, ◌++◌, true, Some, None, ◌≤◌, Contains}
use Rattle.std.specs.Borrow.{Lends, MutBor, Fml}
use mir.Syntax.{named}
use denote.RattleType.{RattleType}
use Rattle.tt_seatlock.specs.declared.book.Book.{Ghosts}
use Rattle.tt_seatlock.specs.declared.view.View.{View}
use Rattle.tt_seatlock.specs.declared.pass.Pass.{Pass}
use Rattle.tt_seatlock.specs.declared.lock.SeatLock.{SeatLock}
use Rattle.tt_seatlock.specs.declared.held.Held.{Held}
use Rattle.tt_seatlock.specs.contracts.held.Held.{the_row}
use Rattle.tt_seatlock.specs.History.{made_by, AddsOnly, longer}
use Rattle.tt_seatlock.specs.Rule.{IsKept}

-- What a pass tells: its number, the longest history that it has seen, its own entries in it, how many numbers were made and which are kept.
-- Of the last two only number 0 knows.
pub record Known (E : Type 0) : Type 0 where
  pub number : ℕ
  pub seen : List E
  pub own : List E
  pub made : ℕ
  pub kept : List (ℕ × List E)

module _ {E : Type 0} where
  -- the first pass of a lock
  abbrev pub nothing_seen : Known E
  nothing_seen = record { number = 0; seen = []; own = []; made = 1; kept = [] }

  -- number 0 after one more number was made, and the pass of that number
  abbrev pub with_one_more : Known E → Known E
  with_one_more k = record k { made = k.made + 1 }

  abbrev pub next_of : Known E → Known E
  next_of k = record { number = k.made; seen = k.seen; own = []; made = 0; kept = [] }

  -- the pass after it left the book with this history
  abbrev pub having_seen : (E → ℕ) → Known E → List E → Known E
  having_seen number k log = record k { seen = log; own = made_by number k.number log }

  -- number 0 after another pass was joined into it
  abbrev pub with_joined : Known E → Known E → Known E
  with_joined k l = record k { seen = longer k.seen l.seen; kept = k.kept ++ (l.number, l.own) ∷ [] }

  -- the same pass, with as many numbers made and the same ones kept
  abbrev pub IsSamePass : Known E → Known E → Type 0
  IsSamePass old new = (new.number ≡ old.number) × (new.made ≡ old.made) × (new.kept ≡ old.kept)

  -- each number from 1 to below n is kept
  abbrev pub KeepsBelow : Known E → ℕ → Type 0
  KeepsBelow k n = (j : ℕ) → 0 < j → j < n → IsKept k.kept j

  -- each number that was made is kept, but for number 0
  abbrev pub KeepsAll : Known E → Type 0
  KeepsAll k = KeepsBelow k k.made

  -- the pass's own entries are those of its number in this history
  abbrev pub HasOwn : (E → ℕ) → Known E → List E → Type 0
  HasOwn number k log = made_by number k.number log ≡ k.own

  -- the entries that are kept of a number are those of it in this history
  abbrev pub HasKept : (E → ℕ) → Known E → List E → Type 0
  HasKept number k log = (n : ℕ) (entries : List E) → Contains k.kept (n, entries) → made_by number n log ≡ entries

  -- of a number that was not made there is no entry
  abbrev pub HasNoOther : (E → ℕ) → Known E → List E → Type 0
  HasNoOther number k log = (n : ℕ) → k.made ≤ n → made_by number n log ≡ []

abbrev pub known_of : {E G : Type 0} → View E G → Known E
known_of v = record { number = v.number; seen = v.seen; own = v.mine; made = v.made; kept = v.kept }

module _ {B E G : Type 0} where
  -- the book that the lock was made with
  abbrev pub first_book : SeatLock B E G → B
  first_book l = l.table.shared.key.value

  -- how many numbers it may have
  abbrev pub most_passes : SeatLock B E G → ℕ
  most_passes l = l.passes

  abbrev pub book_of : Held B E G → B
  book_of h = h.book

  -- the history of the book as it was entered
  abbrev pub base_of : Held B E G → List E
  base_of h = h.seat.me.0.base

  -- what the pass that entered tells
  abbrev pub holder_of : Held B E G → Known E
  holder_of h = known_of h.seat.me.0

  abbrev pub lock_of : Held B E G → SeatLock B E G
  lock_of h = h.lock.now

  -- the book has the ground of the lock's first one
  abbrev pub HasSameGround : (B → G) → Held B E G → Type 0
  HasSameGround ground_of h = ground_of (book_of h) ≡ ground_of (first_book (lock_of h))

  -- the history has only grown, by entries of the pass's number
  abbrev pub AddsItsOwn : (E → ℕ) → (B → List E) → Held B E G → Type 0
  AddsItsOwn number entries h = AddsOnly number (holder_of h).number (base_of h) (entries (book_of h))

  -- what the pass tells that leaves the book now
  abbrev pub known_behind : (E → ℕ) → (B → List E) → Held B E G → Known E
  known_behind number entries h = having_seen number (holder_of h) (entries (book_of h))

  -- the pass is inside the lock, in its turn, and has the book
  pub record IsInside (ground_of : B → G) (h : Held B E G) : Type 0 where
    pub same_lock : h.seat.table_id ≡ h.lock.now.table.shared.table_id
    pub live : h.seat.me.0.live ≡ true
    pub turn : h.seat.me.0.turn ≡ true
    pub taken : h.seat.me.1 ≡ (0, None) ∷ []
    pub numbered : h.seat.me.0.number ≡ h.number
    pub place : h.seat.me.0.place ≡ Some (ground_of (first_book h.lock.now))

  -- with another book
  abbrev pub with_book : Held B E G → B → Held B E G
  with_book h w = record h { book = w }

-- the held book is what was last written through r
abbrev pub LendsBook : (B E G : RattleType) (b : Ghosts B.Denot E.Denot G.Denot) → MutBor (Held B.Denot E.Denot G.Denot) → MutBor B.Denot → Fml
LendsBook B E G b h r = Lends (the_row (record { mir = named 1; lft = [] }) B E G b) B h r (with_book h.now)

module _ {B E G : Type 0} {b : Ghosts B E G} where
  abbrev pub known : Pass B E G b → Known E
  known p = known_of p.seat.me.0

  -- it is a pass of this lock, and tells the ground of the lock's book
  abbrev pub IsPassOf : SeatLock B E G → Pass B E G b → Type 0
  IsPassOf l p = (p.seat.table_id ≡ l.table.shared.table_id) × (p.seat.me.0.place ≡ Some (b.ground_of (first_book l)))
