-- By which event a statement begins.
use Rattle.std.specs.Prelude.{Bool, if◌then◌else◌, ℕ, ◌==◌}
use Rattle.tt_plain.specs.asked.Request.{Begins, Commits, Defines, Reads, Request, RollsBack, Tells, Unreadable, Waits, Writes}

pub data Event : Type 0 where
  Start : Event
  Define : Event
  Report : Event
  Begin : Event
  Commit : Event
  Rollback : Event
  Wait : Event

-- Where a transaction is open a definition begins by a commit; then its own event comes. A text that is no statement begins
-- by a start and commits nothing.
abbrev pub first_event : (transaction : Bool) → Request → Event
first_event transaction (Unreadable place) = Start
first_event transaction (Reads q) = Start
first_event transaction (Writes d) = Start
first_event transaction (Defines d) = if transaction then Commit else Define
first_event transaction (Tells t) = Report
first_event transaction Begins = Begin
first_event transaction Commits = Commit
first_event transaction RollsBack = Rollback
first_event transaction (Waits w) = Wait

abbrev pub event_number : Event → ℕ
event_number Start = 0
event_number Define = 1
event_number Report = 2
event_number Begin = 3
event_number Commit = 4
event_number Rollback = 5
event_number Wait = 6

abbrev pub is_same_event : Event → Event → Bool
is_same_event a b = event_number a == event_number b
