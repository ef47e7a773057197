-- What a transaction removes stays there for it, whatever others do in between. The law is to be proved.
use Rattle.std.specs.Prelude.{List, Some, [], option_to_list, true, ℕ, ◌≡◌, ◌≢◌}
use Rattle.tt_history.specs.declared.history.Entry.{Entry}
use Rattle.tt_plain.specs.asked.Carried.{Carried}
use Rattle.tt_plain.specs.declared.store.Plain.{Plain}
use Rattle.tt_plain.specs.declared.store.PlainOpen.{PlainOpen}
use Rattle.tt_plain.specs.declared.store.PlainPending.{PlainPending}
use Rattle.tt_plain.specs.declared.store.PlainSession.{PlainSession}
use Rattle.tt_plain.specs.declared.store.PlainTable.{PlainTable}
use Rattle.tt_plain.specs.history.Replay.{Run, replay_of}
use Rattle.tt_plain.specs.law.Lists.{Every}
use Rattle.tt_plain.specs.law.Sound.{IsInTime}
use Rattle.tt_plain.specs.opening.Seen.{visible_rows}
use Rattle.tt_plain.specs.stored.Sessions.{has_exclusive_mark, has_mark}
use Rattle.tt_plain.specs.stored.Tables.{current_rows, table_numbered}
use Rattle.tt_script.specs.declared.script.Script.{Script}
use Rattle.tt_value.specs.declared.value.Row.{Row}
use Rattle.tt_value.specs.values.Bags.{bag_minus, bag_plus}

-- each row is among others, with its copies
abbrev pub AreAmong : List Row → List Row → Type 0
AreAmong rows others = bag_minus rows others ≡ []

-- The table of what is pending is marked, exclusively where anything is gone; and what is gone is among the current rows and those
-- that were added.
pub record IsIsolatedPending (store : Plain) (state : PlainSession) (pending : PlainPending) : Type 0 where
  pub marked : has_mark pending.table state ≡ true
  pub exclusive : pending.gone ≢ [] → has_exclusive_mark pending.table state ≡ true
  pub among : (table : PlainTable) → table_numbered store pending.table ≡ Some table → AreAmong pending.gone (bag_plus (current_rows table) pending.added)

-- the rows that an open change sees of its target are visible to it still
pub record IsIsolatedTarget (store : Plain) (state : PlainSession) (target : ℕ × List Row) : Type 0 where
  pub marked : has_mark target.0 state ≡ true
  pub exclusive : target.1 ≢ [] → has_exclusive_mark target.0 state ≡ true
  pub among : (table : PlainTable) → table_numbered store target.0 ≡ Some table → AreAmong target.1 (visible_rows state table)

pub record IsIsolated (store : Plain) (state : PlainSession) : Type 0 where
  pub pending : Every (IsIsolatedPending store state) state.pending
  pub target : (seen : PlainOpen) → state.running ≡ Some seen → Every (IsIsolatedTarget store state) (option_to_list seen.target)

abbrev pub LegalIsIsolated : Type 0
LegalIsIsolated = (carried : Carried) (program : Script) (history : List Entry) (run : Run) → IsInTime program history →
    replay_of carried program history ≡ Some run → Every (IsIsolated run.0) run.0.sessions
