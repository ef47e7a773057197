-- How a table holds a part at a moment, which tables stand, and which parts are named.
use Rattle.std.specs.Prelude.{ℕ, Bool, true, false, ◌&&◌, ◌||◌, if◌then◌else◌, Option, Some, None, is_none, IsTrue}
use Rattle.std.specs.List.{list_any}
use Rattle.tt_retain.specs.declared.stage.Stage.{Stage}
use Rattle.tt_retain.specs.declared.stage.Stage.TheVariants as stage
use Rattle.tt_retain.specs.Horizon.{stage_of}
use Rattle.tt_layout.specs.declared.hold.Hold.{Hold}
use Rattle.tt_layout.specs.declared.hold.Hold.TheVariants as hold
use Rattle.tt_layout.specs.declared.facts.TableFacts.{TableFacts}
use Rattle.tt_layout.specs.declared.facts.Facts.{Facts}
use Rattle.tt_layout.specs.Numbers.{has}
use Rattle.tt_layout.specs.Chain.{current_of}
use Rattle.tt_layout.specs.Spans.{spans_of}

abbrev pub is_time_travel : Stage → Bool
is_time_travel stage.TimeTravel = true
is_time_travel _ = false

abbrev pub is_fail_safe : Stage → Bool
is_fail_safe stage.FailSafe = true
is_fail_safe _ = false

-- the part is in a layout whose span has ended and is at such a stage
abbrev pub is_past : (Stage → Bool) → ℕ → TableFacts → ℕ → Bool
is_past test at table part = list_any (λ span. has span.0 part && ended_so span.1) (spans_of table.layouts table.dropped)
  where
    ended_so : Option ℕ → Bool
    ended_so None = false
    ended_so (Some ended) = test (stage_of table.regimes ended at)

-- the part is in the current layout of a live table
abbrev pub is_active : TableFacts → ℕ → Bool
is_active table part = is_none table.dropped && has (current_of table.layouts) part

-- the strongest hold of a table on a part
abbrev pub hold_of : ℕ → TableFacts → ℕ → Hold
hold_of at table part =
    if is_active table part then hold.Active
    else if is_past is_time_travel at table part then hold.TimeTravel
    else if is_past is_fail_safe at table part then hold.FailSafe
    else hold.Nothing

-- a table stands where it is live, or dropped and in Time Travel
abbrev pub stands : ℕ → TableFacts → Bool
stands at table = elim table.dropped [ None ↦ true | Some dropped ↦ is_time_travel (stage_of table.regimes dropped at) ]

abbrev pub is_held : Hold → Bool
is_held hold.Nothing = false
is_held _ = true

-- a part is named where a table holds it or it is pinned
abbrev pub is_named : Facts → ℕ → Bool
is_named facts part = list_any (λ table. is_held (hold_of facts.at table part)) facts.tables || has facts.pins part

abbrev pub IsNamed : Facts → ℕ → Type 0
IsNamed facts part = IsTrue (is_named facts part)
