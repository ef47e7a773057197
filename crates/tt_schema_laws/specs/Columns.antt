-- How many columns a table has.
use Rattle.std.specs.Prelude.{List, Some, length, ◌≡◌, ◌≤◌}
use Rattle.tt_history.specs.declared.history.Entry.{Entry}
use Rattle.tt_plain.specs.asked.Carried.{Carried}
use Rattle.tt_plain.specs.declared.store.PlainTable.{PlainTable}
use Rattle.tt_plain.specs.history.Replay.{Run, replay_of}
use Rattle.tt_plain.specs.law.Lists.{Every}
use Rattle.tt_plain.specs.law.Sound.{IsInTime}
use Rattle.tt_script.specs.declared.script.Script.{Script}

abbrev pub HasColumns : PlainTable → Type 0
HasColumns table = (1 ≤ length table.schema.columns) × (length table.schema.columns ≤ 32)

-- the law: each table of a legal history has 1 to 32 columns
abbrev pub LegalHasColumns : Type 0
LegalHasColumns = (carried : Carried) (program : Script) (history : List Entry) (run : Run) → IsInTime program history →
    replay_of carried program history ≡ Some run → Every HasColumns run.0.tables
