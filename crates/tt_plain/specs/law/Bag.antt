-- The bag law: the contents of the parts that the tally names form the bags of the store.
use Rattle.std.specs.List.{AllZip, enumerate_from}
use Rattle.std.specs.Prelude.{All, List, Some, filter, option_to_list, ℕ, ◌==◌, ◌≡◌, ◌≤◌}
use Rattle.tt_value.specs.declared.value.Row.{Row}
use Rattle.tt_value.specs.values.Bags.{bag_of}
use Rattle.tt_script.specs.declared.script.Script.{Script}
use Rattle.tt_plain.specs.declared.store.Plain.{Plain}
use Rattle.tt_plain.specs.declared.store.PlainOpen.{PlainOpen}
use Rattle.tt_plain.specs.declared.store.PlainSession.{PlainSession}
use Rattle.tt_plain.specs.declared.store.PlainTable.{PlainTable}
use Rattle.tt_plain.specs.declared.tally.Tally.{Tally}
use Rattle.tt_plain.specs.declared.tally.TallyPin.{TallyPin}
use Rattle.tt_plain.specs.asked.Asked.{Asked, request_asked}
use Rattle.tt_plain.specs.asked.Carried.{Carried}
use Rattle.tt_plain.specs.asked.Request.{Request, Writes}
use Rattle.tt_plain.specs.asked.Turns.{open_asked}
use Rattle.tt_plain.specs.history.Contents.{rows_of_parts}
use Rattle.tt_plain.specs.opening.Seen.{visible_rows}
use Rattle.tt_plain.specs.stored.Tables.{rows_at}
use Rattle.tt_plain.specs.tally.Layouts.{parts_at, parts_seen}
use Rattle.tt_sql.specs.declared.change.Dml.TheVariants as dml

-- the contents of some parts form a bag
abbrev pub Form : List (List Row) → List ℕ → List Row → Type 0
Form contents parts rows = bag_of (rows_of_parts contents parts) ≡ rows

-- at each moment from its making on, the layout of a table forms its rows
abbrev pub LayoutsForm : List (List Row) → Plain → PlainTable → Type 0
LayoutsForm contents store table = (moment : ℕ) → table.made ≤ moment →
    Form contents (parts_at store.tally table.number moment) (rows_at table moment)

-- what a session sees of a table
abbrev pub SeenForms : List (List Row) → Plain → ℕ × PlainSession → PlainTable → Type 0
SeenForms contents store found table =
    Form contents (parts_seen store.tally found.0 table.number) (visible_rows found.1 table)

abbrev pub pins_of : Tally → ℕ → List TallyPin
pins_of tally session = filter (λ (pin : TallyPin). pin.session == session) tally.pins

abbrev pub PinForms : List (List Row) → ℕ × List Row → TallyPin → Type 0
PinForms contents seen pin = (pin.table ≡ seen.0) × Form contents pin.parts seen.1

-- what an open statement has seen: the pins of a query and of an INSERT are of its sources, in order; those of an UPDATE and of a
-- DELETE of its target, which has no source
abbrev pub seen_in_pins : Request → PlainOpen → List (ℕ × List Row)
seen_in_pins (Writes (dml.Update u)) seen = option_to_list seen.target
seen_in_pins (Writes (dml.Delete d)) seen = option_to_list seen.target
seen_in_pins _ seen = seen.sources

abbrev pub PinsForm : List (List Row) → Asked → PlainOpen → Type 0
PinsForm contents asked seen = AllZip (PinForms contents) (seen_in_pins (request_asked asked) seen) (pins_of asked.store.tally asked.session)

pub record BagsAreFormed (carried : Carried) (program : Script) (contents : List (List Row)) (store : Plain) : Type 0 where
  pub layouts : All (LayoutsForm contents store) store.tables
  pub seen : All (λ found. All (SeenForms contents store found) store.tables) (enumerate_from 0 store.sessions)
  pub pinned : (session index : ℕ) (asked : Asked) (seen : PlainOpen) →
      open_asked carried program store session index ≡ Some (asked, seen) → PinsForm contents asked seen
