-- What the catalog keeps, as contracts see it, and what is looked up in it.
use Rattle.std.specs.Option.{option_and_then}
use Rattle.std.specs.Prelude.{List, None, Option, Some, [], find, if◌then◌else◌, slice_get, ℕ, ◌-◌, ◌==◌}
use Rattle.tt_layout.specs.Chain.{current_of}
use Rattle.tt_marks.specs.declared.mark.Mark.{Mark}
use Rattle.tt_names.specs.Registry.{Registry, live_of}
use Rattle.tt_partition.specs.Table.{Table}
use Rattle.tt_plain.specs.declared.tally.TallyPin.{TallyPin}
use Rattle.tt_state.specs.declared.part.StoredPart.{StoredPart}
use Rattle.tt_state.specs.declared.state.SessionState.{SessionState}
use Rattle.tt_state.specs.declared.state.State.{State}
use Rattle.tt_state.specs.declared.state.TableState.{TableState}

pub record Kept : Type 0 where
  pub moment : ℕ
  pub tables : List TableState
  pub names : Registry
  pub marks : List Mark
  pub parts : List StoredPart
  pub pins : List TallyPin
  pub sessions : List SessionState
  pub points : List (Option ℕ)

abbrev pub kept_of : State → Kept
kept_of state = record {
  moment = state.moment;
  tables = state.tables.items;
  names = state.names;
  marks = state.marks.list;
  parts = state.parts.items;
  pins = state.pins.items;
  sessions = state.sessions.items;
  points = state.points.items;
}

-- ---- tables

-- tables are numbered from 1
abbrev pub table_kept : List TableState → ℕ → Option TableState
table_kept tables number = if number == 0 then None else slice_get tables (number - 1)

-- the live table of a name
abbrev pub live_kept : Kept → List ℕ → Option TableState
live_kept kept name = option_and_then (table_kept kept.tables) (live_of name kept.names)

-- the numbers of the parts that make up a table now
abbrev pub numbers_now : TableState → List ℕ
numbers_now table = current_of table.facts.layouts

-- ---- parts

abbrev pub no_table : Table
no_table = record { kinds = []; rows = [] }

abbrev pub table_in : Option StoredPart → Table
table_in None = no_table
table_in (Some part) = part.part

-- the stored part of a number
abbrev pub stored_at : List StoredPart → ℕ → Option StoredPart
stored_at parts number = find (λ (part : StoredPart). part.facts.number == number) parts

-- the rows of the part of a number
abbrev pub part_kept : List StoredPart → ℕ → Table
part_kept parts number = table_in (slice_get parts (number - 1))

abbrev pub with_part : List StoredPart → ℕ → ℕ × Table
with_part parts number = (number, part_kept parts number)
