-- What holds of each catalog: its history is legal, and what it keeps stands for the store to which that leads.
use Rattle.std.specs.Prelude.{Bool, List, None, Option, [], bytes_eq, find, length, map, option_map, slice_get, true, ◌-◌, Some, ℕ, ◌&&◌, ◌+◌, ◌∷◌, ◌≡◌, ◌≤◌, false, filter, ◌==◌, ⊤}
use Rattle.tt_layout.specs.Numbers.{has}
use Rattle.tt_marks.specs.Marks.{marks_of}
use Rattle.tt_marks.specs.declared.mark.Mark.{Mark}
use Rattle.tt_names.specs.Registry.{Registry, live_of}
use Rattle.tt_partition.specs.Cuts.{kinds_of, table_with}
use Rattle.tt_partition.specs.Image.{image_of}
use Rattle.tt_plain.specs.declared.store.Plain.{Plain}
use Rattle.tt_plain.specs.declared.store.PlainMark.{PlainMark}
use Rattle.tt_plain.specs.declared.store.PlainOpen.{PlainOpen}
use Rattle.tt_plain.specs.declared.store.PlainSession.{PlainSession}
use Rattle.tt_plain.specs.declared.store.PlainTable.{PlainTable}
use Rattle.tt_plain.specs.declared.tally.Tally.{Tally}
use Rattle.tt_plain.specs.declared.tally.TallyPin.{TallyPin}
use Rattle.tt_plain.specs.history.Contents.{rows_numbered}
use Rattle.tt_plain.specs.history.Replay.{IsLegal}
use Rattle.tt_plain.specs.history.TrueFacts.{HasTrueFacts}
use Rattle.tt_plain.specs.law.Bag.{pins_of}
use Rattle.tt_plain.specs.law.Lists.{Every}
use Rattle.tt_plain.specs.stored.Sessions.{session_at}
use Rattle.tt_plain.specs.stored.Tables.{is_live}
use Rattle.tt_plain.specs.tally.Facts.{facts_of_part, facts_of_table, stored_parts}
use Rattle.tt_script.specs.Program.{IsProgram}
use Rattle.tt_value.specs.declared.value.Kind.{Kind}
use Rattle.tt_value.specs.declared.value.Row.{Row}
use Rattle.tt_value.specs.declared.value.Schema.{Schema}
use Rattle.tt_built.specs.Built.{built}
use Rattle.tt_state.specs.declared.part.StoredPart.{StoredPart}
use Rattle.tt_state.specs.declared.state.SessionState.{SessionState}
use Rattle.tt_state.specs.declared.state.TableState.{TableState}
use Rattle.tt_state.specs.Chronicle.{Chronicle, rows_of, store_of}
use Rattle.tt_state.specs.Kept.{Kept, part_kept}
use Rattle.tt_state.specs.Owed.{entry_limit, owed}

-- ---- what is kept of a table and of a session

abbrev pub table_of : Tally → PlainTable → TableState
table_of tally table = record {
  facts = facts_of_table tally table;
  schema = table.schema;
  transient = table.transient;
  key = table.key;
  suspended = table.suspended;
}

abbrev pub index_of : PlainOpen → ℕ
index_of seen = seen.index

abbrev pub session_of : PlainSession → SessionState
session_of state = record { done = state.done; running = option_map index_of state.running }

abbrev pub mark_of : ℕ → PlainMark → Mark
mark_of session mark = record { session = session; table = mark.table; exclusive = mark.exclusive }

abbrev pub is_live_as : List ℕ → PlainTable → Bool
is_live_as name table = is_live table && bytes_eq table.name name

-- a name is that of the live table which has it
abbrev pub AreNames : List PlainTable → Registry → Type 0
AreNames tables names = (name : List ℕ) → live_of name names ≡ option_map (λ (table : PlainTable). table.number) (find (is_live_as name) tables)

abbrev pub AreMarks : Plain → List Mark → Type 0
AreMarks store marks = (session : ℕ) → marks_of session marks ≡ map (mark_of session) (session_at store session).marks

abbrev pub ArePins : Tally → List TallyPin → Type 0
ArePins tally pins = (session : ℕ) → filter (λ (pin : TallyPin). pin.session == session) pins ≡ pins_of tally session

-- a session without an open statement pins nothing
abbrev pub IdlePinNothing : Plain → Type 0
IdlePinNothing store =
    (session : ℕ) (state : PlainSession) → slice_get store.sessions session ≡ Some state → state.running ≡ None → pins_of store.tally session ≡ []

-- ---- parts

abbrev pub no_schema : Schema
no_schema = record { columns = [] }

abbrev pub schema_of : Option PlainTable → Schema
schema_of None = no_schema
schema_of (Some table) = table.schema

-- the kinds of a part's columns are those of the table that it was added to
abbrev pub schema_at : List PlainTable → ℕ → Schema
schema_at tables number = schema_of (slice_get tables (number - 1))

-- A kept part has its contents; its rows are counted, and its bytes are those of its image.
pub record IsTruePart (tables : List PlainTable) (contents : List (List Row)) (number : ℕ) (part : StoredPart) : Type 0 where
  pub numbered : part.facts.number ≡ number
  pub origin : (1 ≤ part.facts.origin) × (part.facts.origin ≤ length tables)
  pub image : part.part ≡ table_with (schema_at tables part.facts.origin) (rows_numbered contents number)
  pub rows : part.facts.rows ≡ length part.part.rows
  pub bytes : part.facts.bytes ≡ length (image_of part.part)

-- the parts from a number on
abbrev pub AreTrueParts : List PlainTable → List (List Row) → ℕ → List StoredPart → Type 0
AreTrueParts tables contents number [] = ⊤
AreTrueParts tables contents number (part ∷ parts) = IsTruePart tables contents number part × AreTrueParts tables contents (number + 1) parts

-- so many parts were ever added, and these are numbers of theirs
abbrev pub ArePartNumbers : ℕ → List ℕ → Type 0
ArePartNumbers count numbers = (number : ℕ) → has numbers number ≡ true → (1 ≤ number) × (number ≤ count)

-- each of these numbers is that of a kept part, which has these kinds
abbrev pub AreKeptParts : List StoredPart → List Kind → List ℕ → Type 0
AreKeptParts parts kinds numbers =
    (number : ℕ) → has numbers number ≡ true → (1 ≤ number) × (number ≤ length parts) × ((part_kept parts number).kinds ≡ kinds)

-- each number in a layout of the table is that of a kept part, which has the kinds of the table's columns
abbrev pub HasKeptParts : List StoredPart → TableState → Type 0
HasKeptParts parts table = Every (λ (layout : ℕ × List ℕ). AreKeptParts parts (kinds_of table.schema) layout.1) table.facts.layouts

-- ---- the whole

-- What is kept of tables and parts. By now no part was taken away.
pub record KeepsTables (all : List PlainTable) (tally : Tally) (rows : List (List Row)) (kept : Kept) : Type 0 where
  pub tables : kept.tables ≡ map (table_of tally) all
  pub names : AreNames all kept.names
  pub facts : map (λ (part : StoredPart). part.facts) kept.parts ≡ map facts_of_part (stored_parts tally)
  pub whole : stored_parts tally ≡ tally.parts
  pub parts : AreTrueParts all rows 1 kept.parts
  pub contents : length rows ≡ length kept.parts
  pub layouts : Every (HasKeptParts kept.parts) kept.tables

-- What is kept of sessions. By now none has a transaction, so nothing is pending.
pub record KeepsSessions (store : Plain) (kept : Kept) : Type 0 where
  pub moment : kept.moment ≡ store.moment
  pub sessions : kept.sessions ≡ map session_of store.sessions
  pub marks : AreMarks store kept.marks
  pub pins : ArePins store.tally kept.pins
  pub idle : IdlePinNothing store
  pub points : kept.points ≡ store.points
  pub alone : Every (λ (state : PlainSession). state.transaction ≡ false) store.sessions
  pub settled : store.tally.pending ≡ []

-- The catalog stands for its program and its history, whose parts are cut at its length, and for each entry that the statements may
-- still make there is room.
pub record StandsFor (chronicle : Chronicle) (kept : Kept) (room : ℕ) : Type 0 where
  pub legal : IsLegal built chronicle.program chronicle.history
  pub true_facts : HasTrueFacts built chronicle.program chronicle.cap chronicle.history
  pub tables : KeepsTables (store_of chronicle).tables (store_of chronicle).tally (rows_of chronicle) kept
  pub sessions : KeepsSessions (store_of chronicle) kept
  pub limits : IsProgram chronicle.program
  pub capped : (1 ≤ chronicle.cap) × (chronicle.cap ≤ 65536)
  pub few : length (store_of chronicle).tables ≤ length chronicle.history
  pub counted : length chronicle.history + owed chronicle.program.sessions (store_of chronicle).sessions ≤ entry_limit chronicle.program
  pub roomy : owed chronicle.program.sessions (store_of chronicle).sessions ≤ room
