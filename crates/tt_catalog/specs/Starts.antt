-- How a query or a change begins on what is kept.
use Rattle.std.specs.Prelude.{List, None, Option, Some, [], map, min, option_map, true, ℕ, ⊤, ◌++◌, ◌∷◌, ◌≡◌}
use Rattle.tt_value.specs.declared.name.TableName.{TableName}
use Rattle.tt_sql.specs.declared.change.Dml.{Dml}
use Rattle.tt_sql.specs.declared.change.Insert.{Insert}
use Rattle.tt_sql.specs.declared.change.InsertSource.{InsertSource}
use Rattle.tt_sql.specs.declared.statement.Statement.{Statement}
use Rattle.tt_script.specs.declared.script.Script.{Script}
use Rattle.tt_history.specs.Refusals.{refusal_number}
use Rattle.tt_history.specs.declared.history.Told.{Told}
use Rattle.tt_history.specs.declared.reply.Refusal.{Refusal}
use Rattle.tt_marks.specs.Changes.{marked, shared}
use Rattle.tt_marks.specs.Marks.{other_exclusive_holder}
use Rattle.tt_plain.specs.Places.{table_begin}
use Rattle.tt_plain.specs.Statements.{insertion}
use Rattle.tt_plain.specs.Tables.{TakesFromOneTable}
use Rattle.tt_plain.specs.TypingRefusal.{typing_refusal}
use Rattle.tt_plain.specs.declared.tally.TallyPin.{TallyPin}
use Rattle.tt_plain.specs.law.Lists.{Every}
use Rattle.tt_plain.specs.refusal.{first_some}
use Rattle.tt_state.specs.Keeps.{HasKeptParts}
use Rattle.tt_state.specs.Kept.{Kept, kept_of, live_kept, numbers_now, with_part}
use Rattle.tt_state.specs.Moves.{with_begun, with_ended}
use Rattle.tt_state.specs.declared.part.StoredPart.{StoredPart}
use Rattle.tt_state.specs.declared.state.State.{State}
use Rattle.tt_state.specs.declared.state.TableState.{TableState}
use Rattle.tt_state.specs.declared.ticket.Seen.{Seen}
use Rattle.tt_state.specs.declared.ticket.Started.{Started}
use Rattle.tt_catalog.specs.declared.starting.Unopened.{Unopened}
use Rattle.tt_history.specs.declared.history.Told.TheVariants as told
use Rattle.tt_history.specs.declared.reply.Refusal.TheVariants as refusal
use Rattle.tt_sql.specs.declared.change.Dml.TheVariants as dml
use Rattle.tt_sql.specs.declared.change.InsertSource.TheVariants as source
use Rattle.tt_sql.specs.declared.statement.Statement.TheVariants as tree
use Rattle.tt_state.specs.declared.ticket.Started.TheVariants as started
use Rattle.tt_catalog.specs.declared.starting.Unopened.TheVariants as unopened

-- ---- why a statement does not begin

-- no table of the name is live, or the columns and kinds of the statement do not fit it
abbrev pub refusal_over : Option TableState → TableName → Statement → Option Refusal
refusal_over None name s = Some (refusal.UnknownTable (table_begin name))
refusal_over (Some table) name s = typing_refusal (table.schema ∷ []) s

-- of a statement over one table
abbrev pub refusal_kept : Kept → TableName → Statement → Option Refusal
refusal_kept kept name s = refusal_over (live_kept kept name.name.text) name s

-- the same of two tables; of two that are not live the leftmost is told
abbrev pub refusal_over_both : Option TableState → Option TableState → TableName → TableName → Statement → Option Refusal
refusal_over_both None None target source s = Some (refusal.UnknownTable (min (table_begin target) (table_begin source)))
refusal_over_both None (Some read) target source s = Some (refusal.UnknownTable (table_begin target))
refusal_over_both (Some table) None target source s = Some (refusal.UnknownTable (table_begin source))
refusal_over_both (Some table) (Some read) target source s = typing_refusal (table.schema ∷ read.schema ∷ []) s

abbrev pub refusal_both : Kept → TableName → TableName → Statement → Option Refusal
refusal_both kept target source s = refusal_over_both (live_kept kept target.name.text) (live_kept kept source.name.text) target source s

abbrev pub IsFreeFor : Kept → TableName → Statement → Type 0
IsFreeFor kept name s = refusal_kept kept name s ≡ None

abbrev pub IsRefusedFor : Kept → TableName → Statement → Refusal → Type 0
IsRefusedFor kept name s why = refusal_kept kept name s ≡ Some why

abbrev pub AreFreeFor : Kept → TableName → TableName → Statement → Type 0
AreFreeFor kept target source s = refusal_both kept target source s ≡ None

abbrev pub AreRefusedFor : Kept → TableName → TableName → Statement → Refusal → Type 0
AreRefusedFor kept target source s why = refusal_both kept target source s ≡ Some why

-- another session has the table of a number for itself
abbrev pub lock_held_on : Kept → ℕ → ℕ → Option Refusal
lock_held_on kept session number = option_map refusal.LockHeld (other_exclusive_holder session number kept.marks)

abbrev pub lock_on : Kept → ℕ → Option TableState → Option Refusal
lock_on kept session None = None
lock_on kept session (Some table) = lock_held_on kept session table.facts.number

-- of a statement that takes its one table for itself
abbrev pub refusal_alone : Kept → ℕ → TableName → Statement → Option Refusal
refusal_alone kept session name s = first_some (refusal_kept kept name s ∷ lock_on kept session (live_kept kept name.name.text) ∷ [])

abbrev pub insert_refusal : Kept → Insert → InsertSource → Option Refusal
insert_refusal kept i (source.Values tuples) = refusal_kept kept i.table (insertion i)
insert_refusal kept i (source.Query q) = refusal_both kept i.table q.first.table (insertion i)

-- no COPY is carried out yet
abbrev pub change_refusal : Kept → ℕ → Dml → Option Refusal
change_refusal kept session (dml.Insert i) = insert_refusal kept i i.source
change_refusal kept session (dml.Update u) = refusal_alone kept session u.table (tree.Dml (dml.Update u))
change_refusal kept session (dml.Delete d) = refusal_alone kept session d.table (tree.Dml (dml.Delete d))
change_refusal kept session (dml.Copy c) = None

-- of a query or a change
abbrev pub start_refusal : Kept → ℕ → Statement → Option Refusal
start_refusal kept session (tree.Query q) = refusal_kept kept q.first.table (tree.Query q)
start_refusal kept session (tree.Dml d) = change_refusal kept session d
start_refusal kept session _ = None

-- ---- which statements begin so

-- a query or a change
abbrev pub IsQueryOrChange : Statement → Type 0
IsQueryOrChange (tree.Query q) = ⊤
IsQueryOrChange (tree.Dml d) = ⊤
IsQueryOrChange _ = ⊥

-- No COPY is carried out yet, and each query reads one table.
abbrev pub CanChange : Dml → Type 0
CanChange (dml.Insert i) = TakesFromOneTable i.source
CanChange (dml.Update u) = ⊤
CanChange (dml.Delete d) = ⊤
CanChange (dml.Copy c) = ⊥

abbrev pub CanStart : Statement → Type 0
CanStart (tree.Query q) = q.joins ≡ []
CanStart (tree.Dml d) = CanChange d
CanStart _ = ⊥

-- ---- its tables

abbrev pub IsLiveTable : Kept → TableName → TableState → Type 0
IsLiveTable kept name table = live_kept kept name.name.text ≡ Some table

-- the table that a statement is over, to which it fits
pub record IsAccepted (kept : Kept) (name : TableName) (s : Statement) (table : TableState) : Type 0 where
  pub live : IsLiveTable kept name table
  pub free : refusal_kept kept name s ≡ None

-- the two tables, to which it fits
pub record AreAccepted (kept : Kept) (target source : TableName) (s : Statement) (table read : TableState) : Type 0 where
  pub target_live : IsLiveTable kept target table
  pub source_live : IsLiveTable kept source read
  pub free : refusal_both kept target source s ≡ None

-- the parts in all layouts are kept
abbrev pub HasAllParts : Kept → Type 0
HasAllParts kept = Every (HasKeptParts kept.parts) kept.tables

-- ---- what a ticket holds of them

-- all its current parts
abbrev pub held_whole : List StoredPart → TableState → Seen
held_whole parts table = record {
  table = table.facts.number;
  schema = table.schema;
  parts = map (with_part parts) (numbers_now table);
}

-- none of them
abbrev pub held_empty : TableState → Seen
held_empty table = record { table = table.facts.number; schema = table.schema; parts = [] }

-- ---- what begins with it

abbrev pub pin_whole : ℕ → TableState → TallyPin
pin_whole session table = record { session = session; table = table.facts.number; parts = numbers_now table }

-- the session pins its current parts
abbrev pub with_pin : Kept → ℕ → TableState → Kept
with_pin kept session table = record kept { pins = kept.pins ++ pin_whole session table ∷ [] }

-- the session puts a shared mark on it
abbrev pub with_shared : Kept → ℕ → TableState → Kept
with_shared kept session table = record kept { marks = shared session table.facts.number kept.marks }

-- a pin more, and a mark on its table
abbrev pub with_shared_pin : Kept → ℕ → ℕ → TallyPin → Kept
with_shared_pin kept session number pin = record kept { marks = shared session number kept.marks; pins = kept.pins ++ pin ∷ [] }

abbrev pub with_own_pin : Kept → ℕ → TallyPin → Kept
with_own_pin kept session pin = record kept { marks = marked session pin.table true kept.marks; pins = kept.pins ++ pin ∷ [] }

-- where no other session has the table for itself
abbrev pub Takes : State → State → ℕ → TallyPin → Type 0
Takes old new session pin = (lock_held_on (kept_of old) session pin.table ≡ None) × (kept_of new ≡ with_own_pin (kept_of old) session pin)

-- a query holds the one table that it reads, and its parts are pinned
pub record OpensRead (old new : Kept) (session : ℕ) (name : TableName) (s : Statement) (sources : List Seen) : Type 0 where
  pub table : TableState
  pub accepted : IsAccepted old name s table
  pub holds : sources ≡ held_whole old.parts table ∷ []
  pub kept_is : new ≡ with_pin old session table

-- an INSERT of written rows holds no part of its target, which is marked
pub record OpensShared (old new : Kept) (session : ℕ) (name : TableName) (s : Statement) (target : Seen) : Type 0 where
  pub table : TableState
  pub accepted : IsAccepted old name s table
  pub holds : target ≡ held_empty table
  pub kept_is : new ≡ with_shared old session table

-- an INSERT with a query does both, with the table that it reads and with its target
pub record OpensFilled (old new : Kept) (session : ℕ) (name from : TableName) (s : Statement) (sources : List Seen) (target : Seen) : Type 0 where
  pub table : TableState
  pub read : TableState
  pub accepted : AreAccepted old name from s table read
  pub holds : (sources ≡ held_whole old.parts read ∷ []) × (target ≡ held_empty table)
  pub kept_is : new ≡ with_shared_pin old session table.facts.number (pin_whole session read)

-- an UPDATE and a DELETE hold their target, whose parts are pinned, and have it for themselves
pub record OpensTaken (old new : Kept) (session : ℕ) (name : TableName) (s : Statement) (target : Seen) : Type 0 where
  pub table : TableState
  pub accepted : IsAccepted old name s table
  pub alone : lock_on old session (Some table) ≡ None
  pub holds : target ≡ held_whole old.parts table
  pub kept_is : new ≡ with_own_pin old session (pin_whole session table)

abbrev pub OpensInsert : Kept → Kept → ℕ → Insert → InsertSource → List Seen → Seen → Type 0
OpensInsert old new session i (source.Values tuples) sources target = (sources ≡ []) × OpensShared old new session i.table (insertion i) target
OpensInsert old new session i (source.Query q) sources target = OpensFilled old new session i.table q.first.table (insertion i) sources target

abbrev pub OpensChange : Kept → Kept → ℕ → Dml → List Seen → Seen → Type 0
OpensChange old new session (dml.Insert i) sources target = OpensInsert old new session i i.source sources target
OpensChange old new session (dml.Update u) sources target = (sources ≡ []) × OpensTaken old new session u.table (tree.Dml (dml.Update u)) target
OpensChange old new session (dml.Delete d) sources target = (sources ≡ []) × OpensTaken old new session d.table (tree.Dml (dml.Delete d)) target
OpensChange old new session (dml.Copy c) sources target = ⊥

-- a statement that begins holds the tables that it reads, and the one that it changes
abbrev pub Opens : Kept → Kept → ℕ → Statement → List Seen → Option Seen → Type 0
Opens old new session (tree.Query q) sources None = OpensRead old new session q.first.table (tree.Query q) sources
Opens old new session (tree.Dml d) sources (Some target) = OpensChange old new session d sources target
Opens old new session _ sources target = ⊥

-- ---- starts before their entry

-- it does not begin: it is refused, or there is no memory, and nothing has changed
abbrev pub StaysUnopened : Kept → Kept → Option Refusal → Unopened → Type 0
StaysUnopened old new given (unopened.Refused why) = (given ≡ Some why) × (new ≡ old)
StaysUnopened old new given unopened.Memory = new ≡ old

-- before and behind the call: of each way to begin, and of any statement
abbrev pub ReadsIn : State → State → ℕ → TableName → Statement → List Seen → Type 0
ReadsIn old new session name s sources = OpensRead (kept_of old) (kept_of new) session name s sources

abbrev pub SharesIn : State → State → ℕ → TableName → Statement → Seen → Type 0
SharesIn old new session name s target = OpensShared (kept_of old) (kept_of new) session name s target

abbrev pub TakesIn : State → State → ℕ → TableName → Statement → Seen → Type 0
TakesIn old new session name s target = OpensTaken (kept_of old) (kept_of new) session name s target

abbrev pub FillsIn : State → State → ℕ → TableName → TableName → Statement → List Seen × Seen → Type 0
FillsIn old new session name from s held = OpensFilled (kept_of old) (kept_of new) session name from s held.0 held.1

abbrev pub InsertsIn : State → State → ℕ → Insert → List Seen × Seen → Type 0
InsertsIn old new session i held = OpensInsert (kept_of old) (kept_of new) session i i.source held.0 held.1

abbrev pub ChangesIn : State → State → ℕ → Dml → List Seen × Seen → Type 0
ChangesIn old new session d held = OpensChange (kept_of old) (kept_of new) session d held.0 held.1

abbrev pub OpensIn : State → State → ℕ → Statement → List Seen × Option Seen → Type 0
OpensIn old new session s held = Opens (kept_of old) (kept_of new) session s held.0 held.1

abbrev pub StaysIn : State → State → Option Refusal → Unopened → Type 0
StaysIn old new given why = StaysUnopened (kept_of old) (kept_of new) given why

abbrev pub Starts : Kept → Kept → ℕ → ℕ → Statement → Started → Type 0
Starts old new session index s (started.Ticket ticket) =
    (ticket.session ≡ session) × (ticket.index ≡ index) × Opens old new session s ticket.sources ticket.target
Starts old new session index s (started.Refused why) = (start_refusal old session s ≡ Some why) × (new ≡ old)
Starts old new session index s started.Memory = new ≡ old

-- with a ticket the statement has begun, and else it has ended
abbrev pub with_started : Script → Kept → ℕ → ℕ → Started → Kept
with_started program kept session index (started.Ticket ticket) = with_begun program kept session index
with_started program kept session index (started.Refused why) = with_ended program kept session index
with_started program kept session index started.Memory = with_ended program kept session index

abbrev pub IsStarted : Script → State → State → ℕ → ℕ → Started → Type 0
IsStarted program old new session index begun = kept_of new ≡ with_started program (kept_of old) session index begun

-- what the entry of a start tells
abbrev pub told_by : Started → Told
told_by (started.Ticket ticket) = told.Done
told_by (started.Refused why) = told.Refused (refusal_number why)
told_by started.Memory = told.Memory
