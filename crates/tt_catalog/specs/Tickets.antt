-- Tickets of open statements: the tables that they hold, with the parts that are pinned for them.
use Rattle.std.specs.List.{AllZip}
use Rattle.std.specs.Prelude.{Bool, List, None, Ok, Option, Some, [], false, if◌then◌else◌, length, map, option_to_list, true, ℕ, ⊤, ◌++◌, ◌∷◌, ◌≡◌}
use Rattle.tt_value.specs.declared.value.Row.{Row}
use Rattle.tt_value.specs.declared.value.Schema.{Schema}
use Rattle.tt_value.specs.values.Bags.{bag_of}
use Rattle.tt_sql.specs.asked.Request.{request_in}
use Rattle.tt_sql.specs.declared.change.Dml.TheVariants as dml
use Rattle.tt_sql.specs.declared.statement.Statement.{Statement}
use Rattle.tt_sql.specs.declared.statement.Statement.TheVariants as tree
use Rattle.tt_history.specs.declared.reply.Reply.{Reply}
use Rattle.tt_partition.specs.Cuts.{table_with}
use Rattle.tt_partition.specs.Table.{Table}
use Rattle.tt_plain.specs.TypingRefusal.{typing_refusal}
use Rattle.tt_plain.specs.declared.store.PlainOpen.{PlainOpen}
use Rattle.tt_plain.specs.declared.tally.TallyPin.{TallyPin}
use Rattle.tt_plain.specs.history.Contents.{rows_numbered}
use Rattle.tt_plain.specs.law.Bag.{pins_of, seen_in_pins}
use Rattle.tt_plain.specs.meaning.Outcome.{schema_numbered}
use Rattle.tt_plain.specs.opening.Point.{change_sources}
use Rattle.tt_state.specs.Held.{rows_held, schemas_held}
use Rattle.tt_state.specs.Chronicle.{Chronicle, IsOpenRead, MadeEntry, entry_at, rows_of, store_of}
use Rattle.tt_state.specs.declared.ticket.Seen.{Seen}
use Rattle.tt_state.specs.declared.ticket.Started.{Started}
use Rattle.tt_state.specs.declared.ticket.Ticket.{Ticket}
use Rattle.tt_catalog.specs.Starts.{told_by}
use Rattle.tt_history.specs.declared.history.EntryKind.TheVariants as kind
use Rattle.tt_history.specs.declared.reply.Reply.TheVariants as reply
use Rattle.tt_state.specs.declared.ticket.Started.TheVariants as started

-- ---- tables that are held

-- the part of a number, with its rows as a table of this schema
abbrev pub part_of : Chronicle → Schema → ℕ → ℕ × Table
part_of chronicle schema number = (number, table_with schema (rows_numbered (rows_of chronicle) number))

-- A table that is held for a pin: its schema, and just the pinned parts, in the order of their numbers, each with its contents.
pub record IsHeld (chronicle : Chronicle) (pin : TallyPin) (held : Seen) : Type 0 where
  pub table : held.table ≡ pin.table
  pub schema : schema_numbered (store_of chronicle) pin.table ≡ Some held.schema
  pub parts : held.parts ≡ map (part_of chronicle held.schema) pin.parts

-- the parts form what the open statement sees of the table
abbrev pub StandsForRows : ℕ × List Row → Seen → Type 0
StandsForRows seen held = (held.table ≡ seen.0) × (bag_of (rows_held held) ≡ seen.1)

-- an UPDATE and a DELETE read their target
abbrev pub reads_target : Statement → Bool
reads_target (tree.Dml (dml.Update u)) = true
reads_target (tree.Dml (dml.Delete d)) = true
reads_target _ = false

-- of the target of any other change no part is held
pub record IsTargetOf (chronicle : Chronicle) (statement : Statement) (seen : ℕ × List Row) (held : Seen) : Type 0 where
  pub table : held.table ≡ seen.0
  pub schema : schema_numbered (store_of chronicle) seen.0 ≡ Some held.schema
  pub parts : reads_target statement ≡ false → held.parts ≡ []

-- the target of the ticket is that of the open statement, if it has one
abbrev pub HasTarget : Chronicle → Statement → Option (ℕ × List Row) → Option Seen → Type 0
HasTarget chronicle statement None None = ⊤
HasTarget chronicle statement (Some seen) (Some held) = IsTargetOf chronicle statement seen held
HasTarget chronicle statement _ _ = ⊥

-- ---- tickets

-- the tables whose rows a statement reads: its sources, or its target
abbrev pub tables_read : Statement → Ticket → List Seen
tables_read statement ticket = if reads_target statement then option_to_list ticket.target else ticket.sources

-- The ticket is that of its session's open statement, which is this one. Held are just the parts that are pinned for it, and they form
-- what it sees.
pub record IsTicketOf (chronicle : Chronicle) (ticket : Ticket) (statement : Statement) : Type 0 where
  pub seen : PlainOpen
  pub is_open : IsOpenRead chronicle ticket.session ticket.index (Ok statement) seen
  pub pinned : AllZip (IsHeld chronicle) (pins_of (store_of chronicle).tally ticket.session) (tables_read statement ticket)
  pub bags : AllZip StandsForRows (seen_in_pins (request_in statement) seen) (tables_read statement ticket)
  pub target : HasTarget chronicle statement seen.target ticket.target

-- the schemas of its tables, in the order in which the statement names them
abbrev pub schemas_of : Ticket → List Schema
schemas_of ticket = schemas_held (option_to_list ticket.target ++ ticket.sources)

-- ---- starts

-- a start gives the ticket of its statement
abbrev pub GivesTicket : Chronicle → ℕ → ℕ → Statement → Started → Type 0
GivesTicket new session index statement (started.Ticket ticket) = (ticket.session ≡ session) × (ticket.index ≡ index) × IsTicketOf new ticket statement
GivesTicket new session index statement _ = ⊤

-- a statement that begins is not refused for its columns and kinds over the tables that its ticket holds
abbrev pub BeginsTyped : Statement → Started → Type 0
BeginsTyped statement (started.Ticket ticket) = typing_refusal (schemas_of ticket) statement ≡ None
BeginsTyped statement _ = ⊤

-- A query holds the one table from which it reads, and a change its target, and the table from which its query reads if it has one.
abbrev pub HoldsFor : Statement → List Seen → Option Seen → Type 0
HoldsFor (tree.Query q) sources target = (held : Seen) × (sources ≡ held ∷ []) × (target ≡ None)
HoldsFor (tree.Dml d) sources target = (held : Seen) × (target ≡ Some held) × (length sources ≡ length (change_sources d))
HoldsFor _ sources target = ⊥

abbrev pub HoldsTables : Statement → Started → Type 0
HoldsTables statement (started.Ticket ticket) = HoldsFor statement ticket.sources ticket.target
HoldsTables statement _ = ⊤

-- a statement that begins has no reply yet
abbrev pub reply_to_start : Started → Option Reply
reply_to_start (started.Ticket ticket) = None
reply_to_start (started.Refused refusal) = Some (reply.Refused refusal)
reply_to_start started.Memory = Some reply.Memory

-- the entry tells how it began
abbrev pub MadeStart : Chronicle → Chronicle → ℕ → ℕ → Started → Type 0
MadeStart old new session index begun =
    MadeEntry old new (entry_at (store_of old).moment session index (kind.Start (told_by begun))) (reply_to_start begun)
