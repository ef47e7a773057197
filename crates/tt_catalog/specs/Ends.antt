-- Tickets of open statements, and the entries by which these end without a change.
use Rattle.std.specs.Prelude.{List, Ok, Result, Some, [], filter, not, ℕ, ◌==◌, ◌≡◌}
use Rattle.tt_value.specs.declared.value.Row.{Row}
use Rattle.tt_sql.specs.declared.query.Query.{Query}
use Rattle.tt_sql.specs.declared.statement.Statement.{Statement}
use Rattle.tt_marks.specs.Changes.{released}
use Rattle.tt_plain.specs.asked.Turns.{asked_with}
use Rattle.tt_plain.specs.declared.store.PlainOpen.{PlainOpen}
use Rattle.tt_plain.specs.declared.tally.TallyPin.{TallyPin}
use Rattle.tt_plain.specs.meaning.Outcome.{Fails, answer_seen, outcome_of}
use Rattle.tt_state.specs.Chronicle.{Chronicle, IsOpenRead, MadeEntry, entry_at, store_of}
use Rattle.tt_state.specs.Kept.{Kept}
use Rattle.tt_state.specs.Moves.{with_ended}
use Rattle.tt_script.specs.declared.script.Script.{Script}
use Rattle.tt_history.specs.Refusals.{refusal_number}
use Rattle.tt_history.specs.declared.history.Told.{Told}
use Rattle.tt_history.specs.declared.reply.Refusal.{Refusal}
use Rattle.tt_history.specs.declared.reply.Reply.{Reply}
use Rattle.tt_state.specs.declared.ticket.Ticket.{Ticket}
use Rattle.tt_history.specs.declared.history.EntryKind.TheVariants as kind
use Rattle.tt_history.specs.declared.history.Told.TheVariants as told
use Rattle.tt_history.specs.declared.reply.Reply.TheVariants as reply
use Rattle.tt_sql.specs.declared.statement.Statement.TheVariants as tree

-- what other sessions pin
abbrev pub pins_without : ℕ → List TallyPin → List TallyPin
pins_without session pins = filter (λ (pin : TallyPin). not (pin.session == session)) pins

-- the session's open statement pins nothing more
abbrev pub with_unpinned : Kept → ℕ → Kept
with_unpinned kept session = record kept { pins = pins_without session kept.pins }

-- and its marks end
abbrev pub with_released : Kept → ℕ → Kept
with_released kept session = record kept { marks = released session kept.marks }

-- its query has ended
abbrev pub with_answered : Script → Kept → ℕ → ℕ → Kept
with_answered program kept session index = with_ended program (with_unpinned kept session) session index

-- it is given up
abbrev pub with_given_up : Script → Kept → ℕ → ℕ → Kept
with_given_up program kept session index = with_answered program (with_released kept session) session index

-- the ticket is that of the session's open statement
abbrev pub IsOpenTicket : Chronicle → Ticket → Type 0
IsOpenTicket chronicle ticket = (read : Result Statement ℕ) × (seen : PlainOpen) × IsOpenRead chronicle ticket.session ticket.index read seen

-- The open statement is a query, and these rows are its answer over what it sees.
pub record IsAnswered (chronicle : Chronicle) (ticket : Ticket) (rows : List Row) : Type 0 where
  pub query : Query
  pub seen : PlainOpen
  pub is_open : IsOpenRead chronicle ticket.session ticket.index (Ok (tree.Query query)) seen
  pub answer : answer_seen (store_of chronicle) seen query ≡ Some rows

-- there is such an answer
abbrev pub IsAnswerable : Chronicle → Ticket → Type 0
IsAnswerable chronicle ticket = (rows : List Row) × IsAnswered chronicle ticket rows

-- The open statement is refused by what it means over what it sees.
pub record IsFailed (chronicle : Chronicle) (ticket : Ticket) (why : Refusal) : Type 0 where
  pub read : Result Statement ℕ
  pub seen : PlainOpen
  pub is_open : IsOpenRead chronicle ticket.session ticket.index read seen
  pub outcome : outcome_of (asked_with chronicle.program (store_of chronicle) ticket.session ticket.index read) seen ≡ Some (Fails why)

-- An open statement is given up for want of memory, or because it is refused over what it sees; the answer says which.
abbrev pub GivesUp : Chronicle → Ticket → Told → Reply → Type 0
GivesUp chronicle ticket told.Done answer = ⊥
GivesUp chronicle ticket (told.Refused number) answer =
    (why : Refusal) × IsFailed chronicle ticket why × (number ≡ refusal_number why) × (answer ≡ reply.Refused why)
GivesUp chronicle ticket told.Memory answer = IsOpenTicket chronicle ticket × (answer ≡ reply.Memory)

abbrev pub CanGiveUp : Chronicle → Ticket → Told → Type 0
CanGiveUp chronicle ticket why = (answer : Reply) × GivesUp chronicle ticket why answer

-- its reply is the answer that its cause gives
abbrev pub MadeAbandon : Chronicle → Chronicle → Ticket → Told → Type 0
MadeAbandon old new ticket why = (answer : Reply) → GivesUp old ticket why answer →
    MadeEntry old new (entry_at (store_of old).moment ticket.session ticket.index (kind.Abandon why)) (Some answer)

-- the query is answered with its answer over what it sees
abbrev pub MadeEnd : Chronicle → Chronicle → Ticket → Type 0
MadeEnd old new ticket =
    (rows : List Row) × IsAnswered old ticket rows
    × MadeEntry old new (entry_at (store_of old).moment ticket.session ticket.index (kind.End [] [])) (Some (reply.Rows rows))

-- the statement is refused at its start
abbrev pub MadeRefusal : Chronicle → Chronicle → ℕ → ℕ → Refusal → Type 0
MadeRefusal old new session index why =
    MadeEntry old new (entry_at (store_of old).moment session index (kind.Start (told.Refused (refusal_number why)))) (Some (reply.Refused why))
