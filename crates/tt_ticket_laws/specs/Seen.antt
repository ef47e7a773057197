-- What is answered and built over what a ticket holds is what its statement means over what it sees.
use Rattle.std.specs.Prelude.{List, None, Some, ⊤, ◌≡◌}
use Rattle.tt_value.specs.declared.value.Row.{Row}
use Rattle.tt_sql.specs.declared.change.Delete.{Delete}
use Rattle.tt_sql.specs.declared.change.Dml.TheVariants as dml
use Rattle.tt_sql.specs.declared.change.Insert.{Insert}
use Rattle.tt_sql.specs.declared.query.Query.{Query}
use Rattle.tt_sql.specs.declared.statement.Statement.TheVariants as tree
use Rattle.tt_sql.specs.declared.change.Update.{Update}
use Rattle.tt_sql.specs.meaning.Changes.{Changed, NullInRow, OutOfRange, insert_change, update_change}
use Rattle.tt_history.specs.declared.reply.Refusal.TheVariants as refusal
use Rattle.tt_partition.specs.Cuts.{kinds_of}
use Rattle.tt_plain.specs.TypingRefusal.{typing_refusal}
use Rattle.tt_change.specs.Builds.{PutsIn}
use Rattle.tt_query.specs.Answer.{answer_held, rows_of_first}
use Rattle.tt_rewrite.specs.Deletes.{Deletes}
use Rattle.tt_rewrite.specs.Updates.{Updates}
use Rattle.tt_state.specs.Chronicle.{Chronicle}
use Rattle.tt_state.specs.Held.{rows_held, schemas_held}
use Rattle.tt_state.specs.declared.ticket.Built.{Built}
use Rattle.tt_state.specs.declared.ticket.Seen.{Seen}
use Rattle.tt_state.specs.declared.ticket.Ticket.{Ticket}
use Rattle.tt_catalog.specs.Changes.{IsBuiltFor}
use Rattle.tt_catalog.specs.Ends.{IsAnswered, IsFailed}
use Rattle.tt_catalog.specs.Tickets.{IsTicketOf, schemas_of}

-- A query that has begun, with what was found of it at its start.
pub record Queries (chronicle : Chronicle) (ticket : Ticket) (q : Query) : Type 0 where
  pub is : IsTicketOf chronicle ticket (tree.Query q)
  pub alone : ticket.target ≡ None
  pub typed : typing_refusal (schemas_of ticket) (tree.Query q) ≡ None

abbrev pub AnswersAsSeen : Type 0
AnswersAsSeen = (chronicle : Chronicle) (ticket : Ticket) (q : Query) → Queries chronicle ticket q → (rows : List Row) →
    answer_held ticket.sources q ≡ Some rows → IsAnswered chronicle ticket rows

abbrev pub FailsAsSeen : Type 0
FailsAsSeen = (chronicle : Chronicle) (ticket : Ticket) (q : Query) → Queries chronicle ticket q →
    answer_held ticket.sources q ≡ None → IsFailed chronicle ticket refusal.OutOfRange

-- a change that is refused over the rows of the parts is refused so
abbrev pub FailsAs : Chronicle → Ticket → Changed → Type 0
FailsAs chronicle ticket OutOfRange = IsFailed chronicle ticket refusal.OutOfRange
FailsAs chronicle ticket (NullInRow column) = IsFailed chronicle ticket (refusal.NullInRow column)
FailsAs chronicle ticket _ = ⊤

abbrev pub DeletesAsSeen : Type 0
DeletesAsSeen = (chronicle : Chronicle) (ticket : Ticket) (delete : Delete) (held : Seen) → IsTicketOf chronicle ticket (tree.Dml (dml.Delete delete)) →
    ticket.target ≡ Some held → (b : Built) → Deletes held delete chronicle.cap b → IsBuiltFor chronicle ticket (dml.Delete delete) b

abbrev pub InsertsAsSeen : Type 0
InsertsAsSeen = (chronicle : Chronicle) (ticket : Ticket) (insert : Insert) (held : Seen) → IsTicketOf chronicle ticket (tree.Dml (dml.Insert insert)) →
    ticket.target ≡ Some held → typing_refusal (schemas_of ticket) (tree.Dml (dml.Insert insert)) ≡ None → (b : Built) →
    PutsIn (insert_change held.schema (schemas_held ticket.sources) (rows_of_first ticket.sources) insert) (kinds_of held.schema) chronicle.cap b →
    IsBuiltFor chronicle ticket (dml.Insert insert) b

abbrev pub InsertsFailAsSeen : Type 0
InsertsFailAsSeen = (chronicle : Chronicle) (ticket : Ticket) (insert : Insert) (held : Seen) → IsTicketOf chronicle ticket (tree.Dml (dml.Insert insert)) →
    ticket.target ≡ Some held → typing_refusal (schemas_of ticket) (tree.Dml (dml.Insert insert)) ≡ None →
    FailsAs chronicle ticket (insert_change held.schema (schemas_held ticket.sources) (rows_of_first ticket.sources) insert)

abbrev pub UpdatesAsSeen : Type 0
UpdatesAsSeen = (chronicle : Chronicle) (ticket : Ticket) (update : Update) (held : Seen) → IsTicketOf chronicle ticket (tree.Dml (dml.Update update)) →
    ticket.target ≡ Some held → (b : Built) → Updates held update chronicle.cap b → IsBuiltFor chronicle ticket (dml.Update update) b

abbrev pub UpdatesFailAsSeen : Type 0
UpdatesFailAsSeen = (chronicle : Chronicle) (ticket : Ticket) (update : Update) (held : Seen) → IsTicketOf chronicle ticket (tree.Dml (dml.Update update)) →
    ticket.target ≡ Some held → FailsAs chronicle ticket (update_change held.schema (rows_held held) update)
