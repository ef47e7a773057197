-- What is known of a statement that has begun, beside that its ticket is the open one.
use Rattle.std.specs.Prelude.{None, Some, [], true, ◌∷◌, ◌≡◌}
use Rattle.tt_sql.specs.declared.change.Insert.{Insert}
use Rattle.tt_sql.specs.declared.query.Query.{Query}
use Rattle.tt_plain.specs.Statements.{insertion}
use Rattle.tt_plain.specs.TypingRefusal.{typing_refusal}
use Rattle.tt_built.specs.Built.{is_plain_query}
use Rattle.tt_state.specs.declared.ticket.Seen.{Seen}
use Rattle.tt_state.specs.declared.ticket.Ticket.{Ticket}
use Rattle.tt_query.specs.Answer.{IsOverOneTable}

-- a query of a whole table, which its ticket holds
pub record IsReading (ticket : Ticket) (query : Query) : Type 0 where
  pub plain : is_plain_query query ≡ true
  pub over : IsOverOneTable ticket.sources query

-- an INSERT that is not refused for the table which its ticket holds
pub record IsWriting (ticket : Ticket) (insert : Insert) : Type 0 where
  pub held : Seen
  pub target : ticket.target ≡ Some held
  pub typed : typing_refusal (held.schema ∷ []) (insertion insert) ≡ None
