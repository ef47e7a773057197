-- The answer of a query over what its ticket holds is that over what its statement sees, and so is that there is none.
use Rattle.std.specs.Prelude.{List, None, Ok, Option, Some, [], option_to_list, ◌++◌, ◌≡◌}
use Rattle.std.proofs.Common.{ap, subst, ◌∙◌}
use Rattle.tt_value.specs.declared.value.Row.{Row}
use Rattle.tt_sql.specs.declared.query.Query.{Query}
use Rattle.tt_sql.specs.declared.statement.Statement.TheVariants as tree
use Rattle.tt_sql.specs.meaning.Scopes.{query_scope}
use Rattle.tt_history.specs.declared.reply.Refusal.TheVariants as refusal
use Rattle.tt_plain.specs.TypeMismatches.{misfit_in_query}
use Rattle.tt_plain.specs.TypingRefusal.{typing_refusal}
use Rattle.tt_plain.specs.meaning.Outcome.{answer_seen, outcome_of, query_outcome}
use Rattle.tt_query.specs.Answer.{answer_held}
use Rattle.tt_state.specs.Chronicle.{Chronicle, store_of}
use Rattle.tt_state.specs.Held.{schemas_held}
use Rattle.tt_state.specs.declared.ticket.Seen.{Seen}
use Rattle.tt_state.specs.declared.ticket.Ticket.{Ticket}
use Rattle.tt_catalog.specs.Ends.{IsAnswered, IsFailed}
use Rattle.tt_catalog.specs.Tickets.{IsTicketOf, schemas_of}
use Rattle.tt_typer.proofs.Accepted.{well_typed}
use Rattle.tt_ticket_laws.proofs.Read.{same_answer}

module _ (chronicle : Chronicle) (ticket : Ticket) (q : Query) (is : IsTicketOf chronicle ticket (tree.Query q)) (alone : ticket.target ≡ None) (typed : typing_refusal (schemas_of ticket) (tree.Query q) ≡ None) where
  fits : misfit_in_query (query_scope (schemas_held ticket.sources) q) q ≡ []
  fits =
      subst (λ (t : Option Seen). misfit_in_query (query_scope (schemas_held (option_to_list t ++ ticket.sources)) q) q ≡ []) alone
      (well_typed (schemas_of ticket) (tree.Query q) typed).kinds

  pub same : answer_seen (store_of chronicle) is.seen q ≡ answer_held ticket.sources q
  unfolding answer_seen
  same = same_answer chronicle _ is.seen.sources ticket.sources q is.pinned is.bags fits

  pub answered : (rows : List Row) → answer_held ticket.sources q ≡ Some rows → IsAnswered chronicle ticket rows
  answered rows e = record { query = q; seen = is.seen; is_open = is.is_open; answer = same ∙ e }

  pub failed : answer_held ticket.sources q ≡ None → IsFailed chronicle ticket refusal.OutOfRange
  unfolding outcome_of
  failed e = record {
    read = Ok (tree.Query q);
    seen = is.seen;
    is_open = is.is_open;
    outcome = ap (λ (o : Option (List Row)). Some (query_outcome o)) (same ∙ e);
  }
