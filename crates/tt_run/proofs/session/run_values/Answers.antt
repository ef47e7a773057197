use Rattle.std.proofs.Common.{◌≡◌, None, subst, sym}
use Rattle.tt_sql.specs.declared.statement.Statement.{Statement}
use Rattle.tt_plain.specs.TypingRefusal.{typing_refusal}
use Rattle.tt_catalog.specs.Starts.{IsQueryOrChange}
use Rattle.tt_catalog.specs.Tickets.{HoldsFor, IsTicketOf, schemas_of}
use Rattle.tt_run.specs.Turns.{IsAnswered}
use Rattle.tt_run.proofs.Changing.{is_writing, no_sources}
use Rattle.tt_run.proofs.TurnsLaws.{made_goes_on, made_answers, then_answers}
use Rattle.tt_run.proofs.session.run_values.Goals as goal

pub start-requires-clause-kind : goal.start-requires-clause-kind
start-requires-clause-kind c = subst IsQueryOrChange (sym c.requires.insert) tt

pub change_rows-requires-clause-ticket : goal.change_rows-requires-clause-ticket
change_rows-requires-clause-ticket c = subst (IsTicketOf c.start.new.cat c.in-Ticket.ticket) c.requires.insert c.in-Ticket.ensures.ticket.2

pub change_rows-requires-clause-writes : goal.change_rows-requires-clause-writes
change_rows-requires-clause-writes c =
    let holds = subst (λ (s : Statement). HoldsFor s c.in-Ticket.ticket.sources c.in-Ticket.ticket.target) c.requires.insert c.in-Ticket.ensures.tables in
    let typed = subst (λ (s : Statement). typing_refusal (schemas_of c.in-Ticket.ticket) s ≡ None) c.requires.insert c.in-Ticket.ensures.typed in
    is_writing c.in-Ticket.ticket c.args.insert.now holds.0 (no_sources c.args.insert.now c.args.tuples.now c.in-Ticket.ticket.sources c.requires.tuples holds.2) holds.1 typed

pub returns-in-Refused : goal.returns-in-Refused
returns-in-Refused c = made_answers _ _ _ _ _ _ tt c.in-Refused.ensures.entry

pub returns-in-Memory : goal.returns-in-Memory
returns-in-Memory c = made_answers _ _ _ _ _ _ tt c.in-Memory.ensures.entry

pub returns-in-Ticket : goal.returns-in-Ticket
returns-in-Ticket c =
    let given = c.in-Ticket.ensures.ticket in
    let at_index = subst (λ i. IsAnswered c.start.new.cat c.change_rows.new.cat c.in-Ticket.ticket.session i c.change_rows.result) given.1 c.change_rows.ensures in
    let answered = subst (λ s. IsAnswered c.start.new.cat c.change_rows.new.cat s c.args.index c.change_rows.result) given.0 at_index in
    then_answers _ _ _ _ _ _ (made_goes_on _ _ _ _ _ tt c.in-Ticket.ensures.entry) answered
