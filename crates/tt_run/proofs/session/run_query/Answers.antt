use Rattle.std.proofs.Common.{◌≡◌, ◌∙◌, Ok, Some, ap, sym, subst}
use Rattle.tt_sql.specs.declared.statement.Statement.{Statement}
use Rattle.tt_plain.specs.asked.Turns.{asked_with, carried_out}
use Rattle.tt_built.specs.Built.{built}
use Rattle.tt_state.specs.Chronicle.{store_of}
use Rattle.tt_catalog.specs.Starts.{IsQueryOrChange}
use Rattle.tt_catalog.specs.Tickets.{HoldsFor, IsTicketOf}
use Rattle.tt_run.specs.Turns.{IsAnswered}
use Rattle.tt_run.proofs.Answering.{is_over}
use Rattle.tt_run.proofs.Requests.{query_left, query_runs}
use Rattle.tt_run.proofs.TurnsLaws.{made_goes_on, made_answers, then_answers}
use Rattle.tt_run.proofs.session.run_query.Goals as goal

pub refuse_text-requires : goal.refuse_text-requires
refuse_text-requires c =
    c.requires.next
    ∙ (ap (λ (s : Statement). Some (asked_with c.args.cat.now.program (store_of c.args.cat.now) c.args.session c.args.index (carried_out built (Ok s)))) c.requires.query
    ∙ ap (λ read. Some (asked_with c.args.cat.now.program (store_of c.args.cat.now) c.args.session c.args.index read)) (query_left c.args.query.now (sym c.plain_query.ensures ∙ c.if-not-plain_query.true)))

pub start-requires-clause-next : goal.start-requires-clause-next
start-requires-clause-next c =
    let runs = query_runs c.args.query.now (sym c.plain_query.ensures ∙ c.if-not-plain_query.false) in
    c.requires.next
    ∙ ap (λ read. Some (asked_with c.args.cat.now.program (store_of c.args.cat.now) c.args.session c.args.index read))
    (subst (λ (s : Statement). carried_out built (Ok s) ≡ Ok s) (sym c.requires.query) runs)

pub start-requires-clause-kind : goal.start-requires-clause-kind
start-requires-clause-kind c = subst IsQueryOrChange (sym c.requires.query) tt

pub answer_query-requires-clause-ticket : goal.answer_query-requires-clause-ticket
answer_query-requires-clause-ticket c = subst (IsTicketOf c.start.new.cat c.in-Ticket.ticket) c.requires.query c.in-Ticket.ensures.ticket.2

pub answer_query-requires-clause-reads : goal.answer_query-requires-clause-reads
answer_query-requires-clause-reads c =
    let ticket = subst (IsTicketOf c.start.new.cat c.in-Ticket.ticket) c.requires.query c.in-Ticket.ensures.ticket.2 in
    let holds = subst (λ (s : Statement). HoldsFor s c.in-Ticket.ticket.sources c.in-Ticket.ticket.target) c.requires.query c.in-Ticket.ensures.tables in
    is_over c.start.new.cat c.in-Ticket.ticket c.args.query.now holds.0 (sym c.plain_query.ensures ∙ c.if-not-plain_query.false) ticket holds.1

pub returns-in-Refused : goal.returns-in-Refused
returns-in-Refused c = made_answers _ _ _ _ _ _ tt c.in-Refused.ensures.entry

pub returns-in-Memory : goal.returns-in-Memory
returns-in-Memory c = made_answers _ _ _ _ _ _ tt c.in-Memory.ensures.entry

pub returns-in-Ticket : goal.returns-in-Ticket
returns-in-Ticket c =
    let given = c.in-Ticket.ensures.ticket in
    let at_index = subst (λ i. IsAnswered c.start.new.cat c.answer_query.new.cat c.in-Ticket.ticket.session i c.answer_query.result) given.1 c.answer_query.ensures in
    let answered = subst (λ s. IsAnswered c.start.new.cat c.answer_query.new.cat s c.args.index c.answer_query.result) given.0 at_index in
    then_answers _ _ _ _ _ _ (made_goes_on _ _ _ _ _ tt c.in-Ticket.ensures.entry) answered
