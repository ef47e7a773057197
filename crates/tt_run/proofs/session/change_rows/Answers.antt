use Rattle.std.proofs.Common.{refl, sym, subst}
use Rattle.tt_history.specs.declared.reply.Reply.TheVariants as reply
use Rattle.tt_sql.specs.declared.change.Dml.{Dml}
use Rattle.tt_state.specs.declared.ticket.Ticket.{Ticket}
use Rattle.tt_state.specs.Chronicle.{Chronicle}
use Rattle.tt_catalog.specs.Changes.{IsBuiltFor}
use Rattle.tt_catalog.specs.Ends.{IsOpenTicket}
use Rattle.tt_run.specs.Turns.{IsAnswered}
use Rattle.tt_run.proofs.TurnsLaws.{made_answers}
use Rattle.tt_run.proofs.session.change_rows.Goals as goal

pub abandon-requires : goal.abandon-requires
abandon-requires c = (reply.Memory, ((_, c.requires.ticket.seen, c.requires.ticket.is_open), refl))

pub returns-in_default : goal.returns-in_default
returns-in_default c = made_answers _ _ _ _ _ _ tt (c.abandon.ensures reply.Memory ((_, c.requires.ticket.seen, c.requires.ticket.is_open), refl))

pub abandon-requires-in-Err : goal.abandon-requires-in-Err
abandon-requires-in-Err c =
    let open_now = subst (λ (t : Ticket). IsOpenTicket c.end_change.new.cat t) (sym c.in-Err.ensures.ticket)
    (subst (λ (b : Chronicle). IsOpenTicket b c.args.ticket) (sym c.in-Err.ensures.unchanged) (_, c.requires.ticket.seen, c.requires.ticket.is_open)) in
    (reply.Memory, (open_now, refl))

pub end_change-requires : goal.end_change-requires
end_change-requires c = subst (λ (d : Dml). IsBuiltFor c.args.cat.now c.args.ticket d c.in-Ok.built) (sym c.requires.change) c.in-Ok.ensures

pub returns-in-Ok-end_change : goal.returns-in-Ok-end_change
returns-in-Ok-end_change c = made_answers _ _ _ _ _ _ tt c.in-Ok-end_change.ensures.ok

pub returns-in-Err : goal.returns-in-Err
returns-in-Err c =
    let open_now = subst (λ (t : Ticket). IsOpenTicket c.end_change.new.cat t) (sym c.in-Err.ensures.ticket)
    (subst (λ (b : Chronicle). IsOpenTicket b c.args.ticket) (sym c.in-Err.ensures.unchanged) (_, c.requires.ticket.seen, c.requires.ticket.is_open)) in
    let given = made_answers _ _ _ _ _ _ tt (c.abandon-in-Err.ensures reply.Memory (open_now, refl)) in
    subst (λ (t : Ticket). IsAnswered c.args.cat.now c.abandon-in-Err.new.cat t.session t.index reply.Memory) c.in-Err.ensures.ticket
    (subst (λ (b : Chronicle). IsAnswered b c.abandon-in-Err.new.cat c.in-Err.ticket.session c.in-Err.ticket.index reply.Memory) c.in-Err.ensures.unchanged given)
