use Rattle.tt_journal_read.proofs.Heads.{all_found, no_actor, no_first, no_index, no_moment, no_second, no_third}
use Rattle.tt_journal_read.proofs.reading.head.Goals as goal

pub returns-in_err-moment : goal.returns-in_err-moment
returns-in_err-moment c = rw c.from_residual.ensures (no_first c.args.program.now c.args.body.now c.in_err-moment.ensures)

pub returns-in_err-name : goal.returns-in_err-name
returns-in_err-name c =
    rw c.from_residual-in_err-name.ensures (no_second c.args.program.now c.args.body.now (c.in_ok-moment.moment.now, c.in_ok-moment.rest.now) c.in_ok-moment.ensures c.in_err-name.ensures)

pub returns-in_err-index : goal.returns-in_err-index
returns-in_err-index c =
    rw c.from_residual-in_err-index.ensures (no_third c.args.program.now c.args.body.now (c.in_ok-moment.moment.now, c.in_ok-moment.rest.now) c.in_ok-moment.ensures (c.in_ok-name.name.now, c.in_ok-name.rest.now) c.in_ok-name.ensures
    c.in_err-index.ensures)

pub returns-in_err-signed_number : goal.returns-in_err-signed_number
returns-in_err-signed_number c =
    rw c.from_residual-in_err-signed_number.ensures (no_moment c.args.program.now c.args.body.now (c.in_ok-moment.moment.now, c.in_ok-moment.rest.now) c.in_ok-moment.ensures (c.in_ok-name.name.now, c.in_ok-name.rest.now) c.in_ok-name.ensures
    (c.in_ok-index.index.now, c.in_ok-index.text.now) c.in_ok-index.ensures c.in_err-signed_number.ensures)

pub returns-in_err-actor : goal.returns-in_err-actor
returns-in_err-actor c =
    rw c.from_residual-in_err-actor.ensures (no_actor c.args.program.now c.args.body.now (c.in_ok-moment.moment.now, c.in_ok-moment.rest.now) c.in_ok-moment.ensures (c.in_ok-name.name.now, c.in_ok-name.rest.now) c.in_ok-name.ensures
    (c.in_ok-index.index.now, c.in_ok-index.text.now) c.in_ok-index.ensures c.in_ok-signed_number.field-0 c.in_ok-signed_number.ensures c.in_err-actor.ensures)

pub returns-in_err-number_up_to : goal.returns-in_err-number_up_to
returns-in_err-number_up_to c =
    rw c.from_residual-in_err-number_up_to.ensures (no_index c.args.program.now c.args.body.now (c.in_ok-moment.moment.now, c.in_ok-moment.rest.now) c.in_ok-moment.ensures (c.in_ok-name.name.now, c.in_ok-name.rest.now) c.in_ok-name.ensures
    (c.in_ok-index.index.now, c.in_ok-index.text.now) c.in_ok-index.ensures c.in_ok-signed_number.field-0 c.in_ok-signed_number.ensures c.in_ok-actor.field-0 c.in_ok-actor.ensures
    c.in_err-number_up_to.ensures.value)

pub returns : goal.returns
returns c =
    all_found c.args.program.now c.args.body.now (c.in_ok-moment.moment.now, c.in_ok-moment.rest.now) c.in_ok-moment.ensures (c.in_ok-name.name.now, c.in_ok-name.rest.now) c.in_ok-name.ensures
    (c.in_ok-index.index.now, c.in_ok-index.text.now) c.in_ok-index.ensures c.in_ok-signed_number.field-0 c.in_ok-signed_number.ensures c.in_ok-actor.field-0 c.in_ok-actor.ensures
    c.in_ok-number_up_to.field-0 c.in_ok-number_up_to.ensures.value
