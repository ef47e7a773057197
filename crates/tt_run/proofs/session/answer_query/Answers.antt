use Rattle.std.proofs.Common.{refl, sym, subst}
use Rattle.tt_history.specs.declared.history.EntryKind.TheVariants as kind
use Rattle.tt_history.specs.declared.history.Told.TheVariants as told
use Rattle.tt_history.specs.declared.reply.Reply.TheVariants as reply
use Rattle.tt_catalog.specs.Ends.{IsAnswered as HasAnswer}
use Rattle.tt_run.specs.Turns.{IsAnswered}
use Rattle.tt_run.proofs.Answering.{is_answered, same_answers}
use Rattle.tt_run.proofs.TurnsLaws.{made_answers}
use Rattle.tt_run.proofs.session.answer_query.Goals as goal

pub abandon-requires : goal.abandon-requires
abandon-requires c = (reply.Memory, ((_, c.requires.ticket.seen, c.requires.ticket.is_open), refl))

pub returns-in_default : goal.returns-in_default
returns-in_default c = made_answers _ _ _ _ _ _ tt (c.abandon.ensures reply.Memory ((_, c.requires.ticket.seen, c.requires.ticket.is_open), refl))

pub end_read-requires : goal.end_read-requires
end_read-requires c = (c.in-Ok.rows, is_answered c.args.cat.now c.args.ticket c.args.query.now c.in-Ok.rows c.requires.reads c.requires.ticket c.in-Ok.ensures)

pub returns : goal.returns
returns c =
    let made = c.end_read.ensures in
    let same = same_answers c.args.cat.now c.args.ticket made.0 c.in-Ok.rows made.1 (is_answered c.args.cat.now c.args.ticket c.args.query.now c.in-Ok.rows c.requires.reads c.requires.ticket c.in-Ok.ensures) in
    subst (λ rows. IsAnswered c.args.cat.now c.end_read.new.cat c.args.ticket.session c.args.ticket.index (reply.Rows rows)) same (made_answers _ _ _ _ _ _ tt made.2)
