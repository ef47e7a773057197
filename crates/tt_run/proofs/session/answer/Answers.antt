use Rattle.tt_run.proofs.Answering.{in_range}
use Rattle.tt_run.proofs.session.answer.Goals as goal

pub unreachable-requires : goal.unreachable-requires
unreachable-requires c = in_range c.args.ticket.now c.args.query.now c.requires (c.in-Err-OutOfRange.ensures.out c.in-Err-OutOfRange.field-0-is)
