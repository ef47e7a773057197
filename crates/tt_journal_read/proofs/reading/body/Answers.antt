use Rattle.tt_journal_read.proofs.Bodies.{body_is, no_body, no_bytes}
use Rattle.tt_journal_read.proofs.reading.body.Goals as goal
use Rattle.tt_journal_read.proofs.reading.body.Goals.{in_default-via-in-Some+else-last-eq10, in_default-via-in_default}

pub returns-in-Some : goal.returns-in-Some
returns-in-Some c = body_is c.args.line.now c.in-Some.body.now c.in-Some.last.now c.in-Some.ensures.cases.0 c.if-last-eq10.true

pub returns-in_default : goal.returns-in_default
returns-in_default c = elim c.in_default.branch [
  | in_default-via-in-Some+else-last-eq10 w ↦ no_body c.args.line.now w.in-Some.body.now w.in-Some.last.now w.in-Some.ensures.cases.0 w.if-last-eq10.false
  | in_default-via-in_default w ↦ no_bytes c.args.line.now w.in_default.ensures.cases
]
