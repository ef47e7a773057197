-- What is left of the text shrinks by an entry's lines, and is empty at the end.
use Rattle.std.proofs.Common.{subst, List, ◌++◌, ◌≡◌}
use Rattle.tt_history.specs.declared.history.Entry.{Entry}
use Rattle.tt_journal.specs.Answered.{answered_lines}
use Rattle.tt_journal.proofs.TranscriptLaws.{answered_end, answered_more}
use Rattle.tt_journal.proofs.whole.write_entries.Goals as goal

pub loop-entry-preserved : goal.loop-entry-preserved
loop-entry-preserved c =
    rw (c.in_ok-write_told_reply.ensures.ok, c.in_ok-write.ensures.ok, c.take_reply.ensures.taken, c.take_reply.ensures.others)
    (answered_more c.args.program.now c.loop-entry.out.items c.in-Some.entry.now c.in-Some.rest.now c.loop-entry.left.now _
    (subst (λ (entries : List Entry). c.loop-entry.out.items ++ answered_lines c.args.program.now entries c.loop-entry.left.now ≡ c.args.out.now.items ++ answered_lines c.args.program.now c.args.entries.now c.args.replies.now) c.in-Some.ensures.cases.0 c.loop-entry.invariant))

pub returns : goal.returns
returns c = record {
  ok = answered_end c.args.program.now c.loop-entry.out.items c.loop-entry.later.now c.loop-entry.left.now _ c.in_default.ensures.cases c.loop-entry.invariant;
}
