-- Four appends, one after another.
use Rattle.std.proofs.Common.{◌∙◌}
use Rattle.tt_journal.proofs.Contents.{refusal_written}
use Rattle.tt_journal.proofs.reply.write_refusal.Goals as goal

pub returns : goal.returns
returns c = record {
  ok = refusal_written c.args.program.now c.args.refusal _ _ _ _ _ _ _ _ c.in_ok-write_number.ensures.ok c.in_ok-write_bytes.ensures.ok c.in_ok-write_bytes-2.ensures.ok c.in_ok-write_content.ensures.ok (c.from.ensures ∙ c.line-line.ensures.number) (c.as_bytes.ensures.value ∙ c.line-line.ensures.name) c.line-line.ensures.content;
}
