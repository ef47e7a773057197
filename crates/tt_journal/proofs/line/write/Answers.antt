-- Nine appends, one after another.
use Rattle.std.proofs.Common.{append_assoc}
use Rattle.tt_plain.specs.text.Journal.{journal_line}
use Rattle.tt_journal.proofs.line.write.Goals as goal

pub returns : goal.returns
unfolding journal_line
returns c = record {
  ok = rw (c.in_ok-write_bytes-5.ensures.ok, c.in_ok-write_kind.ensures.ok, c.in_ok-write_bytes-4.ensures.ok, c.in_ok-write_number-2.ensures.ok, c.in_ok-write_bytes-3.ensures.ok, c.in_ok-write_actor.ensures.ok, c.in_ok-write_bytes-2.ensures.ok, c.in_ok-write_number.ensures.ok, c.in_ok-write_bytes.ensures.ok) (simp append_assoc);
}
