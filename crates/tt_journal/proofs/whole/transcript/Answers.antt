-- The lines of the entries and the last line are the transcript of the history.
use Rattle.tt_journal.proofs.TranscriptLaws.{transcript_answered}
use Rattle.tt_journal.proofs.whole.transcript.Goals as goal

pub returns : goal.returns
returns c = rw (c.in_ok-write_end.ensures.ok, c.in_ok-write_entries.ensures.ok, c.new-text.ensures.items) (λ carried are. transcript_answered carried c.args.program.now c.args.entries.now c.args.replies.now are)
