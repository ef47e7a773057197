-- The transcript: each entry's line with its reply's lines, and the count of entries.
use Rattle.std.specs.Prelude.{List, None, Option, Some, [], codes, decimal, filter_map, flat_map, length, zip, ℕ, ◌++◌}
use Rattle.tt_script.specs.declared.script.Script.{Script}
use Rattle.tt_history.specs.declared.history.Entry.{Entry}
use Rattle.tt_history.specs.declared.reply.Reply.{Reply}
use Rattle.tt_plain.specs.asked.Carried.{Carried}
use Rattle.tt_plain.specs.history.Replay.{Run, replay_of}
use Rattle.tt_plain.specs.text.Journal.{journal_line, line_feed}
use Rattle.tt_plain.specs.text.Replies.{reply_text}

abbrev pub told_reply : Script → Option Reply → List ℕ
told_reply program None = []
told_reply program (Some r) = reply_text program r

abbrev pub entry_lines : Script → Entry × Option Reply → List ℕ
entry_lines program told = journal_line program told.0 ++ told_reply program told.1

unfoldable pub lines_of : Script → List Entry → List (Option Reply) → List ℕ
lines_of program history replies = flat_map (entry_lines program) (zip history replies)

unfoldable pub end_line : ℕ → List ℕ
end_line count = codes "%end " ++ decimal count ++ line_feed

abbrev pub text_of_run : Script → List Entry → Option Run → List ℕ
text_of_run program history None = []
text_of_run program history (Some run) = lines_of program history run.1 ++ end_line (length history)

-- the transcript of a legal history
unfoldable pub transcript_of : Carried → Script → List Entry → List ℕ
transcript_of carried program history = text_of_run program history (replay_of carried program history)

-- the replies that a run gave, in order
abbrev pub given_replies : List (Option Reply) → List Reply
given_replies told = filter_map (λ reply. reply) told
