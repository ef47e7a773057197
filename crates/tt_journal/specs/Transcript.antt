-- The transcript of a history with the replies of its statements.
use Rattle.std.specs.Prelude.{List, Some, ℕ, ◌≡◌}
use Rattle.tt_script.specs.declared.script.Script.{Script}
use Rattle.tt_history.specs.declared.history.Entry.{Entry}
use Rattle.tt_history.specs.declared.reply.Reply.{Reply}
use Rattle.tt_plain.specs.asked.Carried.{Carried}
use Rattle.tt_plain.specs.history.Complete.{IsComplete}
use Rattle.tt_plain.specs.history.Replay.{Run, replay_of}
use Rattle.tt_plain.specs.text.Transcript.{given_replies, transcript_of}

-- The history is legal and complete, and these are its statements' replies. Until a definition has its entry, the commit in front
-- of it has the line of one that is a statement of its own, so that a list of replies does not tell where each stands.
pub record AreReplies (carried : Carried) (program : Script) (history : List Entry) (replies : List Reply) : Type 0 where
  pub run : Run
  pub replayed : replay_of carried program history ≡ Some run
  pub given : given_replies run.1 ≡ replies
  pub complete : IsComplete carried program history

-- the bytes are the transcript, whatever is carried out, where these are the replies
abbrev pub IsTranscript : Script → List Entry → List Reply → List ℕ → Type 0
IsTranscript program history replies text =
    (carried : Carried) → AreReplies carried program history replies → text ≡ transcript_of carried program history
