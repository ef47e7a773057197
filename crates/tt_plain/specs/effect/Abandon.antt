-- A statement that is given up: it has no effect, and the session's marks are again those before its start.
use Rattle.std.specs.Prelude.{None, Option, Some, [], ◌∷◌}
use Rattle.tt_history.specs.declared.history.Told.{Told}
use Rattle.tt_history.specs.declared.reply.Refusal.{Refusal}
use Rattle.tt_plain.specs.declared.store.PlainOpen.{PlainOpen}
use Rattle.tt_plain.specs.Answers.{◌>>=◌}
use Rattle.tt_plain.specs.asked.Asked.{Asked}
use Rattle.tt_plain.specs.effect.Effect.{Effect}
use Rattle.tt_plain.specs.effect.Ending.{ended_with, refused_effect, session_done}
use Rattle.tt_plain.specs.meaning.Outcome.{Answers, Does, Fails, Outcome, outcome_of}
use Rattle.tt_plain.specs.tally.Changes.{Unpins}
use Rattle.tt_history.specs.declared.reply.Reply.TheVariants as reply
use Rattle.tt_history.specs.declared.history.Told.TheVariants as told

abbrev pub given_up : Asked × PlainOpen → Effect → Effect
given_up found effect =
    record effect {
      session = Some (found.0.session, record (session_done found.0) { marks = found.1.marks_before });
      tally = Unpins found.0.session ∷ [];
    }

abbrev pub failure : Outcome → Option Refusal
failure (Answers rows) = None
failure (Does table removed added count) = None
failure (Fails refusal) = Some refusal

-- It is refused exactly by what the statement means over what it sees, or there was no memory.
abbrev pub abandon_told : Asked × PlainOpen → Told → Option Effect
abandon_told found told.Done = None
abandon_told found (told.Refused number) = do
  outcome ← outcome_of found.0 found.1
  effect ← refused_effect found.0 (failure outcome) number
  Some (given_up found effect)
abandon_told found told.Memory = Some (given_up found (ended_with found.0 reply.Memory))

unfoldable pub abandon_effect : Asked × PlainOpen → Told → Option Effect
abandon_effect found told = abandon_told found told
