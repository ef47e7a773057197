-- BEGIN opens a transaction.
use Rattle.std.specs.Prelude.{None, Option, Some, true}
use Rattle.tt_history.specs.declared.history.Told.{Told}
use Rattle.tt_plain.specs.Answers.{◌>>=◌}
use Rattle.tt_plain.specs.asked.Asked.{Asked}
use Rattle.tt_plain.specs.effect.Effect.{Effect}
use Rattle.tt_plain.specs.effect.Ending.{ended_with, session_done, told_effect, where_due}
use Rattle.tt_plain.specs.asked.Event as event
use Rattle.tt_history.specs.declared.reply.Reply.TheVariants as reply

abbrev pub begin_done : Asked → Effect
begin_done asked =
    record (ended_with asked reply.Ok) { session = Some (asked.session, record (session_done asked) { transaction = true }) }

-- it takes no memory
unfoldable pub begin_effect : Asked → Told → Option Effect
begin_effect asked told = do
  due ← where_due event.Begin asked
  told_effect due told (Some (begin_done due)) None
