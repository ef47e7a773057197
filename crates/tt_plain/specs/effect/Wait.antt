-- A wait moves the clock: its entry has the next moment and its length on top.
use Rattle.std.specs.Prelude.{None, Option, Some, ℕ, ◌+◌}
use Rattle.tt_value.specs.calendar.Calendar.{milliseconds}
use Rattle.tt_history.specs.declared.history.Told.{Told}
use Rattle.tt_plain.specs.Answers.{◌>>=◌}
use Rattle.tt_plain.specs.asked.Asked.{Asked, request_asked}
use Rattle.tt_plain.specs.asked.Request.{Request, Waits}
use Rattle.tt_plain.specs.effect.Effect.{Effect}
use Rattle.tt_plain.specs.effect.Ending.{ended_with, told_effect, where_due}
use Rattle.tt_plain.specs.refusal.ClockEnd.{wait_length}
use Rattle.tt_plain.specs.asked.Event as event
use Rattle.tt_history.specs.declared.reply.Reply.TheVariants as reply

abbrev pub waited : Asked → ℕ → Effect
waited asked milliseconds = ended_with (record asked { moment = asked.moment + milliseconds }) reply.Ok

abbrev pub waited_by : Asked → Request → Option Effect
waited_by asked (Waits w) = Some (waited asked (wait_length w))
waited_by asked _ = None

-- it takes no memory
unfoldable pub wait_effect : Asked → Told → Option Effect
wait_effect asked told = do
  due ← where_due event.Wait asked
  told_effect due told (waited_by due (request_asked due)) None
