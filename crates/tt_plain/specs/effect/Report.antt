-- A report tells rows, and changes nothing. EXPLAIN and the depth take their numbers from the entry.
use Rattle.std.specs.Prelude.{List, None, Option, if◌then◌else◌, length, option_map, ℕ, ◌==◌}
use Rattle.tt_history.specs.declared.history.Told.{Told}
use Rattle.tt_plain.specs.Answers.{◌>>=◌}
use Rattle.tt_plain.specs.asked.Asked.{Asked, request_asked}
use Rattle.tt_plain.specs.asked.Request.{Request, Tells}
use Rattle.tt_plain.specs.effect.Effect.{Effect}
use Rattle.tt_plain.specs.effect.Ending.{ended_with, memory_effect, told_effect, where_due}
use Rattle.tt_plain.specs.report.Rows.{report_rows}
use Rattle.tt_plain.specs.asked.Event as event
use Rattle.tt_history.specs.declared.reply.Reply.TheVariants as reply
use Rattle.tt_history.specs.declared.history.Told.TheVariants as told

abbrev pub reported_by : Asked → List ℕ → Request → Option Effect
reported_by asked numbers (Tells t) = option_map (λ rows. ended_with asked (reply.Rows rows)) (report_rows asked numbers t)
reported_by asked numbers _ = None

-- only a report that is done has numbers
abbrev pub report_told : Asked → Told → List ℕ → Option Effect
report_told asked told.Done numbers = told_effect asked told.Done (reported_by asked numbers (request_asked asked)) None
report_told asked (told.Refused number) numbers = if length numbers == 0 then told_effect asked (told.Refused number) None None else None
report_told asked told.Memory numbers = if length numbers == 0 then memory_effect asked else None

unfoldable pub report_effect : Asked → Told → List ℕ → Option Effect
report_effect asked told numbers = do
  due ← where_due event.Report asked
  report_told due told numbers
