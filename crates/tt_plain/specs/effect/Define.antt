-- A definition: one entry that changes names, tables, retention, clustering or rows.
use Rattle.std.specs.Prelude.{List, None, Option, option_map}
use Rattle.tt_history.specs.declared.history.Told.{Told}
use Rattle.tt_plain.specs.Answers.{◌>>=◌}
use Rattle.tt_plain.specs.asked.Asked.{Asked, request_asked}
use Rattle.tt_plain.specs.asked.Request.{Defines, Request}
use Rattle.tt_plain.specs.definition.Changes.{definition_changes}
use Rattle.tt_plain.specs.effect.Effect.{Effect, TableChange}
use Rattle.tt_plain.specs.effect.Ending.{ended_with, memory_effect, told_effect, where_due}
use Rattle.tt_plain.specs.tally.Changes.{TallyChange}
use Rattle.tt_plain.specs.asked.Event as event
use Rattle.tt_history.specs.declared.reply.Reply.TheVariants as reply

abbrev pub defined : Asked → List TableChange × List TallyChange → Effect
defined asked changes = record (ended_with asked reply.Ok) { tables = changes.0; tally = changes.1 }

abbrev pub defined_by : Asked → Request → Option Effect
defined_by asked (Defines d) = option_map (defined asked) (definition_changes asked d)
defined_by asked _ = None

unfoldable pub define_effect : Asked → Told → Option Effect
define_effect asked told = do
  due ← where_due event.Define asked
  told_effect due told (defined_by due (request_asked due)) (memory_effect due)
