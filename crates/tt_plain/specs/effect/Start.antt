-- The start of a query or a change: it puts its mark and sees its rows, and its parts are pinned.
use Rattle.std.specs.Prelude.{List, None, Option, [], option_map, ◌∷◌}
use Rattle.tt_history.specs.declared.history.Told.{Told}
use Rattle.tt_plain.specs.declared.store.PlainSession.{PlainSession}
use Rattle.tt_plain.specs.declared.tally.TallyPin.{TallyPin}
use Rattle.tt_plain.specs.Answers.{◌>>=◌}
use Rattle.tt_plain.specs.asked.Asked.{Asked, own_point, request_asked}
use Rattle.tt_plain.specs.asked.Request.{Reads, Request, Writes}
use Rattle.tt_plain.specs.effect.Effect.{Effect}
use Rattle.tt_plain.specs.effect.Ending.{memory_effect, session_effect, told_effect, where_due}
use Rattle.tt_plain.specs.opening.Opened.{change_opened, query_opened}
use Rattle.tt_plain.specs.opening.Point.{query_sources}
use Rattle.tt_plain.specs.stored.Points.{no_point_yet}
use Rattle.tt_plain.specs.tally.Changes.{Pins}
use Rattle.tt_plain.specs.tally.Pins.{change_pins, source_pins}
use Rattle.tt_plain.specs.asked.Event as event

abbrev pub begun : Asked → PlainSession → List TallyPin → Effect
begun asked state pins =
    record (session_effect asked state ((own_point asked, no_point_yet) ∷ []) None) { tally = Pins asked.session pins ∷ [] }

-- nothing else begins by a start that is done
abbrev pub begun_by : Asked → Request → Option Effect
begun_by asked (Reads q) = option_map (λ state. begun asked state (source_pins asked (query_sources q))) (query_opened asked q)
begun_by asked (Writes d) = option_map (λ state. begun asked state (change_pins asked d)) (change_opened asked d)
begun_by asked _ = None

unfoldable pub start_effect : Asked → Told → Option Effect
start_effect asked told = do
  due ← where_due event.Start asked
  told_effect due told (begun_by due (request_asked due)) (memory_effect due)
