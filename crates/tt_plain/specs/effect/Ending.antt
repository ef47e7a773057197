-- Effects by which a statement ends, and how an entry may tell of its call.
use Rattle.std.specs.Prelude.{List, None, Option, Some, [], if◌then◌else◌, is_none, ℕ, ◌==◌, ◌∷◌}
use Rattle.tt_history.specs.declared.history.Told.{Told}
use Rattle.tt_history.specs.declared.reply.Refusal.{Refusal}
use Rattle.tt_history.specs.declared.reply.Reply.{Reply}
use Rattle.tt_plain.specs.declared.store.PlainSession.{PlainSession}
use Rattle.tt_script.specs.Lines.{only_if}
use Rattle.tt_plain.specs.Answers.{◌>>=◌}
use Rattle.tt_plain.specs.asked.Asked.{Asked, own_point, request_asked, state_asked}
use Rattle.tt_plain.specs.asked.Event.{Event, first_event, is_same_event}
use Rattle.tt_plain.specs.effect.Effect.{Effect}
use Rattle.tt_plain.specs.refusal.First.{refusal_of}
use Rattle.tt_plain.specs.text.RefusalTable.{refusal_number}
use Rattle.tt_history.specs.declared.reply.Reply.TheVariants as reply
use Rattle.tt_history.specs.declared.history.Told.TheVariants as told

-- the session with the statement done and none open
abbrev pub session_done : Asked → PlainSession
session_done asked = record (state_asked asked) { done = asked.index; running = None }

-- a session's effect that changes no table and no fact, at the moment that is asked
abbrev pub session_effect : Asked → PlainSession → List (ℕ × ℕ) → Option Reply → Effect
session_effect asked state points reply =
    record { session = Some (asked.session, state); tables = []; points = points; tally = []; moment = asked.moment; reply = reply }

-- the statement's own point is the moment that is asked
abbrev pub own_point_now : Asked → List (ℕ × ℕ)
own_point_now asked = (own_point asked, asked.moment) ∷ []

-- the statement ends with a reply, and does nothing else
unfoldable pub ended_with : Asked → Reply → Effect
ended_with asked reply = session_effect asked (session_done asked) (own_point_now asked) (Some reply)

-- A refusal stands exactly where it is the one that is given, and the entry has its number.
unfoldable pub refused_effect : Asked → Option Refusal → ℕ → Option Effect
refused_effect asked given number = do
  refusal ← given
  same ← only_if (refusal_number refusal == number) refusal
  Some (ended_with asked (reply.Refused same))

-- An entry tells that its call was done, that it was refused, or that there was no memory. It is done exactly where nothing
-- is refused. Want of memory may stand in place of both, for calls that take memory.
unfoldable pub told_effect : Asked → Told → (accepted starved : Option Effect) → Option Effect
told_effect asked told.Done accepted starved = if is_none (refusal_of asked) then accepted else None
told_effect asked (told.Refused number) accepted starved = refused_effect asked (refusal_of asked) number
told_effect asked told.Memory accepted starved = starved

abbrev pub memory_effect : Asked → Option Effect
memory_effect asked = Some (ended_with asked reply.Memory)

-- the statement, where its next event is of this kind
abbrev pub where_due : Event → Asked → Option Asked
where_due event asked = only_if (is_same_event event (first_event (state_asked asked).transaction (request_asked asked))) asked
