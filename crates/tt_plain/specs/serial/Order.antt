-- The order of a program that runs alone: its turns, then each session to its end, then the settle phase.
use Rattle.std.specs.List.{range_with_len}
use Rattle.std.specs.Prelude.{List, None, Option, Some, [], flat_map, fold, if◌then◌else◌, length, replicate, ◌++◌, ◌+◌, ◌∷◌, ◌≡◌}
use Rattle.tt_script.specs.declared.script.Script.{Script}
use Rattle.tt_script.specs.declared.script.Turn.{Turn}
use Rattle.tt_history.specs.declared.history.Entry.{Entry}
use Rattle.tt_plain.specs.Answers.{◌>>=◌}
use Rattle.tt_plain.specs.asked.Carried.{Carried}
use Rattle.tt_plain.specs.serial.Walk.{Walk, turn_taken}
use Rattle.tt_plain.specs.stored.Empty.{empty_store}
use Rattle.tt_script.specs.declared.script.Turn.TheVariants as turn

abbrev pub walked : Carried → Script → Option Walk → List Turn → Option Walk
walked carried program walk turns = fold (λ before turn. before >>= λ w. turn_taken carried program w turn) walk turns

-- More turns of an actor than there are entries take it to its end, since a turn with nothing to do takes none.
abbrev pub to_its_end : Turn → List Entry → List Turn
to_its_end turn entries = replicate (length entries + 1) turn

-- the turns that are written, and then each session to its end, in the order of the script
abbrev pub turns_of_sessions : Script → List Entry → List Turn
turns_of_sessions program history =
    program.turns ++ flat_map (λ session. to_its_end (turn.Session session) history) (range_with_len 0 (length program.sessions))

-- rounds until no table has a pick, then a purge; each as far as it is carried out
abbrev pub turns_of_settling : Carried → List Entry → List Turn
turns_of_settling carried history =
    (if carried.rounds then to_its_end turn.Recluster history else []) ++ (if carried.purges then turn.Purge ∷ [] else [])

abbrev pub walk_at_first : Script → List Entry → Walk
walk_at_first program history = record { store = empty_store program; contents = []; entries = history; kept = None }

-- a kept list is dropped before the settle phase
unfoldable pub walk_of : Carried → Script → List Entry → Option Walk
walk_of carried program history = do
  walk ← walked carried program (Some (walk_at_first program history)) (turns_of_sessions program history)
  walked carried program (Some (record walk { kept = None })) (turns_of_settling carried history)

-- the walk takes every entry
pub record IsSerialOrder (carried : Carried) (program : Script) (history : List Entry) : Type 0 where
  pub walk : Walk
  pub walks : walk_of carried program history ≡ Some walk
  pub spent : walk.entries ≡ []
